-- What clients were told has begun.
use Rattle.live_fleet.proofs.Kept.{if-so}
use Rattle.live_fleet.proofs.party.begin_clients.Goals as goal

pub returns-clause-begun : goal.returns-clause-begun
returns-clause-begun g c = if-so c.new_notes.result c.in_ok-begin_recalls.ensures.begun

pub returns-clause-recalled : goal.returns-clause-recalled
returns-clause-recalled g c = if-so c.new_notes.result c.in_ok-begin_recalls.ensures.recalled
