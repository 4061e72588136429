-- It is by each act.
use Rattle.live_fleet.proofs.Kept.{kept-by}
use Rattle.live_fleet.proofs.Plays.{plays-run}
use Rattle.live_fleet.proofs.law.notices_are_kept.Goals as goal

pub returns : goal.returns
returns c = λ s t events acts plays client recalled. kept-by client acts s.at.fleet.recalls t.at.fleet.recalls (plays-run plays).recalls recalled
