-- The acts are a run, and all is told right.
use Rattle.std.proofs.Common.{refl}
use Rattle.live_fleet.specs.Law.{clients_in}
use Rattle.live_fleet.proofs.Once.{told-once}
use Rattle.live_fleet.proofs.Plays.{plays-right, plays-run}
use Rattle.live_fleet.proofs.law.notices_are_told_once.Goals as goal

pub returns : goal.returns
returns c = λ s t events acts plays client known none.
    let rights = plays-right (clients_in s.speakers) refl plays in
    told-once (clients_in s.speakers) client s.at.fleet.talk acts t.at.fleet.talk known none rights.right (plays-run plays).runs
