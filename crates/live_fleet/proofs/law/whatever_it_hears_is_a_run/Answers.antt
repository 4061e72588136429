-- Each event keeps it.
use Rattle.live_fleet.proofs.Keeps.{unread-keeps}
use Rattle.live_fleet.proofs.Plays.{plays-run}
use Rattle.live_fleet.proofs.law.whatever_it_hears_is_a_run.Goals as goal

pub returns : goal.returns
returns c = λ s t events acts. (λ plays. plays-run plays, λ plays. (unread-keeps s events acts t plays).went)
