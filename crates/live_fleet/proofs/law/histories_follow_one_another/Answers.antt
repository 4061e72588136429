-- The acts are a run of the core.
use Rattle.live_fleet.proofs.Laws.{runs-turned}
use Rattle.live_fleet.proofs.Plays.{plays-run}
use Rattle.live_fleet.proofs.law.histories_follow_one_another.Goals as goal

pub returns : goal.returns
returns c = λ s t events acts plays. runs-turned s.at.fleet.talk acts t.at.fleet.talk (plays-run plays).runs
