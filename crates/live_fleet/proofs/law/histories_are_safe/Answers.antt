-- Each was sound where it was handed out.
use Rattle.fleet_talk.specs.Chapters.{beginning}
use Rattle.live_fleet.specs.Out.{chapters_of}
use Rattle.live_fleet.proofs.Laws.{runs-turned, turned-safe}
use Rattle.live_fleet.proofs.Plays.{plays-run}
use Rattle.live_fleet.proofs.law.histories_are_safe.Goals as goal

pub returns : goal.returns
returns c = λ s t events acts plays.
    turned-safe (beginning s.at.fleet.talk.world) (chapters_of acts) (beginning t.at.fleet.talk.world) (runs-turned s.at.fleet.talk acts t.at.fleet.talk (plays-run plays).runs)
