-- The chapter was handed out, or nothing changed.
use Rattle.std.proofs.Common.{refl, ap, map}
use Rattle.fleet_talk.specs.Chapters.{chapter_shown}
use Rattle.fleet_world.specs.Keeps.{talk}
use Rattle.live_fleet.specs.Out.{out_of}
use Rattle.live_fleet.specs.Went.{at_of}
use Rattle.live_fleet.proofs.Steps.{hands-out-if}
use Rattle.live_fleet.proofs.stepping.hand_out.Goals as goal

pub returns-clause-ok : goal.returns-clause-ok
returns-clause-ok g c =
    hands-out-if c.hand_over.result (at_of c.args.fleet.now c.args.out.now)
    (record { fleet = record { talk = talk c.hand_over.new.session; met = c.args.fleet.now.limited; recalls = c.args.fleet.now.recalls }; out = out_of (record c.args.out.now { chapters = c.hand_over.new.chapters }) })
    (map chapter_shown c.reserve.new.self.items) (ap (map chapter_shown) c.reserve.ensures.items) c.hand_over.ensures refl refl refl
