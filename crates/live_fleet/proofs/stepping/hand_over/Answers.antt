-- The chapter that is handed out is the one that the world was in.
use Rattle.fleet_world.specs.Keeps.{talk}
use Rattle.live_fleet.proofs.Steps.{hands-over}
use Rattle.live_fleet.proofs.stepping.hand_over.Goals as goal

pub returns-in-Ok : goal.returns-in-Ok
returns-in-Ok g c =
    hands-over (talk c.args.session.now) (talk c.next_chapter.new.self) c.args.chapters.now.items c.push_reserved.new.self.items c.in-Ok.chapter c.in-Ok.ensures.number c.in-Ok.ensures.history
    (record { legal = c.in-Ok.ensures.legal; advancing = c.in-Ok.ensures.advancing; served = c.in-Ok.ensures.served }) c.in-Ok.ensures.next c.push_reserved.ensures.items
