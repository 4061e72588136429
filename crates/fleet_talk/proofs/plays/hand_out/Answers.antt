-- The chapter that is handed out is the one that the world was in.
use Rattle.fleet_world.specs.Keeps.{talk}
use Rattle.fleet_talk.proofs.Onces.{hands-over}
use Rattle.fleet_talk.proofs.plays.hand_out.Goals as goal

pub returns-in-Ok : goal.returns-in-Ok
returns-in-Ok g c =
    record { ok = hands-over (talk c.args.session.now) (talk c.next_chapter.new.self) c.in-Ok.chapter c.in-Ok.ensures.number c.in-Ok.ensures.history c.in-Ok.ensures.legal c.in-Ok.ensures.advancing c.in-Ok.ensures.served c.in-Ok.ensures.next }
