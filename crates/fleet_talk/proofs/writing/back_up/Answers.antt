-- The chapter that goes on is sound, and that of the world.
use Rattle.fleet_talk.proofs.Keeping.{sound-is}
use Rattle.fleet_talk.proofs.writing.back_up.Goals as goal

pub log-requires : goal.log-requires
log-requires g c =
    let w = c.args.session.now.world.core in
    record { sound = (w.turns, w.floor, sound-is w.turns w.floor _ _ c.chapter.ensures.history c.chapter.ensures.legal c.chapter.ensures.advancing c.chapter.ensures.served) }
