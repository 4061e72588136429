-- The chapter of a world may be kept.
use Rattle.fleet_talk.proofs.Keeping.{sound-is}
use Rattle.fleet_live.proofs.listeners.LiveListeners.keep_last.Goals as goal

pub keep_last-requires : goal.keep_last-requires
keep_last-requires g c =
    let w = c.args.party.now.fleet.session.world.core in
    record { sound = (w.turns, w.floor, sound-is w.turns w.floor _ _ c.chapter.ensures.history c.chapter.ensures.legal c.chapter.ensures.advancing c.chapter.ensures.served) }
