-- The last chapter may be kept, and is the one that the fleet is in.
use Rattle.fleet_history.specs.History.{history_of}
use Rattle.fleet_world.specs.Keeps.{talk}
use Rattle.fleet_talk.proofs.Keeping.{keeps-last, sound-is}
use Rattle.fleet_talk.proofs.conversation.close.Goals as goal

pub keep_last-requires : goal.keep_last-requires
keep_last-requires g c =
    let world = c.args.fleet.session.world.core in
    record { sound = (world.turns, world.floor, sound-is world.turns world.floor world.history (history_of c.finish-grid.result.1) c.finish-grid.ensures.history c.finish-grid.ensures.legal c.finish-grid.ensures.advancing c.finish-grid.ensures.served) }

pub returns-clause-kept : goal.returns-clause-kept
returns-clause-kept g c =
    keeps-last c.keep_last.result (g.S.ChapterSink.kept c.args.sink.now) (g.S.ChapterSink.kept c.keep_last.new.sink) (talk c.args.fleet.session) c.finish-grid.result.1.number (history_of c.finish-grid.result.1) c.finish-grid.ensures.number c.finish-grid.ensures.history c.finish-grid.ensures.legal c.finish-grid.ensures.advancing c.finish-grid.ensures.served c.keep_last.ensures.kept
