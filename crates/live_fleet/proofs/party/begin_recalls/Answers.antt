-- The clients of the chapter are those of the history.
use Rattle.std.proofs.lemmas.Result.{on_ok_weaker}
use Rattle.fleet_history.specs.History.{history_of}
use Rattle.live_fleet.proofs.Kept.{begun-from, recalled-from}
use Rattle.live_fleet.proofs.party.begin_recalls.Goals as goal

pub returns-clause-begun : goal.returns-clause-begun
returns-clause-begun g c =
    on_ok_weaker c.begin.result
    (λ all. begun-from c.args.session.now.world.core.history (history_of c.chapter.result.now) c.as_slice.result.now c.args.recalls.now c.begin.new.self c.chapter.ensures.history c.as_slice.ensures all) c.begin.ensures.begun

pub returns-clause-recalled : goal.returns-clause-recalled
returns-clause-recalled g c =
    on_ok_weaker c.begin.result
    (λ wide. recalled-from c.args.session.now.world.core.history (history_of c.chapter.result.now) c.as_slice.result.now c.begin.new.self c.chapter.ensures.history c.as_slice.ensures c.begin.ensures.few wide) c.begin.ensures.wide
