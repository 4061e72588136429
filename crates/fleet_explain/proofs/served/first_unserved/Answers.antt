-- A run is passed over, or is the first.
use Rattle.std.proofs.Common.{sym, ◌∙◌}
use Rattle.fleet_explain.proofs.Serves.{passed_at, stopped_at}
use Rattle.fleet_explain.proofs.served.first_unserved.Goals as goal

pub loop-run-preserved : goal.loop-run-preserved
loop-run-preserved c =
    passed_at c.args.clients c.args.runs.now c.loop-run.run-index c.run-item.result c.loop-run-test.true c.run-item.is (sym c.is_served.ensures ∙ c.if-not-is_served.false) ∙ c.loop-run.invariant

pub returns-then-not-is_served : goal.returns-then-not-is_served
returns-then-not-is_served c =
    sym (stopped_at c.args.clients c.args.runs.now c.loop-run.run-index c.run-item.result c.loop-run-test.true c.run-item.is (sym c.is_served.ensures ∙ c.if-not-is_served.true)) ∙ c.loop-run.invariant
