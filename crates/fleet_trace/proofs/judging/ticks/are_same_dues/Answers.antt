use Rattle.std.proofs.Common.{◌∙◌, sym}
use Rattle.fleet_history.specs.Legal.{due_of}
use Rattle.fleet_trace.proofs.ErrandNames.{impossible}
use Rattle.fleet_trace.proofs.EntryByEntry.{same_at}
use Rattle.fleet_trace.proofs.judging.ticks.are_same_dues.Goals as goal

pub returns-then-not-is_same_due : goal.returns-then-not-is_same_due
returns-then-not-is_same_due c = (
  λ never. absurd (impossible never),
  λ same. absurd (impossible (sym c.if-not-is_same_due.true ∙ c.is_same_due.ensures.1 (same_at due_of c.args.arrived.now c.args.others.now c.loop-i.i record { robot = 0; client = 0; number = 0; stamp = 0 } same c.loop-i-test.true c.if-arrived-others.false))),
)
