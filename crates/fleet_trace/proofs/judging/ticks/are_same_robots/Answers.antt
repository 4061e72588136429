use Rattle.fleet_history.specs.declared.history.Bye.{Bye}
use Rattle.fleet_trace.proofs.ErrandNames.{impossible}
use Rattle.fleet_trace.proofs.EntryByEntry.{same_at}
use Rattle.fleet_trace.proofs.judging.ticks.are_same_robots.Goals as goal

pub returns-then-farewells-i : goal.returns-then-farewells-i
returns-then-farewells-i c = (
  λ never. absurd (impossible never),
  λ same. absurd (c.if-farewells-i.true (same_at (λ (b : Bye). b.robot) c.args.farewells.now c.args.others.now c.loop-i.i record { robot = 0; stamp = 0 } same c.loop-i-test.true c.if-farewells-others.false)),
)
