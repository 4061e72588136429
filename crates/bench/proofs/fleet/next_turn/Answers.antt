-- The wait of a robot on its goal.
use Rattle.std.proofs.Common.{refl}
use Rattle.bench.proofs.fleet.next_turn.Goals as goal

pub returns-then-goal-cell-clause-wait : goal.returns-then-goal-cell-clause-wait
returns-then-goal-cell-clause-wait c = refl
