use Rattle.std.proofs.Common.{◌≡◌, ◌<◌, ℕ}
use Rattle.std.specs.Prelude.{slice_index_or}
use Rattle.fleet_c.specs.declared.standing.Standing.{Standing}
use Rattle.fleet_c.specs.inside.Runs.{begun}
use Rattle.fleet_c.proofs.standings.begin_all.Given as goal

abbrev pub invariant-loop-robot : goal.invariant-loop-robot
invariant-loop-robot l = (r : ℕ) (d : Standing) → r < l.robot → slice_index_or l.standings r d ≡ begun l.core r
