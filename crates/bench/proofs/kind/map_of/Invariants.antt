use Rattle.std.proofs.Common.{◌≡◌, ◌≤◌, ◌*◌, vec_len, vec_capacity}
use Rattle.bench.proofs.kind.map_of.Given as goal

abbrev pub invariant-loop-cell : goal.invariant-loop-cell
invariant-loop-cell l = record { count : vec_len l.cells ≡ l.cell; room : l.height * l.width ≤ vec_capacity l.cells }
