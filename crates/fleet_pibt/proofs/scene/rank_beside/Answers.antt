-- The rank of a neighbour.
use Rattle.std.proofs.Common.{ℕ, ◌+◌, ap}
use Rattle.fleet_pibt.proofs.scene.rank_beside.Goals as goal

pub returns : goal.returns
returns c = ap (λ (n : ℕ). n + 1) c.from.ensures
