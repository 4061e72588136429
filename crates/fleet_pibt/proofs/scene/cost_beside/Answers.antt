-- The cost of a neighbour, by whether it is nearer.
use Rattle.std.proofs.Common.{Bool, ℕ, cond, ap, sym}
use Rattle.fleet_pibt.proofs.scene.cost_beside.Goals as goal

pub returns-then-is_nearer : goal.returns-then-is_nearer
returns-then-is_nearer c = ap (λ (is_nearer : Bool). cond {A = ℕ} is_nearer 0 2) (sym c.if-is_nearer.true)

pub returns-else-is_nearer : goal.returns-else-is_nearer
returns-else-is_nearer c = ap (λ (is_nearer : Bool). cond {A = ℕ} is_nearer 0 2) (sym c.if-is_nearer.false)
