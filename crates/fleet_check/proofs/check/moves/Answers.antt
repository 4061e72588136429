-- The test of a robot that stays, and of one that does not.
use Rattle.std.proofs.Common.{inl, inr, eq-eqb}
use Rattle.fleet_check.proofs.check.moves.Goals as goal

pub returns-then-to-from : goal.returns-then-to-from
returns-then-to-from g c = (λ t. inl c.if-to-from.true, λ s. eq-eqb c.args.to c.args.from c.if-to-from.true)

pub returns-else-to-from : goal.returns-else-to-from
returns-else-to-from g c = (
  λ t. inr (c.has_edge.ensures.0 t),
  λ s. elim s [ inl e ↦ absurd (c.if-to-from.false e) | inr n ↦ c.has_edge.ensures.1 n ],
)
