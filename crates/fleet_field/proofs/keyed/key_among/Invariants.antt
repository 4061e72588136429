use Rattle.std.proofs.Common.{◌≡◌, ℕ, ◌<◌, Some}
use Rattle.slab.specs.Slab.{get}
use Rattle.fleet_field.specs.Field.{Aim}
use Rattle.fleet_field.specs.declared.store.Held.{Held}
use Rattle.fleet_field.proofs.keyed.key_among.Given as goal

abbrev pub invariant-loop-key : goal.invariant-loop-key
invariant-loop-key g l = (k : ℕ) → k < l.key → (at : Held Aim) → get l.slab k ≡ Some at → at.field.goal ≡ l.goal → ⊥
