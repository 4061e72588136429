use Rattle.std.proofs.Common.{◌≡◌, ℕ, ◌<◌, ◌⊎◌, ◌↔◌, inl, inr, IsTrue, Bool, false, List, [], ◌∷◌, length, slice_index, refl, sym, ◌∙◌, arith}
use Rattle.std.proofs.lemmas.Bool.{cases_eq, false≢true}
use Rattle.fleet_grid.specs.Floor.{Floor}
use Rattle.fleet_field.specs.declared.growing.GrowingField.{GrowingField}
use Rattle.fleet_field.specs.Growing.{IsFound, IsOver, IsSettled}
use Rattle.fleet_field.proofs.growing.GrowingField.reach.Goals as goal

-- where the search has not come to the cell, the round is over
over : {A : Type 0} (m : Floor) (f : GrowingField A) (cell : ℕ) → IsFound m f cell ⊎ IsOver f → slice_index f.labels.items cell ≡ 0 → IsOver f
over m f cell (inl found) none = absurd (found.here none)
over m f cell (inr is) none = is

pub go_round-requires-in-loop-self-clause-serves : goal.go_round-requires-in-loop-self-clause-serves
go_round-requires-in-loop-self-clause-serves g c =
    let is = over c.args.grid.now c.loop-self.self c.args.cell c.loop-self.invariant.done (c.is_open.ensures.0 c.loop-self-test.true).0 in
    c.go_on.ensures.serves c.args.grid.now c.loop-self.invariant.serves is.left is.emptied

empty_or : (xs : List ℕ) → (xs ≡ []) ⊎ (0 < length xs)
empty_or [] = inl refl
empty_or (x ∷ xs) = inr (omega arith)

settled_by : {A : Type 0} (m : Floor) (f : GrowingField A) (cell : ℕ) (test : Bool) → IsFound m f cell ⊎ IsOver f
    → IsTrue test ↔ ((slice_index f.labels.items cell ≡ 0) × (0 < length f.later.items)) → test ≡ false → IsSettled m f cell
settled_by m f cell test (inl found) h e = inl found
settled_by m f cell test (inr is) h e = elim (cases_eq (slice_index f.labels.items cell) 0) [
  | inl z ↦ elim (empty_or f.later.items) [
    | inl empty ↦ inr (is, inr empty)
    | inr some ↦ absurd (false≢true (sym e ∙ h.1 (z, some)))
  ]
  | inr come ↦ inr (is, inl come)
]

pub returns-clause-settled : goal.returns-clause-settled
returns-clause-settled g c =
    settled_by c.args.grid.now c.loop-self.self c.args.cell c.is_open.result c.loop-self.invariant.done c.is_open.ensures c.loop-self-test.false
