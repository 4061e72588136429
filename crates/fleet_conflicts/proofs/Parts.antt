-- What was added to a list.
use Rattle.std.proofs.Common.{◌≡◌, ℕ, Bool, true, false, not, List, [], ◌∷◌, ◌++◌, Result, Ok, Err, OnOk, if◌then◌else◌, slice_index, refl, ap, ◌∙◌}
use Rattle.std.specs.Prelude.{◌↔◌, IsTrue}
use Rattle.std.proofs.lemmas.List.{append_assoc}
use Rattle.fleet_grid.specs.Floor.{Floor, IsFloor}
use Rattle.fleet_check.specs.declared.fault.StepFault.{StepFault}
use Rattle.fleet_check.specs.declared.fault.StepFault.TheVariants.{OffFloor, NotAdjacent, Vertex, Swap}
use Rattle.fleet_check.specs.Fault.{Moves}
use Rattle.fleet_conflicts.specs.Conflicts.{IsPart, IsPair, there, not_there, Shares, Swaps, OfRobot}

-- the fault is added if it is not so
part_of : (Good : Type 0) (good : Bool) (fault : StepFault) (old new : List StepFault) → (IsTrue good ↔ Good) → new ≡ old ++ (if not good then fault ∷ [] else [])
    → (now : List StepFault) × IsPart (Good → ⊥) fault now × (new ≡ old ++ now)
part_of Good true fault old new e is = ([], not_there (λ bad. bad (e.0 refl)) refl, is)
part_of Good false fault old new e is = (fault ∷ [], there (λ good. let bad : false ≡ true = e.1 good in absurd cc) refl, is)

pub add_part : {E : Type 0} (r : Result (Unit {0}) E) (Good : Type 0) (good : Bool) (fault : StepFault) (old new : List StepFault) → (IsTrue good ↔ Good)
    → OnOk r (new ≡ old ++ (if not good then fault ∷ [] else [])) → OnOk r ((now : List StepFault) × IsPart (Good → ⊥) fault now × (new ≡ old ++ now))
add_part (Ok u) Good good fault old new e is = part_of Good good fault old new e is
add_part (Err f) Good good fault old new e is = tt

four : (old a b c d : List StepFault) → (((old ++ a) ++ b) ++ c) ++ d ≡ old ++ (a ++ (b ++ (c ++ d)))
four old a b c d = append_assoc ((old ++ a) ++ b) c d ∙ (append_assoc (old ++ a) b (c ++ d) ∙ append_assoc old a (b ++ (c ++ d)))

-- the list was longer by these
abbrev Added : (List StepFault → Type 0) → List StepFault → List StepFault → Type 0
Added Is old new = (now : List StepFault) × Is now × (new ≡ old ++ now)

module _ (m : Floor) (from to : List ℕ) (r : ℕ) where
  added : (old one two three new : List StepFault) → Added (IsPart (IsFloor m (slice_index to r) → ⊥) (OffFloor r)) old one → Added (IsPart (Moves m from to r → ⊥) (NotAdjacent r)) one two
      → Added (IsPair (Shares to r) (λ j. Vertex j r)) two three → Added (IsPair (Swaps from to r) (λ j. Swap j r)) three new → Added (OfRobot m from to r) old new
  added old one two three new a b c d = (
    a.0 ++ (b.0 ++ (c.0 ++ d.0)),
    record { off = a.0; far = b.0; shared = c.0; swapped = d.0; is_off = a.1; is_far = b.1; is_shared = c.1; is_swapped = d.1; all = refl },
    d.2 ∙ (ap (λ (l : List StepFault). l ++ d.0) (c.2 ∙ ap (λ (l : List StepFault). l ++ c.0) (b.2 ∙ ap (λ (l : List StepFault). l ++ b.0) a.2)) ∙ four old a.0 b.0 c.0 d.0),
  )

  pub add_all : {E : Type 0} (o : Result (Unit {0}) E) (old one two three new : List StepFault) → Added (IsPart (IsFloor m (slice_index to r) → ⊥) (OffFloor r)) old one
      → Added (IsPart (Moves m from to r → ⊥) (NotAdjacent r)) one two → Added (IsPair (Shares to r) (λ j. Vertex j r)) two three → OnOk o (Added (IsPair (Swaps from to r) (λ j. Swap j r)) three new)
      → OnOk o (Added (OfRobot m from to r) old new)
  add_all (Ok u) old one two three new a b c d = added old one two three new a b c d
  add_all (Err e) old one two three new a b c d = tt
