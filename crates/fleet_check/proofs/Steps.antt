-- From the faults to the step.
use Rattle.std.proofs.Common.{◌≡◌, ℕ, ◌<◌, ◌≤◌, true, false, eqb, List, length, get_or, slice_index, subst, ◌∙◌, arith, rules}
use Rattle.std.specs.List.{list_any}
use Rattle.std.proofs.lemmas.Bool.{ne_eqb}
use Rattle.std.proofs.lemmas.List.{get_or_default}
use Rattle.std.proofs.lemmas.Map.Keys.{IsDistinct-from_apart}
use Rattle.std.proofs.lemmas.Map.Steps.{length-le_from_distinct_below}
use Rattle.std.proofs.lemmas.Map.Views.{Contains-from_any}
use Rattle.fleet_grid.specs.Floor.{Floor, HasForm, IsFloor}
use Rattle.fleet_grid.specs.Step.{IsPlacement, IsConflictFree}
use Rattle.fleet_grid.proofs.Forms.{floor_inside, few_cells}
use Rattle.fleet_check.specs.Fault.{AreMoves, ShareCell, Exchange}

-- a placement has no more robots than its map has cells
pub few_robots : (m : Floor) (place : List ℕ) → HasForm m → IsPlacement m place → length place ≤ 1048576
few_robots m place form p =
    let most = length-le_from_distinct_below place (length m.letters) (IsDistinct-from_apart eqb place apart) within in
    let few = few_cells m form in
    omega (arith, most, few)
  where
    apart : (i j d : ℕ) → i < j → j < length place → eqb (get_or place i d) (get_or place j d) ≡ false
    apart i j d less inner = ne_eqb (get_or place i d) (get_or place j d) (λ e. p.distinct i j less inner
        (get_or_default place i 0 d (omega (arith, less, inner)) ∙ (e ∙ get_or_default place j d 0 inner)))

    within : (q : ℕ) → list_any (eqb q) place ≡ true → q < length m.letters
    within q h =
        let at = Contains-from_any {eq = eqb} (λ x y e. eqb_true x y e) q place h in
        let floor : IsFloor m (slice_index place at.0) = p.on_floor at.0 at.1 in
        let same : slice_index place at.0 ≡ q = get_or_default place at.0 0 q at.1 ∙ at.2 in
        subst (λ (c : ℕ). c < length m.letters) same (floor_inside m (slice_index place at.0) floor)
      where
        eqb_true : (x y : ℕ) → eqb x y ≡ true → x ≡ y
        eqb_true x y e = search (rules, e)

pub no_conflict : (m : Floor) (from to : List ℕ) → AreMoves m from to → ((i j : ℕ) → i < j → j < length from → ShareCell to i j → ⊥) → ((i j : ℕ) → i < j → j < length from → Exchange from to i j → ⊥) → IsConflictFree m from to
no_conflict m from to a v s = record {
  same_length = a.on_floor.same_length;
  on_floor = a.on_floor.on_floor;
  moves = a.moves;
  no_vertex_conflict = v;
  no_swapping_conflict = λ i j less inner e f. s i j less inner (e, f);
}
