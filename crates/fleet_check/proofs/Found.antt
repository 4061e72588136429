-- Robots that are found in a table for their own cells.
use Rattle.std.proofs.Common.{◌≡◌, ◌≢◌, ℕ, ◌-◌, ◌<◌, ◌≤◌, ◌⊎◌, inl, inr, true, false, true≢false, List, length, slice_index, lt-ltb, refl, sym, ap, subst, ◌∙◌, arith}
use Rattle.std.proofs.lemmas.Bool.{eq-eqb}
use Rattle.fleet_grid.specs.Floor.{Floor, IsFloor, IsBeside, IsNeighbour, IsNeighbourIn, cell_across}
use Rattle.fleet_grid.specs.declared.dir.Dir.{Dir}
use Rattle.fleet_grid.specs.declared.dir.Dir.TheVariants.{North, East, South, West}
use Rattle.fleet_grid.proofs.Edges.{beside_across}
use Rattle.fleet_grid.specs.Step.{IsPlacement, IsConflictFree}
use Rattle.fleet_check.specs.inside.Slots.{found, AreFound, is_swap_with, is_swap}

-- an open way to the cell on that side is an edge
pub edge_by : (m : Floor) (from to : ℕ) (dir : Dir) → to ≡ cell_across m.width from dir → ((w : ℕ) × IsNeighbourIn m dir from w) → IsNeighbour m from to
edge_by m from to dir is way = (dir, subst (IsNeighbourIn m dir from) (beside_across m.width dir from way.0 way.1.beside ∙ sym is) way.1)

-- an edge to the cell is an open way to the side on which it is
pub way_by : (m : Floor) (from to : ℕ) (found : Dir) → ((dir : Dir) → IsBeside m.width dir from to → IsBeside m.width found from to) → IsNeighbour m from to → (w : ℕ) × IsNeighbourIn m found from w
way_by m from to found each edge = (to, record { from = edge.1.from; to = edge.1.to; beside = each edge.0 edge.1.beside })

-- on which side of a cell another is that has a greater number, if it is next to it
module _ (width from to : ℕ) (less : from < to) where
  pub south_by : to - from ≡ width → (dir : Dir) → IsBeside width dir from to → IsBeside width South from to
  south_by steps dir beside = omega (arith, less, steps)

  pub east_by : to - from ≢ width → to - from ≡ 1 → (dir : Dir) → IsBeside width dir from to → IsBeside width East from to
  east_by other one North p = absurd (omega (arith, p, less))
  east_by other one East p = p
  east_by other one South p = absurd (other (omega (arith, p)))
  east_by other one West p = absurd (omega (arith, p.0, less))

  pub not_after : to - from ≢ width → to - from ≢ 1 → (dir : Dir) → IsBeside width dir from to → ⊥
  not_after other far North p = omega (arith, p, less)
  not_after other far East p = far (omega (arith, p.0))
  not_after other far South p = other (omega (arith, p))
  not_after other far West p = omega (arith, p.0, less)

-- and that has none
module _ (width from to : ℕ) (high : to ≤ from) where
  pub north_by : from - to ≡ width → (dir : Dir) → IsBeside width dir from to → IsBeside width North from to
  north_by steps dir beside = omega (arith, high, steps)

  pub west_by : from - to ≢ width → from - to ≡ 1 → (dir : Dir) → IsBeside width dir from to → IsBeside width West from to
  west_by other one North p = absurd (other (omega (arith, p)))
  west_by other one East p = absurd (omega (arith, p.0, high))
  west_by other one South p = absurd (omega (arith, p, high, one))
  west_by other one West p = p

  pub not_before : from - to ≢ width → from - to ≢ 1 → (dir : Dir) → IsBeside width dir from to → ⊥
  not_before other far North p = other (omega (arith, p))
  not_before other far East p = omega (arith, p.0, high)
  not_before other far South p = other (omega (arith, p, high))
  not_before other far West p = far (omega (arith, p.0))

-- where each robot is found and none exchanges its cell with one before it
module _ (m : Floor) (from to slots : List ℕ) (same : length to ≡ length from) (all : AreFound slots to (length to)) where
  swapped : (i j : ℕ) → i < j → j < length from → slice_index to i ≡ slice_index from j → slice_index to j ≡ slice_index from i → is_swap slots from to j ≡ true
  swapped i j order inner there back =
      let is : found slots to (slice_index from j) ≡ i = ap (found slots to) (sym there) ∙ all i (omega (arith, order, inner, same)) in
      subst (λ (x : ℕ). is_swap_with from to j x ≡ true) (sym is)
      (rw (lt-ltb i j order, eq-eqb (slice_index to i) (slice_index from j) there, eq-eqb (slice_index from i) (slice_index to j) (sym back)) refl)

  pub is_free : IsPlacement m from → ((r : ℕ) → r < length from → (slice_index to r ≡ slice_index from r) ⊎ IsNeighbour m (slice_index from r) (slice_index to r))
      → ((r : ℕ) → r < length from → is_swap slots from to r ≡ false) → IsConflictFree m from to
  is_free placed moves none = record {
    same_length = same;
    on_floor = λ r less. elim (moves r less) [ inl stays ↦ subst (λ (c : ℕ). IsFloor m c) (sym stays) (placed.on_floor r less) | inr edge ↦ edge.1.to ];
    moves = moves;
    no_vertex_conflict = λ i j order inner e.
        let one = sym (all i (omega (arith, order, inner, same))) ∙ (ap (found slots to) e ∙ all j (omega (arith, inner, same))) in
        omega (arith, order, one);
    no_swapping_conflict = λ i j order inner there back. true≢false (sym (swapped i j order inner there back) ∙ none j inner);
  }
