-- The table of open ways, as it is made.
use Rattle.std.proofs.Common.{◌≡◌, ℕ, ◌+◌, ◌<◌, ◌↔◌, ◌++◌, ◌∷◌, [], inl, inr, List, length, slice_index, IsTrue, Bool, true, false, sym, ap, subst, ◌∙◌, arith}
use Rattle.std.proofs.lemmas.Bool.{cases_eq, false≢true}
use Rattle.std.proofs.lemmas.List.{length-append, get_or_append_left, get_or_push}
use Rattle.fleet_grid.specs.declared.dir.Dir.{Dir}
use Rattle.fleet_grid.specs.declared.dir.Dir.TheVariants.{North, East, South, West}
use Rattle.fleet_grid.specs.Floor.{Floor, is_floor, IsFloor, IsBeside, IsNeighbourIn, cell_across}
use Rattle.fleet_grid.specs.Ways.{IsWay, AreOpen}
use Rattle.fleet_grid.proofs.Edges.{beside_once, beside_across}

-- the map has a cell on that side: the way is open exactly where it is floor
pub leads_on : (m : Floor) (cell other : ℕ) (dir : Dir) → IsFloor m cell → other ≡ cell_across m.width cell dir → IsBeside m.width dir cell (cell_across m.width cell dir)
    → is_floor m other ≡ true ↔ ((w : ℕ) × IsNeighbourIn m dir cell w)
leads_on m cell other dir floor e there =
    let beside : IsBeside m.width dir cell other = subst (IsBeside m.width dir cell) (sym e) there in (
      λ on. (other, record { from = floor; to = on; beside = beside }),
      λ way. subst (IsFloor m) (sym (beside_once m.width dir cell other way.0 beside way.1.beside)) way.1.to,
    )

-- it has none there: the way is shut
pub leads_nowhere : (m : Floor) (cell : ℕ) (dir : Dir) → (IsBeside m.width dir cell (cell_across m.width cell dir) → ⊥) → false ≡ true ↔ ((w : ℕ) × IsNeighbourIn m dir cell w)
leads_nowhere m cell dir none = (
  λ e. absurd (false≢true e),
  λ way. absurd (none (subst (IsBeside m.width dir cell) (beside_across m.width dir cell way.0 way.1.beside) way.1.beside)),
)

-- a byte of the four answers
pub four_open : (m : Floor) (cell byte : ℕ) (n e s w : Bool)
    → IsWay byte North ↔ IsTrue n → IsWay byte East ↔ IsTrue e → IsWay byte South ↔ IsTrue s → IsWay byte West ↔ IsTrue w
    → IsTrue n ↔ ((b : ℕ) × IsNeighbourIn m North cell b) → IsTrue e ↔ ((b : ℕ) × IsNeighbourIn m East cell b)
    → IsTrue s ↔ ((b : ℕ) × IsNeighbourIn m South cell b) → IsTrue w ↔ ((b : ℕ) × IsNeighbourIn m West cell b) → AreOpen m cell byte
four_open m cell byte n e s w bn be bs bw ln le ls lw North = (λ x. ln.0 (bn.0 x), λ x. bn.1 (ln.1 x))
four_open m cell byte n e s w bn be bs bw ln le ls lw East = (λ x. le.0 (be.0 x), λ x. be.1 (le.1 x))
four_open m cell byte n e s w bn be bs bw ln le ls lw South = (λ x. ls.0 (bs.0 x), λ x. bs.1 (ls.1 x))
four_open m cell byte n e s w bn be bs bw ln le ls lw West = (λ x. lw.0 (bw.0 x), λ x. bw.1 (lw.1 x))

-- the table so far: the first n cells are in it
pub record AreWaysTo (m : Floor) (n : ℕ) (ways : List ℕ) : Type 0 where
  pub size : length ways ≡ n
  pub each : (cell : ℕ) → cell < n → AreOpen m cell (slice_index ways cell)
  pub low : (cell : ℕ) → cell < n → slice_index ways cell < 16

pub ways_more : (m : Floor) (n byte : ℕ) (ways : List ℕ) → AreWaysTo m n ways → AreOpen m n byte → byte < 16 → AreWaysTo m (n + 1) (ways ++ byte ∷ [])
ways_more m n byte ways to ways_open low = record {
  size = length-append ways (byte ∷ []) ∙ ap (λ (k : ℕ). k + 1) to.size;
  each = λ cell below. elim (cases_eq cell n) [
    | inl e ↦ subst (λ (c : ℕ). AreOpen m c (slice_index (ways ++ byte ∷ []) c)) (sym e) (subst (AreOpen m n) (sym last) ways_open)
    | inr ne ↦ subst (AreOpen m cell) (sym (before cell (omega (arith, below, ne, to.size)))) (to.each cell (omega (arith, below, ne)))
  ];
  low = λ cell below. elim (cases_eq cell n) [
    | inl e ↦ subst (λ (c : ℕ). slice_index (ways ++ byte ∷ []) c < 16) (sym e) (subst (λ (b : ℕ). b < 16) (sym last) low)
    | inr ne ↦ subst (λ (b : ℕ). b < 16) (sym (before cell (omega (arith, below, ne, to.size)))) (to.low cell (omega (arith, below, ne)))
  ];
}
  where
    last : slice_index (ways ++ byte ∷ []) n ≡ byte
    last = get_or_push ways byte 0 n to.size

    before : (c : ℕ) → c < length ways → slice_index (ways ++ byte ∷ []) c ≡ slice_index ways c
    before c less = get_or_append_left ways (byte ∷ []) 0 c less
