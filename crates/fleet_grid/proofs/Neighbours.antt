-- The test for neighbours, and walks of a given length.
use Rattle.std.proofs.Common.{◌≡◌, ◌≢◌, ℕ, zero, suc, ◌+◌, ◌%◌, ◌<◌, ◌⊎◌, inl, inr, Bool, true, false, not, ◌&&◌, ◌||◌, eqb, eq-eqb, List, [], ◌∷◌, length, get_or, refl, sym, ap, subst, ◌∙◌, arith}
use Rattle.std.specs.List.{list_any, range_with_len}
use Rattle.std.proofs.lemmas.Bool.{cases_Bool, eqb-true, and_parts, and_from, false≢true}
use Rattle.std.proofs.lemmas.List.FromFn.{length-range_with_len, get_or-range_with_len}
use Rattle.fleet_grid.specs.declared.dir.Dir.{Dir}
use Rattle.fleet_grid.specs.declared.dir.Dir.TheVariants.{North, East, South, West}
use Rattle.fleet_grid.specs.Floor.{Floor, is_floor, IsBeside, IsNeighbourIn, IsNeighbour}
use Rattle.fleet_grid.specs.Walk.{Walks}
use Rattle.fleet_grid.specs.Counts.{has_east, has_south}
use Rattle.fleet_grid.specs.Distance.{is_next, is_neighbour, is_walk_long}
use Rattle.fleet_grid.proofs.Forms.{floor_inside}

or_parts : (a b : Bool) → (a || b) ≡ true → (a ≡ true) ⊎ (b ≡ true)
or_parts true b e = inl refl
or_parts false b e = inr e

or_left : (a b : Bool) → a ≡ true → (a || b) ≡ true
or_left a b e = rw e refl

or_right : (a b : Bool) → b ≡ true → (a || b) ≡ true
or_right true b e = refl
or_right false b e = e

not_zero : (n : ℕ) → n ≢ 0 → not (eqb n 0) ≡ true
not_zero n h = elim (cases_Bool (eqb n 0)) [
  | inl is ↦ absurd (h (eqb-true n 0 is))
  | inr other ↦ ap not other
]

was_not_zero : (n : ℕ) → not (eqb n 0) ≡ true → n ≢ 0
was_not_zero n e zero_is = absurd (false≢true (sym (ap not (eq-eqb n 0 zero_is)) ∙ e))

-- what lies after a cell in its row, or below it
next_is : (w a b : ℕ) → is_next w a b ≡ true → ((a + 1 ≡ b) × (b % w ≢ 0)) ⊎ (a + w ≡ b)
next_is w a b e = elim (or_parts (eqb (a + 1) b && not (eqb (b % w) 0)) (eqb (a + w) b) e) [
  | inl row ↦ (let p = and_parts (eqb (a + 1) b) (not (eqb (b % w) 0)) row in inl (eqb-true (a + 1) b p.0, was_not_zero (b % w) p.1))
  | inr below ↦ inr (eqb-true (a + w) b below)
]

is_east : (w a b : ℕ) → a + 1 ≡ b → b % w ≢ 0 → is_next w a b ≡ true
is_east w a b e n = or_left (eqb (a + 1) b && not (eqb (b % w) 0)) (eqb (a + w) b) (and_from (eqb (a + 1) b) (not (eqb (b % w) 0)) (eq-eqb (a + 1) b e) (not_zero (b % w) n))

is_south : (w a b : ℕ) → a + w ≡ b → is_next w a b ≡ true
is_south w a b e = or_right (eqb (a + 1) b && not (eqb (b % w) 0)) (eqb (a + w) b) (eq-eqb (a + w) b e)

pub neighbour_passes : (m : Floor) (a b : ℕ) → IsNeighbour m a b → is_neighbour m a b ≡ true
neighbour_passes m a b n =
    and_from (is_floor m a && is_floor m b) (is_next m.width a b || is_next m.width b a) (and_from (is_floor m a) (is_floor m b) n.1.from n.1.to) (side n.0 n.1.beside)
  where
    side : (dir : Dir) → IsBeside m.width dir a b → (is_next m.width a b || is_next m.width b a) ≡ true
    side North p = or_right (is_next m.width a b) (is_next m.width b a) (is_south m.width b a p)
    side East p = or_left (is_next m.width a b) (is_next m.width b a) (is_east m.width a b p.0 p.1)
    side South p = or_left (is_next m.width a b) (is_next m.width b a) (is_south m.width a b p)
    side West p = or_right (is_next m.width a b) (is_next m.width b a) (is_east m.width b a p.0 p.1)

pub passes_neighbour : (m : Floor) (a b : ℕ) → is_neighbour m a b ≡ true → IsNeighbour m a b
passes_neighbour m a b e =
    let p = and_parts (is_floor m a && is_floor m b) (is_next m.width a b || is_next m.width b a) e in
    let f = and_parts (is_floor m a) (is_floor m b) p.0 in
    let s = side (or_parts (is_next m.width a b) (is_next m.width b a) p.1) in
    (s.0, record { from = f.0; to = f.1; beside = s.1 })
  where
    side : (is_next m.width a b ≡ true) ⊎ (is_next m.width b a ≡ true) → (dir : Dir) × IsBeside m.width dir a b
    side (inl n) = elim (next_is m.width a b n) [ inl row ↦ (East, row) | inr below ↦ (South, below) ]
    side (inr n) = elim (next_is m.width b a n) [ inl row ↦ (West, row) | inr above ↦ (North, above) ]

-- a walk of this many edges
pub walk_passes : (m : Floor) (a b : ℕ) (cs : List ℕ) → Walks (IsNeighbour m) a cs b → is_walk_long m (length cs) a b ≡ true
walk_passes m a b [] w = eq-eqb a b w
walk_passes m a b (c ∷ cs) w =
    let below = floor_inside m c w.0.1.to in
    any_at c (range_with_len 0 (length m.letters)) c (omega (arith, below, length-range_with_len 0 (length m.letters)))
    (get_or-range_with_len 0 (length m.letters) c 0 below ∙ omega arith)
    (and_from (is_neighbour m a c) (is_walk_long m (length cs) c b) (neighbour_passes m a c w.0) (walk_passes m c b cs w.1))
  where
    any_at : (x : ℕ) (xs : List ℕ) (i : ℕ) → i < length xs → get_or xs i 0 ≡ x → (is_neighbour m a x && is_walk_long m (length cs) x b) ≡ true
        → list_any (λ y. is_neighbour m a y && is_walk_long m (length cs) y b) xs ≡ true
    any_at x [] i l e p = absurd (omega (arith, l))
    any_at x (y ∷ ys) zero l e p = or_left (is_neighbour m a y && is_walk_long m (length cs) y b) (list_any (λ z. is_neighbour m a z && is_walk_long m (length cs) z b) ys) (subst (λ (z : ℕ). (is_neighbour m a z && is_walk_long m (length cs) z b) ≡ true) (sym e) p)
    any_at x (y ∷ ys) (suc i) l e p = or_right (is_neighbour m a y && is_walk_long m (length cs) y b) (list_any (λ z. is_neighbour m a z && is_walk_long m (length cs) z b) ys) (any_at x ys i (omega (arith, l)) e p)

pub passes_walk : (m : Floor) (k a b : ℕ) → is_walk_long m k a b ≡ true → (cs : List ℕ) × Walks (IsNeighbour m) a cs b × (length cs ≡ k)
passes_walk m zero a b e = ([], eqb-true a b e, refl)
passes_walk m (suc k) a b e =
    let s = some_of (range_with_len 0 (length m.letters)) e in
    let p = and_parts (is_neighbour m a s.0) (is_walk_long m k s.0 b) s.1 in
    let rest = passes_walk m k s.0 b p.1 in
    (s.0 ∷ rest.0, (passes_neighbour m a s.0 p.0, rest.1), ap suc rest.2)
  where
    some_of : (xs : List ℕ) → list_any (λ y. is_neighbour m a y && is_walk_long m k y b) xs ≡ true → (x : ℕ) × ((is_neighbour m a x && is_walk_long m k x b) ≡ true)
    some_of [] e = absurd (false≢true e)
    some_of (y ∷ ys) e = elim (or_parts (is_neighbour m a y && is_walk_long m k y b) (list_any (λ z. is_neighbour m a z && is_walk_long m k z b) ys) e) [
      | inl here ↦ (y, here)
      | inr later ↦ some_of ys later
    ]

-- an edge is counted at its west or its north end
pub counted_east : (m : Floor) (cell : ℕ) → has_east m cell ≡ true → IsNeighbourIn m East cell (cell + 1)
counted_east m cell e =
    let p = and_parts (is_floor m cell) (is_floor m (cell + 1) && not (eqb ((cell + 1) % m.width) 0)) e in
    let q = and_parts (is_floor m (cell + 1)) (not (eqb ((cell + 1) % m.width) 0)) p.1 in
    record { from = p.0; to = q.0; beside = (refl, was_not_zero ((cell + 1) % m.width) q.1) }

pub east_is_counted : (m : Floor) (cell : ℕ) → IsNeighbourIn m East cell (cell + 1) → has_east m cell ≡ true
east_is_counted m cell n =
    and_from (is_floor m cell) (is_floor m (cell + 1) && not (eqb ((cell + 1) % m.width) 0)) n.from
    (and_from (is_floor m (cell + 1)) (not (eqb ((cell + 1) % m.width) 0)) n.to (not_zero ((cell + 1) % m.width) n.beside.1))

pub counted_south : (m : Floor) (cell : ℕ) → has_south m cell ≡ true → IsNeighbourIn m South cell (cell + m.width)
counted_south m cell e =
    let p = and_parts (is_floor m cell) (is_floor m (cell + m.width)) e in
    record { from = p.0; to = p.1; beside = refl }

pub south_is_counted : (m : Floor) (cell : ℕ) → IsNeighbourIn m South cell (cell + m.width) → has_south m cell ≡ true
south_is_counted m cell n = and_from (is_floor m cell) (is_floor m (cell + m.width)) n.from n.to

-- so it is counted exactly where there is a neighbour on that side
pub east_some : (m : Floor) (cell b : ℕ) → IsNeighbourIn m East cell b → true ≡ has_east m cell
east_some m cell b n = sym (east_is_counted m cell (subst (IsNeighbourIn m East cell) (sym n.beside.0) n))

pub east_none : (m : Floor) (cell : ℕ) → ((b : ℕ) → IsNeighbourIn m East cell b → ⊥) → false ≡ has_east m cell
east_none m cell none = elim (cases_Bool (has_east m cell)) [
  | inl is ↦ absurd (none (cell + 1) (counted_east m cell is))
  | inr other ↦ sym other
]

pub south_some : (m : Floor) (cell b : ℕ) → IsNeighbourIn m South cell b → true ≡ has_south m cell
south_some m cell b n = sym (south_is_counted m cell (subst (IsNeighbourIn m South cell) (sym n.beside) n))

pub south_none : (m : Floor) (cell : ℕ) → ((b : ℕ) → IsNeighbourIn m South cell b → ⊥) → false ≡ has_south m cell
south_none m cell none = elim (cases_Bool (has_south m cell)) [
  | inl is ↦ absurd (none (cell + m.width) (counted_south m cell is))
  | inr other ↦ sym other
]
