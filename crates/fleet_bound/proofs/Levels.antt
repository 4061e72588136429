-- The reach is below the number of floor cells, since each lesser distance is that of another cell.
use Rattle.std.proofs.Common.{◌≡◌, ℕ, zero, suc, ◌+◌, ◌-◌, ◌<◌, ◌≤◌, inl, inr, List, [], ◌∷◌, length, get_or, cond, Bool, true, Option, refl, sym, ap, ◌∙◌, subst, arith}
use Rattle.std.specs.Prelude.{nat_lt, ◌&&◌, max, unwrap_or}
use Rattle.std.specs.List.{count_by, range_with_len}
use Rattle.std.proofs.lemmas.Bool.{cases_lt, and_parts, and_from, and_right, ltb-true, lt-ltb, le-ltb}
use Rattle.std.proofs.lemmas.List.FromFn.{length-range_with_len, get_or-range_with_len}
use Rattle.fleet_grid.specs.Floor.{Floor, is_floor, is_floor_letter, IsFloor, IsNeighbour}
use Rattle.fleet_grid.specs.Walk.{Walks, IsDistance}
use Rattle.fleet_grid.specs.Distance.{distance}
use Rattle.fleet_grid.specs.Counts.{floor_count}
use Rattle.fleet_grid.proofs.Forms.{floor_inside}
use Rattle.fleet_grid.proofs.Shortest.{is_distance}
use Rattle.fleet_bound.proofs.WaitCounts.{count_by-cons, count_by-mono, count_by-strict}
use Rattle.fleet_bound.specs.Reach.{reach}
use Rattle.fleet_bound.proofs.Reach.{walk_ends, reach-is, reach-positive}

-- ---- counting

module _ (away : ℕ → ℕ) (passes : ℕ → Bool) (cells : List ℕ) (far : ℕ) (all : (k : ℕ) → k ≤ far → (i : ℕ) × (i < length cells) × (passes (get_or cells i 0) ≡ true) × (away (get_or cells i 0) ≡ k)) where
  -- the cells that are nearer than k
  is_nearer : ℕ → ℕ → Bool
  is_nearer k c = passes c && nat_lt (away c) k

  wider : (k c : ℕ) → is_nearer k c ≡ true → is_nearer (k + 1) c ≡ true
  unfolding is_nearer
  wider k c e = let both = and_parts (passes c) (nat_lt (away c) k) e in and_from (passes c) (nat_lt (away c) (k + 1)) both.0 (lt-ltb (away c) (k + 1) (omega (arith, ltb-true (away c) k both.1)))

  one_more : (k : ℕ) → k ≤ far → count_by (is_nearer k) cells < count_by (is_nearer (k + 1)) cells
  unfolding is_nearer
  one_more k l =
      let s = all k l in
      let c : ℕ = get_or cells s.0 0 in
      count_by-strict (is_nearer k) (is_nearer (k + 1)) 0 cells s.0 (λ j t. wider k (get_or cells j 0)) s.1
      (and_right (passes c) (nat_lt (away c) k) (le-ltb (away c) k (omega (arith, s.3))))
      (and_from (passes c) (nat_lt (away c) (k + 1)) s.2 (lt-ltb (away c) (k + 1) (omega (arith, s.3))))

  so_many : (k : ℕ) → k ≤ far + 1 → k ≤ count_by (is_nearer k) cells
  so_many zero l = omega arith
  so_many (suc k) l = let here : suc k ≡ k + 1 = omega arith in rw here (omega (arith, so_many k (omega arith), one_more k (omega arith)))

  -- where each distance up to the farthest is that of a cell that passes, more cells pass than that
  distances_short : far < count_by passes cells
  unfolding is_nearer
  distances_short = omega (
    arith,
    so_many (far + 1) (omega arith),
    count_by-mono (is_nearer (far + 1)) passes 0 cells (λ k l e. (and_parts (passes (get_or cells k 0)) (nat_lt (away (get_or cells k 0)) (far + 1)) e).0),
  )

-- the letters that pass, counted by their places
counted_at : (p : ℕ → Bool) (f : ℕ → ℕ) (xs : List ℕ) (a : ℕ) → ((k : ℕ) → k < length xs → f (a + k) ≡ get_or xs k 0) → count_by (λ c. p (f c)) (range_with_len a (length xs)) ≡ count_by p xs
counted_at p f [] a each = refl
counted_at p f (x ∷ xs) a each =
    let here : f a ≡ x = ap f (let e : a ≡ a + 0 = omega arith in e) ∙ each 0 (omega arith) in
    let rest = counted_at p f xs (a + 1) (λ k l. ap f (let e : a + 1 + k ≡ a + suc k = omega arith in e) ∙ each (suc k) (omega arith)) in
    let one : cond {A = ℕ} (p (f a)) 1 0 ≡ cond (p x) 1 0 = ap (λ (y : ℕ). cond {A = ℕ} (p y) 1 0) here in
    omega (arith, count_by-cons (λ c. p (f c)) a (range_with_len (a + 1) (length xs)), count_by-cons p x xs, rest, one)

floor_counted : (m : Floor) → count_by (is_floor m) (range_with_len 0 (length m.letters)) ≡ floor_count m
floor_counted m = counted_at is_floor_letter (λ c. get_or m.letters c 0) m.letters 0 (λ k l. ap (λ (i : ℕ). get_or m.letters i 0) (let e : 0 + k ≡ k = omega arith in e))

-- ---- walks

more : (c : ℕ) (cs : List ℕ) → length (c ∷ cs) ≡ length cs + 1
more c cs = grind arith

-- after its first edge a shortest walk is a shortest one
tail_is : (Near : ℕ → ℕ → Type 0) (a b c : ℕ) (cs : List ℕ) → Near a c → Walks Near c cs b → IsDistance Near a b (length (c ∷ cs)) → IsDistance Near c b (length cs)
tail_is Near a b c cs e w d = record {
  walk = (cs, w, refl);
  least = λ ys v. let l = d.least (c ∷ ys) (e, v) in omega (arith, l, more c cs, more c ys);
}

-- on a shortest walk there is a cell at each lesser distance
on_the_way : (m : Floor) (a b : ℕ) (cs : List ℕ) (k : ℕ) → IsFloor m a → Walks (IsNeighbour m) a cs b → IsDistance (IsNeighbour m) a b (length cs) → k ≤ length cs
    → (c : ℕ) × IsFloor m c × IsDistance (IsNeighbour m) c b k
on_the_way m a b [] k f w d l = (a, f, subst (λ (x : ℕ). IsDistance (IsNeighbour m) a b x) (let e : 0 ≡ k = omega (arith, l) in e) d)
on_the_way m a b (c ∷ cs) k f w d l = elim (cases_lt (length cs) k) [
  | inl above ↦ (a, f, subst (λ (x : ℕ). IsDistance (IsNeighbour m) a b x) (let e : length (c ∷ cs) ≡ k = omega (arith, l, above, more c cs) in e) d)
  | inr below ↦ on_the_way m c b cs k w.0.1.to w.1 (tail_is (IsNeighbour m) a b c cs w.0 w.1 d) below
]

distance_few : (m : Floor) (a b d : ℕ) → IsFloor m a → IsDistance (IsNeighbour m) a b d → d < floor_count m
distance_few m a b d f dist = omega (arith, floor_counted m, distances_short away (is_floor m) (range_with_len 0 (length m.letters)) d all)
  where
    away : ℕ → ℕ
    away c = unwrap_or (distance m c b) 0

    all : (k : ℕ) → k ≤ d → (i : ℕ) × (i < length (range_with_len 0 (length m.letters))) × (is_floor m (get_or (range_with_len 0 (length m.letters)) i 0) ≡ true) × (away (get_or (range_with_len 0 (length m.letters)) i 0) ≡ k)
    all k l =
        let s = on_the_way m a b dist.walk.0 k f dist.walk.1 (subst (λ (x : ℕ). IsDistance (IsNeighbour m) a b x) (sym dist.walk.2) dist) (omega (arith, l, dist.walk.2)) in
        let below = floor_inside m s.0 s.1 in
        let at : get_or (range_with_len 0 (length m.letters)) s.0 0 ≡ s.0 = get_or-range_with_len 0 (length m.letters) s.0 0 below ∙ omega arith in (
          s.0,
          omega (arith, below, length-range_with_len 0 (length m.letters)),
          ap (is_floor m) at ∙ s.1,
          ap away at ∙ ap (λ (o : Option ℕ). unwrap_or o 0) (is_distance m s.0 b k s.1 s.2),
        )

-- so is the reach, unless it is 1
pub reach-few : (m : Floor) → reach m ≤ max 1 (floor_count m - 1)
reach-few m = elim (reach-is m).met [
  | inl one ↦ omega (arith, one)
  | inr met ↦ (
      let far = met.2 in
      let ends = walk_ends m met.0 met.1 far.walk.0 (omega (arith, far.walk.2, reach-positive m)) far.walk.1 in
      omega (arith, distance_few m met.0 met.1 (reach m) ends.0 far))
]
