-- The distance as a function is the least number of edges of a walk.
use Rattle.std.proofs.Common.{◌≡◌, ℕ, ◌+◌, ◌<◌, ◌≤◌, inl, inr, true, false, List, [], ◌∷◌, length, get_or, Option, Some, None, refl, sym, ap, subst, ◌∙◌, arith}
use Rattle.std.specs.Prelude.{unwrap_or}
use Rattle.std.specs.List.{range_with_len}
use Rattle.std.proofs.lemmas.Bool.{cases_Bool, cases_lt, false≢true}
use Rattle.std.proofs.lemmas.List.FromFn.{length-range_with_len, get_or-range_with_len}
use Rattle.fleet_grid.specs.Floor.{Floor, IsFloor, IsNeighbour}
use Rattle.fleet_grid.specs.Walk.{Walks, AreApart, IsDistance}
use Rattle.fleet_grid.specs.Distance.{is_walk_long, least_below, distance}
use Rattle.fleet_grid.proofs.Forms.{floor_inside}
use Rattle.fleet_grid.proofs.Neighbours.{walk_passes, passes_walk}
use Rattle.fleet_grid.proofs.Least.{none_or_some, least_below-none, least_below-some, least_below-is, distances-short}

long : (c : ℕ) (cs : List ℕ) → length (c ∷ cs) ≡ length cs + 1
long c cs = grind arith

-- after its first edge a shortest walk is a shortest one
tail_is : (Near : ℕ → ℕ → Type 0) (a b c : ℕ) (cs : List ℕ) → Near a c → Walks Near c cs b → IsDistance Near a b (length (c ∷ cs)) → IsDistance Near c b (length cs)
tail_is Near a b c cs e w d = record {
  walk = (cs, w, refl);
  least = λ ys v. let l = d.least (c ∷ ys) (e, v) in omega (arith, l, long c cs, long c ys);
}

-- on a shortest walk there is a cell at each lesser distance
on_the_way : (m : Floor) (a b : ℕ) (cs : List ℕ) (k : ℕ) → IsFloor m a → Walks (IsNeighbour m) a cs b → IsDistance (IsNeighbour m) a b (length cs) → k ≤ length cs
    → (c : ℕ) × IsFloor m c × IsDistance (IsNeighbour m) c b k
on_the_way m a b [] k f w d l = (a, f, subst (λ (x : ℕ). IsDistance (IsNeighbour m) a b x) (let e : 0 ≡ k = omega (arith, l) in e) d)
on_the_way m a b (c ∷ cs) k f w d l = elim (cases_lt (length cs) k) [
  | inl more ↦ (a, f, subst (λ (x : ℕ). IsDistance (IsNeighbour m) a b x) (let e : length (c ∷ cs) ≡ k = omega (arith, l, more, long c cs) in e) d)
  | inr less ↦ on_the_way m c b cs k w.0.1.to w.1 (tail_is (IsNeighbour m) a b c cs w.0 w.1 d) less
]

-- a walk that would be shorter than the distance fails
no_shorter : (m : Floor) (a b d k : ℕ) → IsDistance (IsNeighbour m) a b d → k < d → is_walk_long m k a b ≡ false
no_shorter m a b d k dist l = elim (cases_Bool (is_walk_long m k a b)) [
  | inl passes ↦ (let w = passes_walk m k a b passes in absurd (omega (arith, l, w.2, dist.least w.0 w.1)))
  | inr fails ↦ fails
]

long_passes : (m : Floor) (a b d : ℕ) → IsDistance (IsNeighbour m) a b d → is_walk_long m d a b ≡ true
long_passes m a b d dist = subst (λ (k : ℕ). is_walk_long m k a b ≡ true) dist.walk.2 (walk_passes m a b dist.walk.0 dist.walk.1)

found_below : (m : Floor) (a b d n : ℕ) → IsDistance (IsNeighbour m) a b d → d < n → least_below (λ k. is_walk_long m k a b) n ≡ Some d
found_below m a b d n dist l = least_below-is (λ k. is_walk_long m k a b) n d l (long_passes m a b d dist) (λ k less. no_shorter m a b d k dist less)

-- a distance is below the number of cells
pub distance_below : (m : Floor) (a b d : ℕ) → IsFloor m a → IsDistance (IsNeighbour m) a b d → d < length m.letters
distance_below m a b d f dist =
    let short = distances-short away (range_with_len 0 (length m.letters)) d all in omega (arith, short, length-range_with_len 0 (length m.letters))
  where
    away : ℕ → ℕ
    away c = unwrap_or (least_below (λ k. is_walk_long m k c b) (d + 1)) 0

    all : (k : ℕ) → k ≤ d → (i : ℕ) × (i < length (range_with_len 0 (length m.letters))) × (away (get_or (range_with_len 0 (length m.letters)) i 0) ≡ k)
    all k l =
        let s = on_the_way m a b dist.walk.0 k f dist.walk.1 (subst (λ (x : ℕ). IsDistance (IsNeighbour m) a b x) (sym dist.walk.2) dist) (omega (arith, l, dist.walk.2)) in
        let below = floor_inside m s.0 s.1 in
        let at : get_or (range_with_len 0 (length m.letters)) s.0 0 ≡ s.0 = get_or-range_with_len 0 (length m.letters) s.0 0 below ∙ omega arith in (
          s.0,
          omega (arith, below, length-range_with_len 0 (length m.letters)),
          ap away at ∙ ap (λ (o : Option ℕ). unwrap_or o 0) (found_below m s.0 b k (d + 1) s.2 (omega (arith, l))),
        )

-- the function finds the least length of a walk
pub distance_is : (m : Floor) (a b d : ℕ) → distance m a b ≡ Some d → IsDistance (IsNeighbour m) a b d
distance_is m a b d e =
    let s = least_below-some (λ k. is_walk_long m k a b) (length m.letters) d e in
    let w = passes_walk m d a b s.1 in
    record {
      walk = (w.0, w.1, w.2);
      least = λ cs v. elim (cases_lt (length cs) d) [
        | inl less ↦ absurd (false≢true (sym (s.2 (length cs) less) ∙ walk_passes m a b cs v))
        | inr more ↦ more
      ];
    }

pub is_distance : (m : Floor) (a b d : ℕ) → IsFloor m a → IsDistance (IsNeighbour m) a b d → distance m a b ≡ Some d
is_distance m a b d f dist = found_below m a b d (length m.letters) dist (distance_below m a b d f dist)

-- where the function finds none there is no walk
pub no_distance : (m : Floor) (a b : ℕ) → IsFloor m a → distance m a b ≡ None → AreApart (IsNeighbour m) a b
no_distance m a b f e cs w = elim (none_or_some (least_below (λ k. is_walk_long m k a b) (length cs + 1))) [
  | inl none ↦ absurd (false≢true (sym (least_below-none (λ k. is_walk_long m k a b) (length cs + 1) none (length cs) (omega arith)) ∙ walk_passes m a b cs w))
  | inr some ↦ (
      let s = least_below-some (λ k. is_walk_long m k a b) (length cs + 1) some.0 some.1 in
      let v = passes_walk m some.0 a b s.1 in
      let dist : IsDistance (IsNeighbour m) a b some.0 = record {
        walk = (v.0, v.1, v.2);
        least = λ xs u. elim (cases_lt (length xs) some.0) [
          | inl less ↦ absurd (false≢true (sym (s.2 (length xs) less) ∙ walk_passes m a b xs u))
          | inr more ↦ more
        ];
      } in
      absurd (let found = is_distance m a b some.0 f dist in cc (found, e)))
]

pub apart_is : (m : Floor) (a b : ℕ) → AreApart (IsNeighbour m) a b → distance m a b ≡ None
apart_is m a b apart = elim (none_or_some (distance m a b)) [
  | inl none ↦ none
  | inr some ↦ (let d = distance_is m a b some.0 some.1 in absurd (apart d.walk.0 d.walk.1))
]
