-- What a field says of a cell next to another.
use Rattle.std.proofs.Common.{◌≡◌, ℕ, ◌<◌, ◌≤◌, List, [], ◌∷◌, length, Option, Some, None, sym, subst, arith}
use Rattle.std.specs.Prelude.{◌↔◌, IfSome, MatchOption, slice_index_or}
use Rattle.fleet_grid.specs.Floor.{Floor, IsFloor, IsNeighbour}
use Rattle.fleet_grid.specs.Walk.{Walks, AreApart, IsDistance}
use Rattle.fleet_grid.specs.Ways.{IsLess}
use Rattle.fleet_field.specs.Field.{Aim, IsField}
use Rattle.fleet_pibt.specs.Goals.{IsNearer}

one_distance : (Near : ℕ → ℕ → Type 0) (a b d e : ℕ) → IsDistance Near a b d → IsDistance Near a b e → d ≡ e
one_distance Near a b d e p q =
    let (xs, walk, long) = p.walk in
    let (ys, other, wide) = q.walk in
    omega (arith, long, wide, p.least ys other, q.least xs walk)

apart_not : (Near : ℕ → ℕ → Type 0) (a b d : ℕ) → AreApart Near a b → IsDistance Near a b d → ⊥
apart_not Near a b d apart p = let (steps, walk, long) = p.walk in apart steps walk

pub less-is-nearer : (m : Floor) (goal : ℕ) (field : Aim) → IsField m goal field → (w c : ℕ) → IsLess (slice_index_or field.away w None) (slice_index_or field.away c None) ↔ IsNearer m goal w c
less-is-nearer m goal field is w c = by (slice_index_or field.away w None) (slice_index_or field.away c None) (is.each w) (is.each c)
  where
    Told : ℕ → Option ℕ → Type 0
    Told x o = MatchOption o (AreApart (IsNeighbour m) x goal) (λ d. IsDistance (IsNeighbour m) x goal d)

    by : (x y : Option ℕ) → Told w x → Told c y → IsLess x y ↔ IsNearer m goal w c
    by (Some a) (Some b) near far = (
      λ less. record { near = a; far = b; near_is = near; far_is = far; less = less },
      λ n. omega (arith, n.less, one_distance (IsNeighbour m) w goal a n.near near n.near_is, one_distance (IsNeighbour m) c goal b n.far far n.far_is),
    )
    by (Some a) None near far = (λ bad. absurd bad, λ n. absurd (apart_not (IsNeighbour m) c goal n.far far n.far_is))
    by None y near far = (λ bad. absurd bad, λ n. absurd (apart_not (IsNeighbour m) w goal n.near near n.near_is))

-- where a walk leads from a floor cell along edges, there is floor
pub floor-at-end : (m : Floor) (a b : ℕ) (steps : List ℕ) → IsFloor m a → Walks (IsNeighbour m) a steps b → IsFloor m b
floor-at-end m a b [] floor walk = subst (IsFloor m) walk floor
floor-at-end m a b (x ∷ xs) floor ((dir, step), walk) = floor-at-end m x b xs step.to walk

pub some-weaker : {X : Type 0} (o : Option X) (P Q : X → Type 0) → ((x : X) → P x → Q x) → IfSome o P → IfSome o Q
some-weaker None P Q f p = tt
some-weaker (Some x) P Q f p = f x p
