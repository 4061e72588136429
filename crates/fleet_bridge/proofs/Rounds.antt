-- Walks around the edges of a map, and its first bridge.
use Rattle.std.proofs.Common.{◌≡◌, ◌≢◌, ℕ, zero, suc, ◌+◌, ◌<◌, ◌≤◌, ◌⊎◌, inl, inr, List, [], ◌∷◌, length, refl, sym, ap, subst, ◌∙◌, arith}
use Rattle.std.specs.Prelude.{slice_index, Option, Some, None}
use Rattle.std.proofs.lemmas.Bool.{cases_eq}
use Rattle.fleet_grid.specs.Floor.{Floor}
use Rattle.fleet_grid.specs.declared.dir.Dir.{Dir}
use Rattle.fleet_grid.specs.declared.dir.Dir.TheVariants.{North, East, South, West}
use Rattle.fleet_grid.specs.Floor as floor
use Rattle.fleet_grid.specs.Floor.{IsNeighbourIn}
use Rattle.fleet_grid.proofs.Edges.{neighbour_back}
use Rattle.fleet_grid.proofs.Forms.{floor_inside, wide}
use Rattle.fleet_grid.specs.Walk.{Walks, Besides, AreJoined, IsBridge, IsBridgeless}
use Rattle.fleet_bridge.specs.Bridge.{IsNoLater, IsFirstBridge}
use Rattle.fleet_grid.specs.Floor.{HasForm, IsNeighbour}
use Rattle.fleet_bridge.specs.inside.Search.{NearWithout}
use Rattle.fleet_bridge.specs.inside.Tree.{IsUnder}
use Rattle.fleet_bridge.specs.inside.Spanning.{IsCrossedIn, IsSpanning}
use Rattle.fleet_bridge.specs.inside.First.{HasNoneBeside, IsBeside, HasNone, IsFirstFrom, HasNoneBelow}
use Rattle.fleet_bridge.specs.declared.tree.Tree.{Tree}
use Rattle.fleet_bridge.proofs.Joins.{joined_back, besides_back}
use Rattle.fleet_bridge.proofs.Certificate.{off_tree, crossed}

-- one of two numbers that differ is less
less_or_more : (x y : ℕ) → x ≢ y → (x < y) ⊎ (y < x)
less_or_more zero zero ne = absurd (ne refl)
less_or_more zero (suc y) ne = inl (omega arith)
less_or_more (suc x) zero ne = inr (omega arith)
less_or_more (suc x) (suc y) ne = elim (less_or_more x y (λ e. ne (ap suc e))) [ inl lt ↦ inl (omega arith) | inr gt ↦ inr (omega arith) ]

-- edges of a map

pub near_turn : (m : Floor) (x y : ℕ) → IsNeighbour m x y → IsNeighbour m y x
near_turn m x y e = neighbour_back m x y e

pub near_bound : (m : Floor) (x y : ℕ) → IsNeighbour m x y → (x < length m.letters) × (y < length m.letters)
near_bound m x y e = (floor_inside m x e.1.from, floor_inside m y e.1.to)

pub near_other : (m : Floor) (x : ℕ) → HasForm m → IsNeighbour m x x → ⊥
near_other m x form e = at e.0 e.1.beside
  where
    some : 0 < m.width
    some = wide m x form e.1.from

    at : (dir : Dir) → floor.IsBeside m.width dir x x → ⊥
    at North s = omega (arith, s, some)
    at East s = omega (arith, s.0)
    at South s = omega (arith, s, some)
    at West s = omega (arith, s.0)

-- the tree's certificate

pub crossed_at : {A : Type 0} (m : Floor) (t : Tree A) (v inner outer : ℕ) (dir : Dir) → IsUnder (slice_index t.up.items) v inner → IsNeighbourIn m dir inner outer
    → (inner ≡ v → outer ≡ slice_index t.up.items v → ⊥)
    → (slice_index t.number.items outer < slice_index t.number.items v) ⊎ (slice_index t.end.items v ≤ slice_index t.number.items outer)
    → IsCrossedIn m t v
crossed_at m t v inner outer dir under e other out = record { inner = inner; outer = outer; under = under; near = (dir, e); out = out; other = other }

pub round_up : {A : Type 0} (m : Floor) (t : Tree A) (a b : ℕ) → IsSpanning m t → IsNeighbour m a b → slice_index t.up.items a ≡ b → IsCrossedIn m t a → AreJoined (NearWithout m a b) a b
round_up m t a b tree edge e it =
    let child : slice_index t.up.items a ≢ a = λ same. near_other m a tree.form (subst (IsNeighbour m a) (sym e ∙ same) edge) in
    subst (λ (p : ℕ). AreJoined (NearWithout m a p) a p) e
    (crossed (IsNeighbour m) (length m.letters) (slice_index t.up.items) (slice_index t.number.items) (slice_index t.end.items) (slice_index t.top.items)
    (near_turn m) (near_bound m) tree.fits a (floor_inside m a edge.1.from) child it)

pub walks_turned : (Near : ℕ → ℕ → Type 0) (a b : ℕ) (x y : ℕ) → Besides Near b a x y → Besides Near a b x y
walks_turned Near a b x y r = record { near = r.near; there = r.back; back = r.there }

pub walks_map : (R S : ℕ → ℕ → Type 0) → ((x y : ℕ) → R x y → S x y) → (a b : ℕ) (xs : List ℕ) → Walks R a xs b → Walks S a xs b
walks_map R S f a b [] w = w
walks_map R S f a b (x ∷ xs) w = (f a x w.0, walks_map R S f x b xs w.1)

-- an edge left out is left out in either direction
pub joined_other : (m : Floor) (a b x y : ℕ) → AreJoined (NearWithout m a b) x y → AreJoined (NearWithout m b a) x y
joined_other m a b x y j = record { steps = j.steps; walk = walks_map (NearWithout m a b) (NearWithout m b a) (walks_turned (IsNeighbour m) b a) x y j.steps j.walk }

pub joined_turned : (m : Floor) (a b : ℕ) → AreJoined (NearWithout m b a) b a → AreJoined (NearWithout m a b) a b
joined_turned m a b j =
    joined_back (NearWithout m a b) (besides_back (IsNeighbour m) (near_turn m) a b) b a
    (record { steps = j.steps; walk = walks_map (NearWithout m b a) (NearWithout m a b) (walks_turned (IsNeighbour m) a b) b a j.steps j.walk })

pub round_down : {A : Type 0} (m : Floor) (t : Tree A) (a b : ℕ) → IsSpanning m t → IsNeighbour m a b → slice_index t.up.items b ≡ a → IsCrossedIn m t b → AreJoined (NearWithout m a b) a b
round_down m t a b tree edge e it = joined_turned m a b (round_up m t b a tree (near_turn m a b edge) e it)

pub round_off : {A : Type 0} (m : Floor) (t : Tree A) (a b : ℕ) → IsSpanning m t → IsNeighbour m a b → slice_index t.up.items a ≢ b → slice_index t.up.items b ≢ a → AreJoined (NearWithout m a b) a b
round_off m t a b tree edge up down =
    off_tree (IsNeighbour m) (length m.letters) (slice_index t.up.items) (slice_index t.number.items) (slice_index t.end.items) (slice_index t.top.items)
    (near_turn m) (near_bound m) tree.fits a b edge up down

-- the first bridge from a cell

pub east_is : (m : Floor) (a d : ℕ) → IsNeighbourIn m East a d → d ≡ a + 1
east_is m a d e = sym e.beside.0

pub south_is : (m : Floor) (a d : ℕ) → IsNeighbourIn m South a d → d ≡ a + m.width
south_is m a d e = sym e.beside

-- an edge to a greater cell goes east or south
pub above : (m : Floor) (a d : ℕ) → IsNeighbour m a d → a < d → (IsNeighbourIn m East a d) ⊎ (IsNeighbourIn m South a d)
above m a d e less = at e.0 e.1
  where
    at : (dir : Dir) → IsNeighbourIn m dir a d → (IsNeighbourIn m East a d) ⊎ (IsNeighbourIn m South a d)
    at North n = (let e : d + m.width ≡ a = n.beside in absurd (omega (arith, e, less)))
    at East n = inl n
    at South n = inr n
    at West n = absurd (omega (arith, n.beside.0, less))

pub from_east : (m : Floor) (a b : ℕ) → IsBeside m a East b → IsFirstFrom m a b
from_east m a b it = let e = east_is m a b it.0 in record { lower = omega arith; bridge = it.1; first = λ d less bridge. omega arith }

pub from_south : (m : Floor) (a b : ℕ) → HasForm m → HasNoneBeside m a East → IsBeside m a South b → IsFirstFrom m a b
from_south m a b grid none it =
    let e = south_is m a b it.0 in
    let some = wide m a grid it.0.from in
    record {
      lower = omega arith;
      bridge = it.1;
      first = λ d less bridge. elim (above m a d bridge.edge less) [
        | inl east ↦ absurd (none d east bridge)
        | inr south ↦ (let f = south_is m a d south in omega arith)
      ];
    }

pub from_none : (m : Floor) (a : ℕ) → HasForm m → HasNoneBeside m a East → HasNoneBeside m a South → HasNone m a
from_none m a grid east south d less bridge = elim (above m a d bridge.edge less) [ inl e ↦ east d e bridge | inr s ↦ south d s bridge ]

-- the first bridge of all

pub first_is : (m : Floor) (a b : ℕ) → HasNoneBelow m a → IsFirstFrom m a b → IsFirstBridge (IsNeighbour m) a b
first_is m a b none it = record { lower = it.lower; bridge = it.bridge; first = λ c d less bridge. at c d less bridge }
  where
    at : (c d : ℕ) → c < d → IsBridge (IsNeighbour m) c d → IsNoLater a b c d
    at c d less bridge = elim (cases_eq c a) [
      | inl e ↦ inr (sym e, it.first d (subst (λ (x : ℕ). x < d) e less) (subst (λ (x : ℕ). IsBridge (IsNeighbour m) x d) e bridge))
      | inr ne ↦ elim (less_or_more c a ne) [ inl lt ↦ absurd (none c lt d less bridge) | inr gt ↦ inl gt ]
    ]

pub bridge_turned : (m : Floor) (a b : ℕ) → IsBridge (IsNeighbour m) a b → IsBridge (IsNeighbour m) b a
bridge_turned m a b it = record { edge = near_turn m a b it.edge; alone = λ j. it.alone (joined_turned m a b j) }

pub none_is : (m : Floor) (n : ℕ) → HasForm m → length m.letters ≤ n → HasNoneBelow m n → IsBridgeless (IsNeighbour m)
none_is m n grid le none a b bridge =
    elim (cases_eq a b) [
      | inl e ↦ near_other m a grid (subst (IsNeighbour m a) (sym e) bridge.edge)
      | inr ne ↦ elim (less_or_more a b ne) [
        | inl lt ↦ none a (omega (arith, floor_inside m a bridge.edge.1.from)) b lt bridge
        | inr gt ↦ none b (omega (arith, floor_inside m b bridge.edge.1.to)) a gt (bridge_turned m a b bridge)
      ]
    ]

pub none_left : (o : Option ℕ) → ((x : ℕ) → o ≡ Some x → ⊥) → o ≡ None
none_left None no_some = refl
none_left (Some x) no_some = absurd (no_some x refl)
