-- A list of distances that passes its check holds the distances to the cores.
use Rattle.std.proofs.Common.{◌≡◌, ℕ, zero, suc, ◌+◌, ◌≤◌, inl, inr, List, [], ◌∷◌, length, refl, sym, subst, ap, arith}
use Rattle.std.specs.Prelude.{slice_index}
use Rattle.fleet_grid.specs.Floor.{Floor, IsFloor, IsNeighbour}
use Rattle.fleet_grid.specs.Walk.{Walks, AreJoined}
use Rattle.fleet_grid.proofs.Walks.{same_along}
use Rattle.turns_law.specs.Turns.{AreAway}
use Rattle.fleet_turns.proofs.OnFloor.{way_ends_on_floor}
use Rattle.fleet_turns.specs.inside.Checked.{IsAwayAt}

long : (c : ℕ) (cs : List ℕ) → length (c ∷ cs) ≡ length cs + 1
long c cs = grind arith

module _ (m : Floor) (core away : List ℕ) (checked : (c : ℕ) → IsFloor m c → IsAwayAt m core away c)
    (joined : (c : ℕ) → IsFloor m c → AreJoined (IsNeighbour m) c (slice_index core c)) where
  same : (a b : ℕ) → IsNeighbour m a b → slice_index core a ≡ slice_index core b
  same a b near = ((checked a near.1.from).even near.0 b near.1).0

  -- the core of a cell is its own core
  own : (c : ℕ) → IsFloor m c → slice_index core (slice_index core c) ≡ slice_index core c
  own c floor = let j = joined c floor in sym (same_along (IsNeighbour m) (slice_index core) same c (slice_index core c) j.steps j.walk)

  at_core : (k : ℕ) → IsFloor m k → slice_index core k ≡ k → slice_index away k ≡ 0
  at_core k floor is = elim ((checked k floor).nearer) [ inl at ↦ at.1 | inr far ↦ absurd (far.0 is) ]

  -- it is no nearer than a walk is long
  least : (c k : ℕ) (cs : List ℕ) → IsFloor m k → slice_index core k ≡ k → Walks (IsNeighbour m) c cs k → slice_index away c ≤ length cs
  least c k [] floor is walk =
      let here : slice_index away c ≡ slice_index away k = ap (slice_index away) walk in
      let none = at_core k floor is in
      omega (arith, here, none)
  least c k (x ∷ cs) floor is walk =
      let rest = least x k cs floor is walk.1 in
      let step = ((checked c walk.0.1.from).even walk.0.0 x walk.0.1).1 in
      omega (arith, rest, step, long x cs)

  HasWay : ℕ → ℕ → Type 0
  HasWay n c = (cs : List ℕ) × Walks (IsNeighbour m) c cs (slice_index core c) × (length cs ≡ n)

  -- and a walk of that length leads to the core
  way : (n c : ℕ) → IsFloor m c → slice_index away c ≡ n → HasWay n c
  unfolding HasWay
  way zero c floor is = elim ((checked c floor).nearer) [
    | inl at ↦ ([], sym at.0, refl)
    | inr far ↦ (let step = far.1.1.2 in absurd (omega (arith, step, is)))
  ]
  way (suc n) c floor is = elim ((checked c floor).nearer) [
    | inl at ↦ (let none = at.1 in absurd (omega (arith, none, is)))
    | inr far ↦ (
        let w = far.1.1.0 in
        let near = far.1.1.1 in
        let step = far.1.1.2 in
        let rest = way n w near.to (omega (arith, step, is)) in
        let one : slice_index core w ≡ slice_index core c = sym (same c w (far.1.0, near)) in
        let more = rest.2 in
        (w ∷ rest.0, ((far.1.0, near), subst (λ (k : ℕ). Walks (IsNeighbour m) w rest.0 k) one rest.1), omega (arith, more, long w rest.0)))
  ]

  floor_core : (c : ℕ) → IsFloor m c → IsFloor m (slice_index core c)
  floor_core c floor = way_ends_on_floor m c (slice_index core c) floor (joined c floor)

  pub are_away : AreAway m core away
  unfolding HasWay
  are_away = record {
    same = same;
    measured = λ c floor. (
        let it = way (slice_index away c) c floor refl in
        record { walk = (it.0, it.1, it.2); least = λ cs walk. least c (slice_index core c) cs (floor_core c floor) (own c floor) walk });
  }
