-- What the rooms of a map are like, cell by cell.
use Rattle.std.proofs.Common.{◌≡◌, ◌≢◌, ℕ, zero, suc, ◌+◌, ◌<◌, ◌≤◌, ◌⊎◌, ◌↔◌, inl, inr, List, [], ◌∷◌, length, slice_index, sym, subst, refl, ap, ◌∙◌, arith}
use Rattle.std.proofs.lemmas.Bool.{cases_eq}
use Rattle.fleet_grid.specs.Floor.{Floor, IsFloor, IsNeighbour}
use Rattle.fleet_grid.specs.Walk.{Walks, Besides, AreJoined, IsBridge, IsOnSide, IsDistance}
use Rattle.fleet_grid.proofs.Walks.{joined_on, joined_back, same_along}
use Rattle.fleet_bridge.specs.Rooms.{IsLink, AreInBlock, AreRoomsBy}
use Rattle.fleet_pibt.proofs.Roomy.{besides-turn}
use Rattle.turns_law.specs.Turns.{Turns, AreAway, AreTurns}
use Rattle.turns_law.specs.ToGo.{HasRoom}
use Rattle.turns_law.proofs.Crossing.{turned, leaves, out_mouth, in_door}

-- a walk leads from floor to floor
pub floor_joined : (m : Floor) (a b : ℕ) → IsFloor m a → AreJoined (IsNeighbour m) a b → IsFloor m b
floor_joined m a b floor j = go a j.steps floor j.walk
  where
    go : (x : ℕ) (cs : List ℕ) → IsFloor m x → Walks (IsNeighbour m) x cs b → IsFloor m b
    go x [] f w = subst (IsFloor m) w f
    go x (c ∷ cs) f w = go c cs w.0.1.to w.1

module _ (m : Floor) (t : Turns) (are : AreTurns m t) (g : ℕ) (floor : IsFloor m g) (has : HasRoom t g) where
  abbrev d : ℕ
  d = slice_index t.door g

  abbrev mo : ℕ
  mo = slice_index t.mouth d

  abbrev In : ℕ → Type 0
  In c = IsOnSide (IsNeighbour m) mo d c

  pub bridge_is : IsBridge (IsNeighbour m) mo d
  bridge_is = are.rooms.bridge g floor has

  -- the list of doors tells who is in the room
  pub told : (x : ℕ) → IsFloor m x → (slice_index t.door x ≡ d) ↔ In x
  told x f = are.rooms.room g x floor has f

  pub in_or_not : (x : ℕ) → IsFloor m x → In x ⊎ (In x → ⊥)
  in_or_not x f = elim (cases_eq (slice_index t.door x) d) [ inl same ↦ inl ((told x f).0 same) | inr other ↦ inr (λ side. other ((told x f).1 side)) ]

  pub in_goal : In g
  in_goal = (told g floor).0 refl

  bridge_back : IsBridge (IsNeighbour m) d mo
  bridge_back = record {
    edge = turned m mo d bridge_is.edge;
    alone = λ j. bridge_is.alone (joined_back (Besides (IsNeighbour m) mo d) (besides-turn m mo d) d mo (record { steps = j.steps; walk = other d j.steps mo j.walk }));
  }
    where
      other : (x : ℕ) (cs : List ℕ) (y : ℕ) → Walks (Besides (IsNeighbour m) d mo) x cs y → Walks (Besides (IsNeighbour m) mo d) x cs y
      other x [] y w = w
      other x (c ∷ cs) y w = (record { near = w.0.near; there = λ a b. w.0.back a b; back = λ a b. w.0.there a b }, other c cs y w.1)

  linked : (x : ℕ) (cs : List ℕ) (y : ℕ) → Walks (IsLink (IsNeighbour m)) x cs y → Walks (Besides (IsNeighbour m) mo d) x cs y
  linked x [] y w = w
  linked x (c ∷ cs) y w = (
    record {
      near = w.0.near;
      there = λ a b. w.0.other (subst (λ (p : ℕ). IsBridge (IsNeighbour m) p c) (sym a) (subst (IsBridge (IsNeighbour m) mo) (sym b) bridge_is));
      back = λ a b. w.0.other (subst (λ (p : ℕ). IsBridge (IsNeighbour m) p c) (sym a) (subst (IsBridge (IsNeighbour m) d) (sym b) bridge_back));
    },
    linked c cs y w.1,
  )

  -- the core is outside
  pub core_out : In (slice_index t.core g) → ⊥
  core_out side =
      let block = are.rooms.mouth_in g floor has in
      out_mouth m mo d bridge_is (joined_on (Besides (IsNeighbour m) mo d) d (slice_index t.core g) mo side (record { steps = block.steps; walk = linked (slice_index t.core g) block.steps mo block.walk }))

  -- all cells of the room have one core
  pub one_core : (x : ℕ) → In x → slice_index t.core x ≡ slice_index t.core g
  one_core x side = sym (along x side) ∙ along g in_goal
    where
      along : (y : ℕ) → In y → slice_index t.core d ≡ slice_index t.core y
      along y j = same_along (Besides (IsNeighbour m) mo d) (slice_index t.core) (λ a b s. are.away.same a b s.near) d y j.steps j.walk

  pub core_out_of : (x : ℕ) → In x → In (slice_index t.core x) → ⊥
  core_out_of x side inside = core_out (subst In (one_core x side) inside)

  -- and each is further from it than the mouth
  pub beyond_mouth : (x : ℕ) → IsFloor m x → In x → slice_index t.away mo < slice_index t.away x
  beyond_mouth x f side =
      let is = are.away.measured x f in
      let k = slice_index t.core x in
      let it = leaves m mo d bridge_is (IsNeighbour m) (λ a b s. s) x k is.walk.0 side (core_out_of x side) is.walk.1 in
      let same : slice_index t.core x ≡ slice_index t.core mo = same_along (IsNeighbour m) (slice_index t.core) are.away.same x mo it.first it.to_mouth in
      let mouth_is : IsDistance (IsNeighbour m) mo k (slice_index t.away mo) = subst (λ (c : ℕ). IsDistance (IsNeighbour m) mo c (slice_index t.away mo)) (sym same) (are.away.measured mo bridge_is.edge.1.from) in
      let least = mouth_is.least it.rest it.on in
      omega (arith, least, it.some, it.all, is.walk.2)
