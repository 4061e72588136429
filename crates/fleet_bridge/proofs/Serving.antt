-- A core serves its part.
use Rattle.std.proofs.Common.{◌≡◌, ℕ, ◌≤◌, inl, inr, [], refl, sym, subst}
use Rattle.std.proofs.lemmas.Bool.{cases_eq}
use Rattle.fleet_grid.specs.Floor.{Floor, IsFloor, IsNeighbour}
use Rattle.fleet_grid.specs.Walk.{Besides, IsBridge, IsOnSide, IsRoomy}
use Rattle.fleet_bridge.specs.Rooms.{IsLink, AreInBlock, AreRoomsBy, IsCore, IsRoom, IsServed}
use Rattle.fleet_bridge.proofs.Beyond.{other_way}
use Rattle.fleet_bridge.proofs.Joins.{joined_on, joined_back, besides_back}
use Rattle.fleet_bridge.proofs.Rounds.{near_turn, walks_map}

module _ (Near : ℕ → ℕ → Type 0) (turn : (x y : ℕ) → Near x y → Near y x) where
  bridge_back : (a b : ℕ) → IsBridge Near a b → IsBridge Near b a
  bridge_back a b bridge = record {
    edge = turn a b bridge.edge;
    alone = λ j. bridge.alone (joined_back (Besides Near a b) (besides_back Near turn a b) b a (other_way Near b a b a j));
  }

  link_beside : (a b : ℕ) → IsBridge Near a b → (x y : ℕ) → IsLink Near x y → Besides Near a b x y
  link_beside a b bridge x y link = record {
    near = link.near;
    there = λ i j. link.other (subst (λ (p : ℕ). IsBridge Near p y) (sym i) (subst (IsBridge Near a) (sym j) bridge));
    back = λ i j. link.other (subst (λ (p : ℕ). IsBridge Near p y) (sym i) (subst (IsBridge Near b) (sym j) (bridge_back a b bridge)));
  }

  link_back : (x y : ℕ) → IsLink Near x y → IsLink Near y x
  link_back x y link = record { near = turn x y link.near; other = λ b. link.other (bridge_back y x b) }

  -- cells of one block are on the same sides
  same_side : (a b x y : ℕ) → IsBridge Near a b → AreInBlock Near x y → IsOnSide Near a b x → IsOnSide Near a b y
  same_side a b x y bridge block side =
      joined_on (Besides Near a b) b x y side (record { steps = block.steps; walk = walks_map (IsLink Near) (Besides Near a b) (link_beside a b bridge) x y block.steps block.walk })

  block_back : (x y : ℕ) → AreInBlock Near x y → AreInBlock Near y x
  block_back = joined_back (IsLink Near) link_back

  own_side : (a b : ℕ) → IsOnSide Near a b b
  own_side a b = record { steps = []; walk = refl }

  pub roomy_block : (n k c : ℕ) → IsCore Near n k → AreInBlock Near k c → IsRoomy Near n c
  roomy_block n k c core block a b bridge side =
      let on = same_side a b c k bridge (block_back k c block) side in
      let it = core.sides b a (bridge_back a b bridge) on a b bridge on in
      record { cells = it.cells; many = it.many; apart = it.apart; inside = it.inside }

  pub room_around : (n k m d : ℕ) → IsCore Near n k → IsBridge Near m d → AreInBlock Near k m → IsRoom Near n m d
  room_around n k m d core bridge block = record {
    bridge = bridge;
    mouth = λ a b other side.
        core.sides m d bridge (same_side d m m k (bridge_back m d bridge) (block_back k m block) (own_side d m)) a b other (same_side a b m k other (block_back k m block) side);
  }

module _ (m : Floor) (core door mouth size capacity : ℕ → ℕ) (rooms : AreRoomsBy m core door mouth size capacity) where
  pub core_roomy : (c n : ℕ) → IsFloor m c → n ≤ capacity (core c) → door c ≡ core c → IsRoomy (IsNeighbour m) n c
  core_roomy c n floor le is = roomy_block (IsNeighbour m) (near_turn m) n (core c) c ((rooms.counted c n floor).0 le) ((rooms.block c floor).0 is)

  pub room_served : (c n : ℕ) → IsFloor m c → n ≤ capacity (core c) → (door c ≡ core c → ⊥) → IsRoom (IsNeighbour m) n (mouth (door c)) (door c)
  room_served c n floor le other = room_around (IsNeighbour m) (near_turn m) n (core c) (mouth (door c)) (door c) ((rooms.counted c n floor).0 le) (rooms.bridge c floor other) (rooms.mouth_in c floor other)

  pub room_inside : (c : ℕ) → IsFloor m c → (door c ≡ core c → ⊥) → IsOnSide (IsNeighbour m) (mouth (door c)) (door c) c
  room_inside c floor other = (rooms.room c c floor other floor).0 refl

  pub all_served : (c n : ℕ) → IsFloor m c → n ≤ capacity (core c) → IsServed (IsNeighbour m) n c
  all_served c n floor le = elim (cases_eq (door c) (core c)) [
    | inl is ↦ inl (core_roomy c n floor le is)
    | inr other ↦ inr (mouth (door c), door c, room_served c n floor le other, room_inside c floor other)
  ]
