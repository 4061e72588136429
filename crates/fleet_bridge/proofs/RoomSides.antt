-- The rooms around the roots of a tree that passed its check: their sides, mouths, sizes, and capacities.
use Rattle.std.proofs.Common.{◌≡◌, ◌≢◌, ℕ, zero, suc, ◌<◌, ◌≤◌, inl, inr, sym, ap, subst, ◌∙◌, arith}
use Rattle.std.specs.Prelude.{◌↔◌}
use Rattle.std.proofs.lemmas.Bool.{cases_eq, cases_lt}
use Rattle.fleet_grid.specs.Walk.{Besides, AreJoined, IsBridge, IsOnSide, HasSide}
use Rattle.fleet_bridge.specs.Rooms.{IsLink, AreInBlock, IsCore}
use Rattle.fleet_bridge.specs.inside.Tree.{IsTree}
use Rattle.fleet_bridge.specs.inside.Preorder.{IsWhole, IsListed, IsHung, subtree_size}
use Rattle.fleet_bridge.specs.inside.Housed.{IsHoused}
use Rattle.fleet_bridge.proofs.Joins.{joined_same, joined_on, joined_by, joined_back, joined_inside}
use Rattle.fleet_bridge.proofs.Ranges.{IsInRange, one_number, stays}
use Rattle.fleet_bridge.proofs.Rounds.{walks_map}
use Rattle.fleet_bridge.proofs.Beyond.{few_below_it, many_below_it}
use Rattle.fleet_bridge.proofs.Doors.{IsFree, IsInRoom, HasDoor, own_range, root_off, range_down, range_on}
use Rattle.fleet_bridge.proofs.Housing as housing
use Rattle.fleet_bridge.proofs.Capacity as capacity

module _ (Near : ℕ → ℕ → Type 0) (Cell : ℕ → Type 0) (n count : ℕ) (up number end top far order door first second most : ℕ → ℕ)
    (turn : (x y : ℕ) → Near x y → Near y x) (cell : (x y : ℕ) → Near x y → Cell x) (inside : (x : ℕ) → Cell x → x < n)
    (tree : IsTree Near n up number end top) (whole : (x : ℕ) → Cell x → IsWhole Near up number end far order count x)
    (listed : (k : ℕ) → k < count → IsListed Cell number order k)
    (housed : (x : ℕ) → Cell x → IsHoused Near Cell up number end far top door first second most x) where
  no_bridge : (x : ℕ) → Cell x → up x ≢ x → far x < number x → IsBridge Near x (up x) → ⊥
  no_bridge = housing.no_bridge Near Cell n count up number end top far order door first second most turn cell inside tree whole listed housed

  bridge_turn : (a b : ℕ) → IsBridge Near a b → IsBridge Near b a
  bridge_turn = housing.bridge_turn Near Cell n count up number end top far order door first second most turn cell inside tree whole listed housed

  door_at : (x : ℕ) → Cell x → HasDoor Cell up number end far top door x
  door_at = housing.door_at Near Cell n count up number end top far order door first second most turn cell inside tree whole listed housed

  above : (x : ℕ) → Cell x → up x ≢ x → Cell (up x)
  above = housing.above Near Cell n count up number end top far order door first second most turn cell inside tree whole listed housed

  root_is : (x : ℕ) → Cell x → Cell (top x) × (up (top x) ≡ top x) × (number (top x) ≤ number x) × (number x < end (top x)) × (top (top x) ≡ top x)
  root_is = housing.root_is Near Cell n count up number end top far order door first second most turn cell inside tree whole listed housed

  bridge_down : (v : ℕ) → Cell v → IsHung up number far v → IsBridge Near (up v) v
  bridge_down = housing.bridge_down Near Cell n count up number end top far order door first second most turn cell inside tree whole listed housed

  bridge_up : (v : ℕ) → Cell v → IsHung up number far v → IsBridge Near v (up v)
  bridge_up = housing.bridge_up Near Cell n count up number end top far order door first second most turn cell inside tree whole listed housed

  in_below : (v : ℕ) → Cell v → IsHung up number far v → (x : ℕ) → IsOnSide Near (up v) v x → Cell x × IsInRange number end v x
  in_below = housing.in_below Near Cell n count up number end top far order door first second most turn cell inside tree whole listed housed

  below_in : (v : ℕ) → Cell v → IsHung up number far v → (x : ℕ) → Cell x → IsInRange number end v x → IsOnSide Near (up v) v x
  below_in = housing.below_in Near Cell n count up number end top far order door first second most turn cell inside tree whole listed housed

  link_turn : (x y : ℕ) → IsLink Near x y → IsLink Near y x
  link_turn x y link = record { near = turn x y link.near; other = λ b. link.other (bridge_turn y x b) }

  -- a cell that no subtree that hangs has is in the root's block
  free_joined : (fuel x : ℕ) → Cell x → IsFree Cell up number end far x → number x < fuel → AreInBlock Near x (top x)
  free_joined zero x in_x free less = absurd (omega (arith, less))
  free_joined (suc fuel) x in_x free less = elim (cases_eq (up x) x) [
    | inl own ↦ joined_same (IsLink Near) x (top x) (sym ((tree x (inside x in_x)).root own))
    | inr ne ↦ (
        let fit = tree x (inside x in_x) in
        let rises = fit.rises ne in
        elim (cases_lt (far x) (number x)) [
          | inl off ↦ (
              let rest = free_joined fuel (up x) (above x in_x ne) (λ y in_y hung r. free y in_y hung (range_down Near Cell n count up number end top far order turn cell inside tree whole listed y x in_y in_x ne r)) (omega (arith, rises, less)) in
              let same : top (up x) ≡ top x = sym (fit.same (up x) (fit.edge ne)) in
              joined_on (IsLink Near) x (up x) (top x) (joined_by (IsLink Near) x (up x) (record { near = fit.edge ne; other = no_bridge x in_x ne off })) (subst (AreInBlock Near (up x)) same rest))
          | inr held ↦ absurd (free x in_x (record { child = ne; held = held }) (own_range Near Cell n count up number end top far order turn cell inside tree whole listed x in_x))
        ])
  ]

  free_block : (x : ℕ) → Cell x → IsFree Cell up number end far x → AreInBlock Near (top x) x
  free_block x in_x free = joined_back (IsLink Near) link_turn x (top x) (free_joined (suc (number x)) x in_x free (omega arith))

  -- a room's door is no root
  no_root : (x y : ℕ) → Cell y → IsInRoom Cell up number end far top door x (door x) → door x ≡ top y → ⊥
  no_root x y in_y room e = room.hung.child (subst (λ (z : ℕ). up z ≡ z) (sym e) (root_is y in_y).1)

  pub block_is : (x : ℕ) → Cell x → (door x ≡ top x) ↔ AreInBlock Near (top x) x
  block_is x in_x = (
    λ e. elim (door_at x in_x) [ inl free ↦ free_block x in_x free.1 | inr room ↦ absurd (no_root x x in_x room e) ],
    λ j. elim (door_at x in_x) [
      | inl free ↦ free.0
      | inr room ↦ (
          let v = door x in
          let back : AreJoined (IsLink Near) x (top x) = joined_back (IsLink Near) link_turn (top x) x j in
          let off : AreJoined (Besides Near v (up v)) x (top x) = record { steps = back.steps; walk = walks_map (IsLink Near) (Besides Near v (up v)) (links v room.cell room.hung) x (top x) back.steps back.walk } in
          let there = joined_inside (Besides Near v (up v)) (IsInRange number end v)
          (λ a b step r. stays Near Cell n count up number end top far order turn cell inside tree whole listed v a b room.cell room.hung r.0 r.1 step) x (top x) off room.range in
          let root = root_is x in_x in
          absurd (root_off Near Cell n count up number end top far order turn cell inside tree whole listed v (top x) room.cell room.hung.child root.0 root.1 there))
    ],
  )
    where
      links : (v : ℕ) → Cell v → IsHung up number far v → (a b : ℕ) → IsLink Near a b → Besides Near v (up v) a b
      links v in_v hung a b link = record {
        near = link.near;
        there = λ i j. link.other (subst (λ (p : ℕ). IsBridge Near p b) (sym i) (subst (λ (q : ℕ). IsBridge Near v q) (sym j) (bridge_up v in_v hung)));
        back = λ i j. link.other (subst (λ (p : ℕ). IsBridge Near p b) (sym i) (subst (λ (q : ℕ). IsBridge Near (up v) q) (sym j) (bridge_down v in_v hung)));
      }

  room_of : (x : ℕ) → Cell x → door x ≢ top x → IsInRoom Cell up number end far top door x (door x)
  room_of x in_x other = elim (door_at x in_x) [ inl free ↦ absurd (other free.0) | inr room ↦ room ]

  pub room_bridge : (x : ℕ) → Cell x → door x ≢ top x → IsBridge Near (up (door x)) (door x)
  room_bridge x in_x other = (let room = room_of x in_x other in bridge_down (door x) room.cell room.hung)

  pub room_mouth : (x : ℕ) → Cell x → door x ≢ top x → AreInBlock Near (top x) (up (door x))
  room_mouth x in_x other =
      let room = room_of x in_x other in
      let v = door x in
      let fit = tree v (inside v room.cell) in
      let rises = fit.rises room.hung.child in
      let in_p = above v room.cell room.hung.child in
      let same : top (up v) ≡ top x = sym (fit.same (up v) (fit.edge room.hung.child)) ∙ sym room.one_top in
      subst (λ (r : ℕ). AreInBlock Near r (up v)) same
      (free_block (up v) in_p (λ y in_y hung r. (
      let on = range_down Near Cell n count up number end top far order turn cell inside tree whole listed y v in_y room.cell room.hung.child r in
      let outer = room.outermost y in_y hung (range_on Near Cell n count up number end top far order turn cell inside tree whole listed y v x in_y room.cell on room.range) in
      omega (arith, outer, rises, r.0))))

  pub room_is : (c x : ℕ) → Cell c → door c ≢ top c → Cell x → (door x ≡ door c) ↔ IsOnSide Near (up (door c)) (door c) x
  room_is c x in_c other in_x =
      let room = room_of c in_c other in
      let v = door c in (
        λ e. below_in v room.cell room.hung x in_x (elim (door_at x in_x) [
          | inl free ↦ absurd (no_root c x in_x room (sym e ∙ free.0))
          | inr room' ↦ subst (λ (z : ℕ). IsInRange number end z x) e room'.range
        ]),
        λ side. (
            let range = (in_below v room.cell room.hung x side).1 in
            elim (door_at x in_x) [
              | inl free ↦ absurd (free.1 v room.cell room.hung range)
              | inr room' ↦ (
                  let w = door x in
                  let less = room'.outermost v room.cell room.hung range in
                  let on : IsInRange number end w v = (less, omega (arith, range.0, room'.range.1)) in
                  let more = room.outermost w room'.cell room'.hung (range_on Near Cell n count up number end top far order turn cell inside tree whole listed w v c room'.cell room.cell on room.range) in
                  one_number Near Cell n count up number end top far order turn cell inside tree whole listed w v room'.cell room.cell (omega (arith, less, more)))
            ]),
      )

  pub room_size : (x k : ℕ) → Cell x → door x ≢ top x → (k ≤ subtree_size number end (door x)) ↔ HasSide Near (up (door x)) (door x) k
  room_size x k in_x other =
      let room = room_of x in_x other in (
        many_below_it Near Cell n count up number end top far order turn cell inside tree whole listed (door x) room.cell room.hung k,
        few_below_it Near Cell n count up number end top far order turn cell inside tree whole listed (door x) room.cell room.hung k,
      )

  pub capacity_is : (x k : ℕ) → Cell x → (k ≤ most (top x)) ↔ IsCore Near k (top x)
  capacity_is x k in_x =
      let root = root_is x in_x in (
        λ le. housing.root_core Near Cell n count up number end top far order door first second most turn cell inside tree whole listed housed k (top x) root.0 root.1 le,
        λ core. (let few = capacity.core_few Near Cell n count up number end top far order door first second most turn cell inside tree whole listed housed k (top x) root.0 core in let same : most (top (top x)) ≡ most (top x) = ap most root.4 in omega (arith, few, same)),
      )
