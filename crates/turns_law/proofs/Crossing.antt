-- Walks that leave a room cross its mouth.
use Rattle.std.proofs.Common.{◌≡◌, ◌≢◌, ℕ, ◌+◌, ◌<◌, ◌≤◌, ◌⊎◌, inl, inr, Option, Some, List, [], ◌∷◌, ◌++◌, length, slice_index, sym, subst, refl, ap, ◌∙◌, arith}
use Rattle.std.proofs.lemmas.Bool.{cases_eq}
use Rattle.fleet_grid.specs.Floor.{Floor, IsNeighbour}
use Rattle.fleet_grid.specs.Walk.{Walks, Besides, AreJoined, IsBridge, IsOnSide, HasSide, IsDistance}
use Rattle.fleet_grid.proofs.Walks.{walk_back, joined_same, joined_by_edge, joined_on, joined_back}
use Rattle.fleet_bridge.specs.Rooms.{HasSideWithout}
use Rattle.fleet_pibt.specs.Door.{IsPassage}
use Rattle.fleet_pibt.specs.Goals.{IsNearer}
use Rattle.fleet_pibt.specs.declared.door.Door.{Door}
use Rattle.fleet_pibt.proofs.Distances.{near-sym}
use Rattle.fleet_pibt.proofs.Roomy.{besides-turn, before-apart, goal-beyond}

pub turned : (m : Floor) (a b : ℕ) → IsNeighbour m a b → IsNeighbour m b a
turned m a b n = near-sym m a b n.0 n.1

long : (c : ℕ) (cs : List ℕ) → length (c ∷ cs) ≡ length cs + 1
long c cs = grind arith

-- the room of the door d with the mouth mo
module _ (m : Floor) (mo d : ℕ) (bridge : IsBridge (IsNeighbour m) mo d) where
  abbrev In : ℕ → Type 0
  In c = IsOnSide (IsNeighbour m) mo d c

  pub in_door : In d
  in_door = record { steps = []; walk = refl }

  pub out_mouth : In mo → ⊥
  out_mouth side = before-apart m mo d bridge side

  -- a neighbour of a cell of the room is in the room, or they are the door and the mouth
  pub beside_in : (y z : ℕ) → In y → IsNeighbour m y z → ((y ≡ d) × (z ≡ mo)) ⊎ In z
  beside_in y z in_y near = elim (cases_eq y d) [
    | inl at ↦ elim (cases_eq z mo) [ inl to ↦ inl (at, to) | inr off ↦ inr (step (λ _ e. off e)) ]
    | inr off ↦ inr (step (λ e _. off e))
  ]
    where
      step : (y ≡ d → z ≡ mo → ⊥) → In z
      step back = joined_on (Besides (IsNeighbour m) mo d) d y z in_y
          (joined_by_edge (Besides (IsNeighbour m) mo d) y z z (record { near = near; there = λ e _. out_mouth (subst In e in_y); back = back }) (joined_same (Besides (IsNeighbour m) mo d) z))

  module _ (S : ℕ → ℕ → Type 0) (sub : (x y : ℕ) → S x y → IsNeighbour m x y) where
    -- a walk out of the room: to the mouth, and on
    pub record IsLeaving (y c long_ : ℕ) : Type 0 where
      pub first : List ℕ
      pub to_mouth : Walks S y first mo
      pub rest : List ℕ
      pub on : Walks S mo rest c
      pub some : 0 < length first
      pub all : length first + length rest ≡ long_

    pub leaves : (y c : ℕ) (cs : List ℕ) → In y → (In c → ⊥) → Walks S y cs c → IsLeaving y c (length cs)
    leaves y c [] in_y out w = absurd (out (subst In w in_y))
    leaves y c (z ∷ cs) in_y out w = elim (beside_in y z in_y (sub y z w.0)) [
      | inl at ↦ record {
        first = z ∷ [];
        to_mouth = (w.0, at.1);
        rest = cs;
        on = subst (λ (x : ℕ). Walks S x cs c) at.1 w.1;
        some = omega (arith, long z []);
        all = omega (arith, long z [], long z cs);
      }
      | inr in_z ↦ (let it = leaves z c cs in_z out w.1 in record {
        first = z ∷ it.first;
        to_mouth = (w.0, it.to_mouth);
        rest = it.rest;
        on = it.on;
        some = omega (arith, long z it.first);
        all = omega (arith, long z it.first, long z cs, it.all);
      })
    ]

  module _ (u w : ℕ) where
    abbrev Free : ℕ → ℕ → Type 0
    Free = Besides (IsNeighbour m) u w

    abbrev Open : ℕ → ℕ → Type 0
    Open = Besides (IsPassage m (Some (record { from = mo; to = d }))) u w

    -- to a cell outside the room a walk need not go through the door
    around : (y c : ℕ) (cs : List ℕ) → (In c → ⊥) → Walks Free y cs c → AreJoined Open y c
    around y c [] out walk = record { steps = []; walk = walk }
    around y c (z ∷ cs) out walk =
        let rest = around z c cs out walk.1 in
        elim (cases_eq y mo) [
          | inl at ↦ elim (cases_eq z d) [
            | inl to ↦ (
                let it = leaves Open (λ a b s. s.near.0) z c rest.steps (subst In (sym to) in_door) out rest.walk in
                record { steps = it.rest; walk = subst (λ (x : ℕ). Walks Open x it.rest c) (sym at) it.on })
            | inr off ↦ joined_by_edge Open y z c (record { near = (walk.0.near, λ _ e. off (sym e)); there = walk.0.there; back = walk.0.back }) rest
          ]
          | inr off ↦ joined_by_edge Open y z c (record { near = (walk.0.near, λ e _. off (sym e)); there = walk.0.there; back = walk.0.back }) rest
        ]

    -- so the cells of a side that are outside the room are reached through passages
    pub side_open : (n : ℕ) → HasSideWithout (IsNeighbour m) mo d u w n → HasSide (IsPassage m (Some (record { from = mo; to = d }))) u w n
    side_open n side = record {
      cells = side.cells;
      many = side.many;
      apart = side.apart;
      inside = λ i l. (let j = side.inside i l in around w (slice_index side.cells i) j.steps (side.outside i l) j.walk);
    }

    free_near : (x y : ℕ) → Free x y → IsNeighbour m x y
    free_near x y s = s.near

    -- the mouth lies beyond the next edge of a way out of the room
    pub mouth_ahead : (k : ℕ) → In u → (In k → ⊥) → IsNeighbour m u w → IsNearer m k w u → IsOnSide (IsNeighbour m) u w mo
    mouth_ahead k in_u out near closer = elim (beside_in u w in_u near) [
      | inl at ↦ record { steps = []; walk = at.1 }
      | inr in_w ↦ (
          let j = goal-beyond m k w u closer in
          let it = leaves Free free_near w k j.steps in_w out j.walk in
          record { steps = it.first; walk = it.to_mouth })
    ]

    -- and beyond the next edge of a way into it
    pub mouth_before : (g : ℕ) → (In u → ⊥) → u ≢ mo → In g → IsNeighbour m u w → IsNearer m g w u → IsOnSide (IsNeighbour m) u w mo
    mouth_before g out_u off in_g near closer =
        let j = goal-beyond m g w u closer in
        let back = joined_back Free (besides-turn m u w) w g j in
        let it = leaves Free free_near g w back.steps in_g out_w back.walk in
        joined_back Free (besides-turn m u w) mo w (record { steps = it.rest; walk = it.on })
      where
        out_w : In w → ⊥
        out_w in_w = elim (beside_in w u in_w (turned m u w near)) [ inl at ↦ off at.1 | inr in_u ↦ out_u in_u ]

  -- a cell outside the room is nearer to a goal inside than the mouth only if it is not there
  pub enters : (w g near far : ℕ) → IsDistance (IsNeighbour m) w g near → IsDistance (IsNeighbour m) mo g far → near < far → In g → (In w → ⊥) → ⊥
  enters w g near far near_is far_is less in_g out_w =
      let back = walk_back (IsNeighbour m) (turned m) w g near_is.walk.0 near_is.walk.1 in
      let it = leaves (IsNeighbour m) (λ x y s. s) g w back.0 in_g out_w back.1 in
      let short = walk_back (IsNeighbour m) (turned m) g mo it.first it.to_mouth in
      let least = far_is.least short.0 short.1 in
      omega (arith, least, short.2, it.all, back.2, near_is.walk.2, less)

  -- the room has no way out of it to a goal inside
  pub not_out : (g : ℕ) → In g → IsNearer m g mo d → ⊥
  not_out g in_g closer =
      let j = goal-beyond m g mo d closer in
      let k = joined_back (Besides (IsNeighbour m) mo d) (besides-turn m mo d) d g in_g in
      bridge.alone (joined_on (Besides (IsNeighbour m) mo d) mo g d (other j) k)
    where
      other_way : (x y : ℕ) → Besides (IsNeighbour m) d mo x y → Besides (IsNeighbour m) mo d x y
      other_way x y s = record { near = s.near; there = λ a b. s.back a b; back = λ a b. s.there a b }

      walk : (x : ℕ) (cs : List ℕ) → Walks (Besides (IsNeighbour m) d mo) x cs g → Walks (Besides (IsNeighbour m) mo d) x cs g
      walk x [] w = w
      walk x (c ∷ cs) w = (other_way x c w.0, walk c cs w.1)

      other : AreJoined (Besides (IsNeighbour m) d mo) mo g → AreJoined (Besides (IsNeighbour m) mo d) mo g
      other j = record { steps = j.steps; walk = walk mo j.steps j.walk }
