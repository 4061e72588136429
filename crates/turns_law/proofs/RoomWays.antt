-- Who goes first in a tick of turns has a way.
use Rattle.std.proofs.Common.{◌≡◌, ◌≢◌, ℕ, zero, suc, ◌+◌, ◌<◌, ◌≤◌, ◌⊎◌, inl, inr, Option, Some, None, List, [], ◌∷◌, length, slice_index, sym, subst, refl, ap, ◌∙◌, arith}
use Rattle.std.proofs.lemmas.Bool.{cases_eq}
use Rattle.fleet_grid.specs.Floor.{Floor, IsFloor, IsNeighbour}
use Rattle.fleet_grid.specs.Walk.{Walks, Besides, AreJoined, IsBridge, IsOnSide, IsDistance}
use Rattle.fleet_bridge.specs.Rooms.{IsRoom}
use Rattle.fleet_pibt.specs.Advancing.{IsFullBeyond, HasWayAhead}
use Rattle.fleet_pibt.specs.Door.{IsPassage, IsFullWithDoor, HasWayWithDoor}
use Rattle.fleet_pibt.specs.Goals.{IsNearer}
use Rattle.fleet_pibt.specs.declared.door.Door.{Door}
use Rattle.fleet_pibt.proofs.Distances.{distance-unique, distance-ahead}
use Rattle.fleet_pibt.proofs.Roomy.{one-way}
use Rattle.fleet_pibt.proofs.Doors.{way-same, empty-beyond, many-beyond, open-edge, one-with}
use Rattle.turns_law.proofs.Crossing.{beside_in, in_door, out_mouth, side_open, mouth_ahead, mouth_before, enters, not_out}

-- from a cell that is not the goal a neighbour is nearer
pub record HasNext (m : Floor) (cell g : ℕ) : Type 0 where
  pub next : ℕ
  pub near : IsNeighbour m cell next
  pub closer : IsNearer m g next cell

pub next_of : (m : Floor) (cell g d : ℕ) → IsDistance (IsNeighbour m) cell g (suc d) → HasNext m cell g
next_of m cell g d is =
    let it = distance-ahead (IsNeighbour m) cell g d is in
    record { next = it.0; near = it.1; closer = record { near = d; far = suc d; near_is = it.2; far_is = is; less = omega arith } }

module _ (m : Floor) (from : List ℕ) (e mo d : ℕ) (known : e < length from) (room : IsRoom (IsNeighbour m) (length from) mo d) where
  abbrev door : Door
  door = record { from = mo; to = d }

  abbrev here : ℕ
  here = slice_index from e

  abbrev In : ℕ → Type 0
  In c = IsOnSide (IsNeighbour m) mo d c

  -- no neighbour is full beyond, if the mouth lies beyond each bridge to one
  not_full : (w : ℕ) → IsPassage m (Some door) here w → (IsBridge (IsNeighbour m) here w → IsOnSide (IsNeighbour m) here w mo) → IsFullWithDoor m (Some door) from here w → ⊥
  not_full w p mouth beyond = open-edge m door from here w room.bridge p
      (λ thin. many-beyond m (Some door) from e w known (side_open m mo d room.bridge here w (length from) (room.mouth here w thin (mouth thin))) beyond) beyond

  passage : (w : ℕ) → here ≢ mo → IsNeighbour m here w → IsPassage m (Some door) here w
  passage w off near = (near, λ at _. off (sym at))

  -- a robot of the room on its way out
  pub way_out : (k : ℕ) → In here → (In k → ⊥) → HasNext m here k → HasWayWithDoor m (Some door) from k here
  way_out k inside out it =
      let off : here ≢ mo = λ (at : here ≡ mo). out_mouth m mo d room.bridge (subst In at inside) in
      let p = passage it.next off it.near in
      one-with m door from k here it.next room.bridge p it.closer
      (not_full it.next p (λ _. mouth_ahead m mo d room.bridge here it.next k inside out it.near it.closer))

  -- a robot outside on its way to the room
  pub way_to : (g : ℕ) → (In here → ⊥) → here ≢ mo → In g → HasNext m here g → HasWayWithDoor m (Some door) from g here
  way_to g out off inside it =
      let p = passage it.next off it.near in
      one-with m door from g here it.next room.bridge p it.closer
      (not_full it.next p (λ _. mouth_before m mo d room.bridge here it.next g out off inside it.near it.closer))

  -- nobody else is on a cell of the room
  abbrev IsLone : Type 0
  IsLone = (r : ℕ) → r < length from → r ≢ e → In (slice_index from r) → ⊥

  empty : (w g : ℕ) → IsLone → In w → IsNearer m g w here → (r : ℕ) → r < length from → slice_index from r ≢ w
  empty w g lone in_w closer r l at = elim (cases_eq r e) [
    | inl same ↦ (
        let is : here ≡ w = ap (slice_index from) (sym same) ∙ at in
        let once = distance-unique (IsNeighbour m) w g closer.near closer.far closer.near_is (subst (λ (x : ℕ). IsDistance (IsNeighbour m) x g closer.far) is closer.far_is) in
        let less = closer.less in
        omega (arith, once, less))
    | inr other ↦ lone r l other (subst In (sym at) in_w)
  ]

  -- a robot in the room, alone there, on its way within
  pub way_within : (g : ℕ) → IsLone → In here → In g → HasNext m here g → HasWayWithDoor m (Some door) from g here
  way_within g lone inside goal_in it =
      let off : here ≢ mo = λ (at : here ≡ mo). out_mouth m mo d room.bridge (subst In at inside) in
      let p = passage it.next off it.near in
      let in_next : In it.next = elim (beside_in m mo d room.bridge here it.next inside it.near) [
        | inl at ↦ absurd (not_out m mo d room.bridge g goal_in (subst (λ (x : ℕ). IsNearer m g x d) at.1 (subst (λ (x : ℕ). IsNearer m g it.next x) at.0 it.closer)))
        | inr stays ↦ stays
      ] in
      one-with m door from g here it.next room.bridge p it.closer
      (empty-beyond m (Some door) from here it.next it.next (record { steps = []; walk = refl }) (empty it.next g lone in_next it.closer))

  -- a robot at the mouth of the room, where nobody is
  pub way_in : (g : ℕ) → IsLone → here ≡ mo → In g → ((w : ℕ) → IsNeighbour m here w → (In w) ⊎ (In w → ⊥)) → HasNext m here g → HasWayWithDoor m None from g here
  way_in g lone at inside tell it = (way-same m from g here).1 (one-way m from g here it.next it.near it.closer (elim (tell it.next it.near) [
    | inl in_next ↦ (λ (beyond : IsFullBeyond m from here it.next).
        let robot = beyond.full it.next (record { steps = []; walk = refl }) in
        empty it.next g lone in_next it.closer robot.0 robot.1 robot.2)
    | inr out ↦ (λ (_ : IsFullBeyond m from here it.next). enters m mo d room.bridge it.next g it.closer.near it.closer.far it.closer.near_is
        (subst (λ (x : ℕ). IsDistance (IsNeighbour m) x g it.closer.far) at it.closer.far_is) it.closer.less inside out)
  ]))
