-- The rooms of a tree that passed its checks are those of its map.
use Rattle.std.proofs.Common.{ℕ, List, length, sym, subst, arith}
use Rattle.std.specs.Prelude.{slice_index}
use Rattle.fleet_grid.specs.Floor.{Floor, IsFloor, IsNeighbour}
use Rattle.fleet_grid.proofs.Forms.{floor_inside}
use Rattle.fleet_bridge.specs.Rooms.{AreRooms, AreRoomsBy}
use Rattle.fleet_bridge.specs.declared.layout.Layout.{Layout}
use Rattle.fleet_bridge.specs.declared.rooms.Rooms.{Rooms}
use Rattle.fleet_bridge.specs.declared.tree.Tree.{Tree}
use Rattle.fleet_bridge.specs.inside.Housed.{AreTold, IsHousedIn}
use Rattle.fleet_bridge.specs.inside.Preorder.{IsWalk}
use Rattle.fleet_bridge.specs.inside.Spanning.{IsSpanning}
use Rattle.fleet_bridge.proofs.Rounds.{near_turn}
use Rattle.fleet_bridge.proofs.Capacity.{core_few}
use Rattle.fleet_bridge.proofs.Housing.{to_root}
use Rattle.fleet_bridge.proofs.RoomSides.{block_is, room_bridge, room_mouth, room_is, room_size, capacity_is}

pub told_rooms : {A : Type 0} (m : Floor) (t : Tree A) (l : Layout A) (rooms : Rooms A) → IsSpanning m t → IsWalk m t → ((c : ℕ) → IsFloor m c → IsHousedIn m t l c) → AreTold t l (length m.letters) rooms → AreRooms m rooms
told_rooms m t l rooms span walk housed told =
    let up = slice_index t.up.items in
    let number = slice_index t.number.items in
    let end = slice_index t.end.items in
    let top = slice_index t.top.items in
    let far = slice_index t.far.items in
    let order = slice_index t.order.items in
    let door = slice_index l.door.items in
    let first = slice_index l.first.items in
    let second = slice_index l.second.items in
    let most = slice_index l.most.items in
    let near = IsNeighbour m in
    let base : AreRoomsBy m top door up (slice_index rooms.size.items) most = record {
      part = to_root near (IsFloor m) (length m.letters) (length t.order.items) up number end top far order door first second most (near_turn m) (λ x y e. e.1.from) (floor_inside m) span.fits walk.whole walk.listed housed;
      one_core = λ c d edge. (span.fits c (floor_inside m c edge.1.from)).same d edge;
      block = block_is near (IsFloor m) (length m.letters) (length t.order.items) up number end top far order door first second most (near_turn m) (λ x y e. e.1.from) (floor_inside m) span.fits walk.whole walk.listed housed;
      bridge = room_bridge near (IsFloor m) (length m.letters) (length t.order.items) up number end top far order door first second most (near_turn m) (λ x y e. e.1.from) (floor_inside m) span.fits walk.whole walk.listed housed;
      mouth_in = room_mouth near (IsFloor m) (length m.letters) (length t.order.items) up number end top far order door first second most (near_turn m) (λ x y e. e.1.from) (floor_inside m) span.fits walk.whole walk.listed housed;
      room = room_is near (IsFloor m) (length m.letters) (length t.order.items) up number end top far order door first second most (near_turn m) (λ x y e. e.1.from) (floor_inside m) span.fits walk.whole walk.listed housed;
      sized = λ c n floor other. (
          let bridge = room_bridge near (IsFloor m) (length m.letters) (length t.order.items) up number end top far order door first second most (near_turn m) (λ x y e. e.1.from) (floor_inside m) span.fits walk.whole walk.listed housed c floor other in
          let size = told.size (door c) (floor_inside m (door c) bridge.edge.1.to) in
          let exact = room_size near (IsFloor m) (length m.letters) (length t.order.items) up number end top far order door first second most (near_turn m) (λ x y e. e.1.from) (floor_inside m) span.fits walk.whole walk.listed housed c n floor other in
          (λ le. exact.0 (omega (arith, le, size)), λ side. (let le = exact.1 side in omega (arith, le, size))));
      counted = capacity_is near (IsFloor m) (length m.letters) (length t.order.items) up number end top far order door first second most (near_turn m) (λ x y e. e.1.from) (floor_inside m) span.fits walk.whole walk.listed housed;
      greatest = λ c n floor. core_few near (IsFloor m) (length m.letters) (length t.order.items) up number end top far order door first second most (near_turn m) (λ x y e. e.1.from) (floor_inside m) span.fits walk.whole walk.listed housed n c floor;
    } in
    subst (λ (xs : List ℕ). AreRoomsBy m (slice_index xs) (slice_index rooms.door.items) (slice_index rooms.mouth.items) (slice_index rooms.size.items) (slice_index rooms.capacity.items)) (sym told.core)
    (subst (λ (xs : List ℕ). AreRoomsBy m top (slice_index xs) (slice_index rooms.mouth.items) (slice_index rooms.size.items) (slice_index rooms.capacity.items)) (sym told.door)
    (subst (λ (xs : List ℕ). AreRoomsBy m top door (slice_index xs) (slice_index rooms.size.items) (slice_index rooms.capacity.items)) (sym told.mouth)
    (subst (λ (xs : List ℕ). AreRoomsBy m top door up (slice_index rooms.size.items) (slice_index xs)) (sym told.capacity) base)))
