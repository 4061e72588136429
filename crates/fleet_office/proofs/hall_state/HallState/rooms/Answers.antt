use Rattle.std.proofs.Common.{◌≡◌, length, arith}
use Rattle.std.specs.Vec.{vec_capacity}
use Rattle.fleet_office.proofs.Uncollected.{rooms_more, rooms_all}
use Rattle.std.proofs.lemmas.Result.{IfOk-from_err}
use Rattle.fleet_office.proofs.hall_state.HallState.rooms.Goals as goal

pub returns : goal.returns
returns g c =
    rooms_all g.N.OfficeName.rings c.loop-number.number c.loop-number.rooms.items c.args.self.now.world c.args.clients.now (omega (arith, c.loop-number-test.false, c.ring_count-count.ensures)) c.requires.on c.loop-number.invariant.below

pub returns-in_err-rooms : goal.returns-in_err-rooms
returns-in_err-rooms g c = IfOk-from_err c.from_residual.result _ c.from_residual.ensures.0

pub loop-number-init : goal.loop-number-init
loop-number-init g c = record {
  size = c.in_ok-rooms.ensures.len;
  room = c.in_ok-rooms.ensures.capacity;
  below = λ k x less at. absurd (omega (arith, less));
}

pub room_of-requires-clause-known : goal.room_of-requires-clause-known
room_of-requires-clause-known g c = omega (arith, c.loop-number-test.true, c.ring_count-count.ensures)

pub room_of-requires-clause-distinct : goal.room_of-requires-clause-distinct
room_of-requires-clause-distinct g c = c.requires.distinct

pub returns-in_err-room_of : goal.returns-in_err-room_of
returns-in_err-room_of g c = IfOk-from_err c.from_residual-in_err-room_of.result _ c.from_residual-in_err-room_of.ensures.0

pub push_reserved-requires : goal.push_reserved-requires
push_reserved-requires g c = omega (arith, c.loop-number-test.true, c.loop-number.invariant.size, c.loop-number.invariant.room)

pub loop-number-smaller : goal.loop-number-smaller
loop-number-smaller g c = omega (arith, c.loop-number-test.true)

pub loop-number-preserved : goal.loop-number-preserved
loop-number-preserved g c =
    let i = c.loop-number.invariant in
    let rooms = c.loop-number.rooms in
    let v = c.in_ok-room_of.field-0 in
    let many : length rooms.items ≡ c.loop-number.number = omega (arith, i.size, rooms.ok.0) in
    record {
      size = omega (arith, c.push_reserved.ensures.len, i.size);
      room = omega (arith, c.push_reserved.ensures.capacity, i.room);
      below = rw c.push_reserved.ensures.items (rooms_more c.loop-number.number (vec_capacity v) rooms.items v c.args.self.now.world c.args.clients.now many c.in_ok-room_of.ensures.items (omega arith) c.in_ok-room_of.ensures.room i.below);
    }
