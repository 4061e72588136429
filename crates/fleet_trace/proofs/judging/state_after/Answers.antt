use Rattle.std.proofs.Common.{◌∙◌, ℕ, List, ap, slice_index}
use Rattle.fleet_trace.proofs.Rooms.{rooms-have}
use Rattle.fleet_trace.proofs.judging.state_after.Goals as goal

pub rooms_of-requires : goal.rooms_of-requires
rooms_of-requires g c = λ k d less. (c.requires.order.robots k d less).room

pub open_within-requires-clause-order : goal.open_within-requires-clause-order
open_within-requires-clause-order g c = (c.args.grid.now, c.requires.order)

pub open_within-requires-clause-rooms : goal.open_within-requires-clause-rooms
open_within-requires-clause-rooms g c =
    rooms-have c.args.opening.now c.args.entries.now c.in_ok-rooms.rooms.items (λ k d less. (c.requires.order.robots k d less).room) c.in_ok-rooms.ensures.count c.in_ok-rooms.ensures.each

pub judge_entries-requires-clause-opened : goal.judge_entries-requires-clause-opened
judge_entries-requires-clause-opened g c = c.in_ok-state.ensures.of c.args.grid.now c.requires.order

pub judge_entries-requires-clause-rooms : goal.judge_entries-requires-clause-rooms
judge_entries-requires-clause-rooms g c = λ r l. ap (λ (xs : List ℕ). slice_index xs r) c.in_ok-state.ensures.rooms ∙ c.in_ok-rooms.ensures.each r l
