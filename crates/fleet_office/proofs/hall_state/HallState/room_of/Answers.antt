use Rattle.std.proofs.Common.{◌≤◌, arith}
use Rattle.std.specs.Vec.{vec_capacity}
use Rattle.std.proofs.lemmas.Result.{IfOk-from_err, IfOk-weaker}
use Rattle.fleet_office.specs.inside.Leftovers.{HasAtMost}
use Rattle.fleet_office.proofs.hall_state.HallState.room_of.Goals as goal

pub uncollected-requires-clause-known : goal.uncollected-requires-clause-known
uncollected-requires-clause-known g c = c.requires.known

pub uncollected-requires-clause-distinct : goal.uncollected-requires-clause-distinct
uncollected-requires-clause-distinct g c = c.requires.distinct

pub returns-in_err-count-clause-items : goal.returns-in_err-count-clause-items
returns-in_err-count-clause-items g c = IfOk-from_err c.from_residual.result _ c.from_residual.ensures.0

pub returns-in_err-count-clause-room : goal.returns-in_err-count-clause-room
returns-in_err-count-clause-room g c = IfOk-from_err c.from_residual.result _ c.from_residual.ensures.0

pub returns-clause-items : goal.returns-clause-items
returns-clause-items g c = c.with_capacity.ensures.items

pub returns-clause-room : goal.returns-clause-room
returns-clause-room g c =
    IfOk-weaker
    c.with_capacity.result
    (λ v. c.in_ok-count.count ≤ vec_capacity v)
    (λ v. HasAtMost (vec_capacity v) c.args.self.now.world c.args.clients.now c.args.number)
    (λ v room k x at same. omega (arith, room, c.in_ok-count.ensures k x at same))
    c.with_capacity.ensures.capacity
