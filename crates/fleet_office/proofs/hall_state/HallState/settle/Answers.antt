use Rattle.std.proofs.Common.{◌≡◌, arith, length, ap}
use Rattle.fleet_office.specs.declared.report.TurnReport.{TurnReport}
use Rattle.fleet_office.specs.Hall.{given_count}
use Rattle.fleet_office.proofs.Counted.{first-given}
use Rattle.fleet_office.proofs.hall_state.HallState.settle.Goals as goal

pub overflow_add-given : goal.overflow_add-given
overflow_add-given g c =
    let first = c.give_all-given in
    let more = c.give_all-more in
    let taken : given_count c.take_all.new.self ≡ given_count first.new.self = first-given (length first.new.self.ends) first.new.self c.take_all.new.self c.in-Ok.taken c.in-Ok.held c.in-Ok.ensures.ok in
    omega (arith, first.ensures.counted, more.ensures.counted, more.ensures.few, taken)

pub returns-in-Ok-clause-given : goal.returns-in-Ok-clause-given
returns-in-Ok-clause-given g c =
    let first = c.give_all-given in
    let more = c.give_all-more in
    let taken : given_count c.take_all.new.self ≡ given_count first.new.self = first-given (length first.new.self.ends) first.new.self c.take_all.new.self c.in-Ok.taken c.in-Ok.held c.in-Ok.ensures.ok in
    omega (arith, first.ensures.counted, more.ensures.counted, taken, ap (λ (r : TurnReport). r.given) c.so_far.ensures)
