use Rattle.std.proofs.Common.{ℕ, slice_index, subst, arith}
use Rattle.fleet_grid.specs.Floor.{IsFloor}
use Rattle.fleet_check.specs.Fault.{IsFirst, IsFirstPair, Exchange}
use Rattle.fleet_check.proofs.Steps.{few_robots}
use Rattle.fleet_check.proofs.check.first_fault.Goals as goal

pub overflow_cast-result : goal.overflow_cast-result
overflow_cast-result g c =
    let few = few_robots c.args.grid.now c.args.from.now c.cell_count-cells.ensures.form c.requires in
    omega (arith, few, c.in-Some.ensures.inside, c.if-to-from.false)

pub overflow_cast-result-in-Some-first_not_adjacent : goal.overflow_cast-result-in-Some-first_not_adjacent
overflow_cast-result-in-Some-first_not_adjacent g c =
    let few = few_robots c.args.grid.now c.args.from.now c.cell_count-cells.ensures.form c.requires in
    omega (arith, few, c.in-Some-first_not_adjacent.ensures.inside, c.if-to-from.false)

pub seats_of-requires : goal.seats_of-requires
seats_of-requires g c =
    let few = few_robots c.args.grid.now c.args.from.now c.cell_count-cells.ensures.form c.requires in
    omega (arith, few, c.if-to-from.false)

pub first_exchange-requires-clause-few : goal.first_exchange-requires-clause-few
first_exchange-requires-clause-few g c =
    let few = few_robots c.args.grid.now c.args.from.now c.cell_count-cells.ensures.form c.requires in
    omega (arith, few, c.if-to-from.false)

pub returns-then-to-from-clause-ok : goal.returns-then-to-from-clause-ok
returns-then-to-from-clause-ok g c = tt

pub returns-then-to-from-clause-fault : goal.returns-then-to-from-clause-fault
returns-then-to-from-clause-fault g c = c.if-to-from.true

pub returns-in-Some-clause-fault : goal.returns-in-Some-clause-fault
returns-in-Some-clause-fault g c =
    let Leaves = λ (r : ℕ). IsFloor c.args.grid.now (slice_index c.args.to.now r) → ⊥ in
    let e = c.if-to-from.false in
    (e, subst (λ (n : ℕ). IsFirst Leaves n c.in-Some.robot) e c.in-Some.ensures)

pub returns-in-Some-first_exchange-clause-fault : goal.returns-in-Some-first_exchange-clause-fault
returns-in-Some-first_exchange-clause-fault g c =
    let p = c.in-Some-first_exchange in
    let e = c.if-to-from.false in (
      record {
        on_floor = record { same_length = e; on_floor = λ r less. c.in_default.ensures r (omega arith) };
        moves = λ r less. c.in_default-first_not_adjacent.ensures r (omega arith);
      },
      λ k l order inner. c.in_ok-seats.ensures.apart k l order (omega arith),
      subst (λ (n : ℕ). IsFirstPair (Exchange c.args.from.now c.args.to.now) n p.first p.second) e p.ensures,
    )

pub returns-in-Some-clause-ok : goal.returns-in-Some-clause-ok
returns-in-Some-clause-ok g c = tt

pub first_not_adjacent-requires : goal.first_not_adjacent-requires
first_not_adjacent-requires g c = c.if-to-from.false

pub returns-in-Some-first_not_adjacent-clause-ok : goal.returns-in-Some-first_not_adjacent-clause-ok
returns-in-Some-first_not_adjacent-clause-ok g c = tt

pub first_exchange-requires-clause-equal : goal.first_exchange-requires-clause-equal
first_exchange-requires-clause-equal g c = c.if-to-from.false

pub first_exchange-requires-clause-seats : goal.first_exchange-requires-clause-seats
first_exchange-requires-clause-seats g c = c.in_ok-seats.ensures

pub returns-in-Some-first_exchange-clause-ok : goal.returns-in-Some-first_exchange-clause-ok
returns-in-Some-first_exchange-clause-ok g c = tt

pub returns-clause-ok : goal.returns-clause-ok
returns-clause-ok g c =
    let e = c.if-to-from.false in
    record {
      same_length = e;
      on_floor = λ r less. c.in_default.ensures r (omega (arith, less, e));
      moves = λ r less. c.in_default-first_not_adjacent.ensures r (omega (arith, less, e));
      no_vertex_conflict = λ i j order inner. c.in_ok-seats.ensures.apart i j order (omega (arith, inner, e));
      no_swapping_conflict = λ i j order inner there back. c.in-None.ensures i j order (omega (arith, inner, e)) (there, back);
    }

pub returns-clause-fault : goal.returns-clause-fault
returns-clause-fault g c = tt
