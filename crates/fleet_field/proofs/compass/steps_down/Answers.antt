use Rattle.std.proofs.Common.{◌≡◌, ◌+◌, ◌-◌, ℕ, length, slice_index, Some, None, refl, sym, ap, ◌∙◌, arith}
use Rattle.std.proofs.lemmas.List.{get_or_past}
use Rattle.fleet_field.specs.Compass.{next_cell}
use Rattle.fleet_field.proofs.Descent.{step_found, step_stuck, step_on}
use Rattle.fleet_field.proofs.compass.steps_down.Goals as goal

pub returns-then-cell-goal : goal.returns-then-cell-goal
returns-then-cell-goal c =
    sym (step_found c.args.width c.args.ways.now c.args.goal (length c.args.ways.now - c.loop-taken.taken) c.loop-taken.taken c.loop-taken.cell (omega (arith, c.loop-taken-test.true)) c.if-cell-goal.true) ∙ c.loop-taken.invariant.same

pub returns-then-cell-ways : goal.returns-then-cell-ways
returns-then-cell-ways c =
    let past : slice_index c.args.ways.now c.loop-taken.cell ≡ 0 = get_or_past c.args.ways.now c.loop-taken.cell 0 (omega (arith, c.if-cell-ways.true)) in
    let none : next_cell c.args.width (slice_index c.args.ways.now c.loop-taken.cell) c.loop-taken.cell ≡ None = ap (λ (b : ℕ). next_cell c.args.width b c.loop-taken.cell) past in
    sym (step_stuck c.args.width c.args.ways.now c.args.goal (length c.args.ways.now - c.loop-taken.taken) c.loop-taken.taken c.loop-taken.cell c.if-cell-goal.false none) ∙ c.loop-taken.invariant.same

pub returns-in-None : goal.returns-in-None
returns-in-None c =
    let none : next_cell c.args.width (slice_index c.args.ways.now c.loop-taken.cell) c.loop-taken.cell ≡ None = cc (c.in-None.ensures) in
    sym (step_stuck c.args.width c.args.ways.now c.args.goal (length c.args.ways.now - c.loop-taken.taken) c.loop-taken.taken c.loop-taken.cell c.if-cell-goal.false none) ∙ c.loop-taken.invariant.same

pub loop-taken-preserved : goal.loop-taken-preserved
loop-taken-preserved c =
    let on : next_cell c.args.width (slice_index c.args.ways.now c.loop-taken.cell) c.loop-taken.cell ≡ Some c.in-Some.next = cc (c.in-Some.ensures) in
    record {
      end = refl;
      below = omega (arith, c.loop-taken-test.true);
      same = sym (step_on c.args.width c.args.ways.now c.args.goal (length c.args.ways.now - c.loop-taken.taken) (length c.args.ways.now - (c.loop-taken.taken + 1)) c.loop-taken.taken c.loop-taken.cell c.in-Some.next (omega (arith, c.loop-taken-test.true)) c.if-cell-goal.false on) ∙ c.loop-taken.invariant.same;
    }
