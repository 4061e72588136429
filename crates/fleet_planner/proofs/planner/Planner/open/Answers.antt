use Rattle.std.proofs.Common.{◌≡◌, ◌∙◌, ℕ, List, Option, None, length, ap, arith}
use Rattle.std.proofs.lemmas.List.{length-replicate}
use Rattle.std.proofs.lemmas.Result.{IfOk-from_err}
use Rattle.fleet_planner.specs.Courses.{goals_of}
use Rattle.fleet_planner.proofs.planner.Planner.open.Goals as goal

pub returns-in_err-bridgeless : goal.returns-in_err-bridgeless
returns-in_err-bridgeless g c = IfOk-from_err c.from_residual.result _ c.from_residual.ensures.0

pub returns-in_err-turns : goal.returns-in_err-turns
returns-in_err-turns g c = IfOk-from_err c.from_residual-in_err-turns.result _ c.from_residual-in_err-turns.ensures.0

pub returns-in_err-aims : goal.returns-in_err-aims
returns-in_err-aims g c = IfOk-from_err c.from_residual-in_err-aims.result _ c.from_residual-in_err-aims.ensures.0

pub returns-in_err-stepper : goal.returns-in_err-stepper
returns-in_err-stepper g c = IfOk-from_err c.from_residual-in_err-stepper.result _ c.from_residual-in_err-stepper.ensures.0

pub invariant_of-result : goal.invariant_of-result
invariant_of-result g c =
    let count : length (goals_of c.in_ok-aims.aims) ≡ c.args.robots = ap (λ (goals : List (Option ℕ)). length goals) c.in_ok-aims.ensures.none ∙ length-replicate c.args.robots None in
    let room = c.in_ok-turns.ensures.capacity in
    omega (arith, count, room)

pub returns : goal.returns
returns g c = record {
  none = c.in_ok-aims.ensures.none;
  on = c.in_ok-aims.ensures.on c.args.grid.now;
  size = c.in_ok-stepper.ensures ∙ ap (λ (n : ℕ). record { cells = n; robots = c.args.robots }) c.cell_count-2.ensures.value;
  bridge = c.in_ok-bridgeless.ensures;
  keeps = c.new-3.ensures.keeps c.args.grid.now;
}
