use Rattle.std.proofs.Common.{◌≡◌, ℕ, ◌<◌, List, [], ◌∷◌, ◌++◌, length, slice_index, sym, ap, subst, ◌∙◌}
use Rattle.fleet_grid.specs.Floor.{IsFloor}
use Rattle.fleet_field.proofs.Ahead.{each_pushed}
use Rattle.fleet_planner.proofs.ahead.goals_ahead.Goals as goal
use Rattle.fleet_planner.proofs.ahead.goals_ahead.Goals.{in-Some+in_ok-push, in_default}

pub loop-queue-preserved : goal.loop-queue-preserved
loop-queue-preserved g c =
    let m = c.args.grid.now in
    let Floor = λ (xs : List ℕ). (i : ℕ) → i < length xs → IsFloor m (slice_index xs i) in
    elim c.match-goal_ahead.branch [
      | in-Some+in_ok-push w ↦ (
          let e : c.match-goal_ahead.goals.items ≡ c.loop-queue.goals.items ++ w.in-Some.goal ∷ [] = ap (λ v. v.items) w.goals-is ∙ w.in_ok-push.ensures.items in
          subst Floor (sym e) (each_pushed (IsFloor m) c.loop-queue.goals.items w.in-Some.goal c.loop-queue.invariant w.in-Some.ensures))
      | in_default w ↦ subst Floor (sym (ap (λ v. v.items) w.goals-is)) c.loop-queue.invariant
    ]
