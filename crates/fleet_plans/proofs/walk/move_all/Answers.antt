-- The robots up to this one have moved.
use Rattle.std.proofs.Common.{◌≡◌, ℕ, slice_index, ap, ◌∙◌, arith}
use Rattle.fleet_plans.specs.Tracks.{moved, letter_at}
use Rattle.fleet_plans.specs.Shown.{texts}
use Rattle.fleet_plans.proofs.Walks.{set_more, set_rest}
use Rattle.fleet_plans.proofs.walk.move_all.Goals as goal

pub loop-robot-preserved : goal.loop-robot-preserved
loop-robot-preserved c =
    let w = c.args.sides.width in
    let h = c.args.sides.height in
    let init = c.args.place.now in
    let place = c.loop-robot.place in
    let robot = c.loop-robot.robot in
    let f = λ (r : ℕ). moved w h (slice_index init r) (letter_at (texts c.args.tracks.now) r c.args.time) in
    let letter = c.letter_at.result in
    let cell : slice_index place robot ≡ slice_index init robot = c.loop-robot.invariant.rest robot (omega arith) in
    let here : c.moved.result ≡ f robot =
    c.moved.ensures ∙ (ap (λ (x : ℕ). moved w h x letter) cell ∙ ap (λ (l : ℕ). moved w h (slice_index init robot) l) c.letter_at.ensures) in
    record {
      done = set_more f place robot c.moved.result (omega arith) c.loop-robot.invariant.done here;
      rest = set_rest place init robot c.moved.result c.loop-robot.invariant.rest;
    }
