-- One more move begins, and its robot may pass.
use Rattle.std.proofs.Common.{◌∙◌}
use Rattle.live_vehicles.proofs.Steps.{moved_begun}
use Rattle.live_vehicles.proofs.regaining.go_up_to.Goals as goal

pub loop-move-preserved : goal.loop-move-preserved
loop-move-preserved c = record {
  first = c.in_ok-pass.ensures.first ∙ (c.in-Some.ensures.first ∙ c.loop-move.invariant.first);
  moved = λ o x. c.in_ok-pass.ensures.moved o (moved_begun o c.loop-move.vehicles c.begin.new.self c.in-Some.begun c.in-Some.ensures.some (c.loop-move.invariant.moved o x));
}
