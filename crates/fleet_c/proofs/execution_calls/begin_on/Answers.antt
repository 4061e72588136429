-- C's move is the one that begins.
use Rattle.std.proofs.Common.{refl, sym, subst}
use Rattle.fleet_execution.specs.declared.motion.Move.{Move}
use Rattle.fleet_execution.specs.Given.{Gives}
use Rattle.fleet_execution.specs.Kept.{desk}
use Rattle.fleet_c.proofs.execution_calls.begin_on.Goals as goal

pub returns-in-Some : goal.returns-in-Some
returns-in-Some c = record {
  some = λ _ o x. subst (λ (m : Move). Gives o m (desk c.begin.new.self)) (sym c.of.ensures) (c.in-Some.ensures.some o x);
  fewer = λ _. c.in-Some.ensures.fewer;
  none = λ other. absurd (other refl);
  refused = λ other. absurd (other refl);
  bounds = c.in-Some.ensures.bounds;
  stays = λ other. absurd (other refl);
}
