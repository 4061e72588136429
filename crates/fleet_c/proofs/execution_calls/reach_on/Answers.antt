-- C's move is that of the report.
use Rattle.std.proofs.Common.{ℕ, ◌≡◌, refl, sym, ◌∙◌, ap, subst}
use Rattle.fleet_execution.specs.declared.motion.Move.{Move}
use Rattle.fleet_execution.specs.Given.{IsReported}
use Rattle.fleet_execution.specs.Kept.{desk}
use Rattle.fleet_c.proofs.execution_calls.reach_on.Goals as goal

pub returns-in-Ok : goal.returns-in-Ok
returns-in-Ok c = record {
  own = λ _. ap (λ (m : Move). m.robot) c.of.ensures ∙ c.in-Ok.ensures.robot;
  reported = λ _ o x. subst (λ (m : Move). IsReported o m (desk c.reached.new.self)) (sym c.of.ensures) (c.in-Ok.ensures.reported o x);
  idle = λ other. absurd (other refl);
  refused = λ other. absurd (other refl);
  bounds = c.in-Ok.ensures.bounds;
  stays = λ other. absurd (other refl);
}
