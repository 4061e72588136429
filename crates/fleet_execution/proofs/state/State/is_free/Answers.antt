-- A robot that has done with its last move.
use Rattle.std.proofs.Common.{◌≡◌, refl, sym, ◌∙◌, subst}
use Rattle.execution_law.specs.declared.clearance.Clearance.TheVariants.{Arrived, Started}
use Rattle.fleet_execution.specs.declared.robot.Robot.{Robot}
use Rattle.fleet_execution.specs.Asked.{HaveTurned}
use Rattle.fleet_execution.specs.State.{desk_of, nobody}
use Rattle.fleet_execution.proofs.state.State.is_free.Goals as goal

two : Started ≡ Arrived → ⊥
two e = cc

pub returns-then-state : goal.returns-then-state
returns-then-state g c = (
  λ it_is. cc,
  λ free. absurd (c.if-state.true (subst (λ (s : Robot). s.returned ≡ s.reached) (sym (c.get-state.ensures nobody)) free.stands)),
)

pub returns-in-Started : goal.returns-in-Started
returns-in-Started g c = (
  λ it_is. record {
    stands = subst (λ (s : Robot). s.returned ≡ s.reached) (c.get-state.ensures nobody) c.if-state.false;
    turned = λ arrived. absurd (two (sym c.in-Started.is ∙ arrived));
  },
  λ free. refl,
)

pub returns-in-Arrived : goal.returns-in-Arrived
returns-in-Arrived g c = (
  λ it_is. record {
    stands = subst (λ (s : Robot). s.returned ≡ s.reached) (c.get-state.ensures nobody) c.if-state.false;
    turned = λ arrived. subst (λ (s : Robot). HaveTurned (desk_of c.args.self.now) c.args.robot s) (c.get-state.ensures nobody) (c.have_turned.ensures.0 it_is);
  },
  λ free. c.have_turned.ensures.1 (subst (λ (s : Robot). HaveTurned (desk_of c.args.self.now) c.args.robot s) (sym (c.get-state.ensures nobody)) (free.turned c.in-Arrived.is)),
)
