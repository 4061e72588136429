-- Whether cells are a further step.
use Rattle.std.proofs.Common.{◌≡◌, ◌∙◌, inl, inr}
use Rattle.std.proofs.lemmas.Bool.{cases_Bool}
use Rattle.fleet_execution.specs.State.{desk_of}
use Rattle.fleet_execution.proofs.Checking.{exchange_no_step, step_is}
use Rattle.fleet_execution.proofs.state.State.is_step.Goals as goal

pub returns-clause-step : goal.returns-clause-step
returns-clause-step g c = (
  λ it_is. step_is (desk_of c.args.self.now) c.args.to.now c.mark_all.new.marks c.if-to-self.false (c.mark_all.ensures.size ∙ c.requires.sound.sized.marks) (c.mark_all.ensures.marked c.if-not-mark_all.false)
      (c.none_exchange.ensures.none it_is),
  λ step. elim (cases_Bool c.none_exchange.result) [
    | inl held ↦ held
    | inr failed ↦ (
        let found = c.none_exchange.ensures.some failed in
        absurd (exchange_no_step (desk_of c.args.self.now) c.args.to.now found.0 found.1 found.2 found.3 step))
  ],
)
