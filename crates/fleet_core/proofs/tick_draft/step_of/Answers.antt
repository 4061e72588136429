use Rattle.std.proofs.Common.{◌∙◌, ℕ, List, length, ap, sym, arith}
use Rattle.std.proofs.lemmas.Result.{IfOk-from_err}
use Rattle.fleet_history.specs.declared.history.Entry.TheVariants as entry
use Rattle.fleet_history.specs.History.{after}
use Rattle.fleet_history.specs.Legal.{due, leaving}
use Rattle.fleet_state.proofs.Parts.{cell-count, queue-count}
use Rattle.fleet_core.proofs.tick_draft.step_of.Goals as goal

pub landings-requires : goal.landings-requires
landings-requires g c =
    omega (arith, ap length c.as_slice.ensures.value, c.in_ok-to.ensures.conflict_free.same_length, cell-count c.requires.may.is, queue-count c.requires.may.is)

pub returns-in_err-to-clause-step : goal.returns-in_err-to-clause-step
returns-in_err-to-clause-step g c = IfOk-from_err c.from_residual.result _ c.from_residual.ensures.0

pub returns-in_err-arrived-clause-step : goal.returns-in_err-arrived-clause-step
returns-in_err-arrived-clause-step g c = IfOk-from_err c.from_residual-in_err-arrived.result _ c.from_residual-in_err-arrived.ensures.0

pub returns-clause-step : goal.returns-clause-step
returns-clause-step g c = record {
  conflict_free = c.in_ok-to.ensures.conflict_free;
  planned = c.in_ok-to.ensures.planned;
  arrived = λ m h is. c.in_ok-arrived.ensures.arrived m h is ∙ ap (due h) c.as_slice.ensures.value;
  leaving = λ stamped others m h is shows.
      c.in_ok-arrived.ensures.leaving stamped others m h is (shows ∙ ap (due h) (sym c.as_slice.ensures.value))
      ∙ ap (λ (to : List ℕ). leaving h (after h (entry.Tick to stamped others))) c.as_slice.ensures.value;
}

-- the planner goes by the same map

pub returns-in_err-to-clause-goals : goal.returns-in_err-to-clause-goals
returns-in_err-to-clause-goals g c = c.plan.ensures.goals

pub returns-in_err-to-clause-same : goal.returns-in_err-to-clause-same
returns-in_err-to-clause-same g c = record { turns = c.plan.ensures.turns; on = c.plan.ensures.on; size = c.plan.ensures.size; bridge = c.plan.ensures.bridge; keeps = c.plan.ensures.keeps }

pub returns-in_err-arrived-clause-goals : goal.returns-in_err-arrived-clause-goals
returns-in_err-arrived-clause-goals g c = c.plan.ensures.goals

pub returns-in_err-arrived-clause-same : goal.returns-in_err-arrived-clause-same
returns-in_err-arrived-clause-same g c = record { turns = c.plan.ensures.turns; on = c.plan.ensures.on; size = c.plan.ensures.size; bridge = c.plan.ensures.bridge; keeps = c.plan.ensures.keeps }

pub returns-clause-goals : goal.returns-clause-goals
returns-clause-goals g c = c.plan.ensures.goals

pub returns-clause-same : goal.returns-clause-same
returns-clause-same g c = record { turns = c.plan.ensures.turns; on = c.plan.ensures.on; size = c.plan.ensures.size; bridge = c.plan.ensures.bridge; keeps = c.plan.ensures.keeps }
