use Rattle.std.proofs.Common.{◌∙◌, List, ℕ, length, refl, ap, subst, arith}
use Rattle.std.proofs.lemmas.Result.{IfOk-from_err}
use Rattle.fleet_state.proofs.Parts.{cell-count, queue-count}
use Rattle.fleet_grid.specs.Floor.{Floor}
use Rattle.mover.specs.Moving.{Mover}
use Rattle.fleet_core.proofs.Manners.{turns-as}
use Rattle.fleet_planner.proofs.GoalsKept.{aimed-still}
use Rattle.fleet_core.specs.inside.Ready.{IsReady, IsOnSame}
use Rattle.fleet_core.proofs.Refusals.{all_err}
use Rattle.fleet_core.proofs.tick_draft.ready.Goals as goal

pub step_of-requires : goal.step_of-requires
step_of-requires g c = c.requires

pub make_ready-requires : goal.make_ready-requires
make_ready-requires g c =
    let may = c.requires.may in
    let same = c.step_of.ensures.same in
    record {
      may = record { history = may.history; is = may.is; aimed = aimed-still may.is may.aimed c.step_of.ensures.goals same.on same.size same.bridge same.keeps };
      turns = turns-as c.args.grid.now _ c.args.planner.now.turns c.step_of.new.planner.turns same.turns c.requires.turns;
      same = omega (arith, ap (λ (to : List ℕ). length to) c.deref.ensures.value, c.in_ok-step.ensures.step.conflict_free.same_length, cell-count may.is, queue-count may.is);
    }

-- what stands after both calls
both : (m : Floor) (p q r : Mover) → IsOnSame m p q → IsOnSame m q r → IsOnSame m p r
both m p q r a b = record { turns = b.turns ∙ a.turns; on = b.on; size = b.size ∙ a.size; bridge = b.bridge ∙ a.bridge; keeps = b.keeps }

pub returns-in_err-step : goal.returns-in_err-step
returns-in_err-step g c = record {
  items = refl;
  step = IfOk-from_err c.from_residual.result _ c.from_residual.ensures.0;
  ready = IfOk-from_err c.from_residual.result _ c.from_residual.ensures.0;
  same = c.step_of.ensures.same;
  refused = all_err c.from_residual.result c.step_of.ensures.goals;
}

pub returns-in_err-make_ready : goal.returns-in_err-make_ready
returns-in_err-make_ready g c = record {
  items = c.make_ready.ensures.items;
  step = IfOk-from_err c.from_residual-in_err-make_ready.result _ c.from_residual-in_err-make_ready.ensures.0;
  ready = IfOk-from_err c.from_residual-in_err-make_ready.result _ c.from_residual-in_err-make_ready.ensures.0;
  same = both c.args.grid.now c.args.planner.now c.step_of.new.planner c.make_ready.new.planner c.step_of.ensures.same c.make_ready.ensures.same;
  refused = all_err c.from_residual-in_err-make_ready.result (c.in_err-make_ready.ensures.refused ∙ c.step_of.ensures.goals);
}

pub returns : goal.returns
returns g c = record {
  items = c.make_ready.ensures.items;
  step = c.in_ok-step.ensures.step;
  ready = subst (λ (to : List ℕ). IsReady c.args.state.now to c.make_ready.new.planner c.make_ready.new.entries) c.deref.ensures.value c.in_ok-make_ready.ensures.ready;
  same = both c.args.grid.now c.args.planner.now c.step_of.new.planner c.make_ready.new.planner c.step_of.ensures.same c.make_ready.ensures.same;
  refused = tt;
}
