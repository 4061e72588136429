use Rattle.std.proofs.Common.{◌∙◌, IfOk, ap, sym, subst}
use Rattle.fleet_planner.specs.Courses.{AreOn, AreStill}
use Rattle.fleet_planner.specs.Searched.{IsSearch}
use Rattle.fleet_planner.proofs.Merged.{still_goals}
use Rattle.fleet_turns.specs.Planning.{TurnPlanner}
use Rattle.fleet_turns.proofs.planner.TurnPlanner.search_one.Goals as goal

pub search_one-requires : goal.search_one-requires
search_one-requires g c = subst (λ (p : TurnPlanner). AreOn c.args.grid.now p.courses) (sym c.self.view_is) c.requires

pub invariant_of-self : goal.invariant_of-self
invariant_of-self g c = c.self.invariant ∙ sym (still_goals c.search_one.ensures.still)

pub returns : goal.returns
returns g c =
    let new = c.search_one.new.self in
    record {
      search = subst (λ (p : TurnPlanner). IfOk c.search_one.result (λ searched. IsSearch c.args.grid.now c.args.cells.now p.courses new searched)) c.self.view_is c.search_one.ensures.search;
      on = c.search_one.ensures.on;
      still = subst (λ (p : TurnPlanner). AreStill p.courses new) c.self.view_is c.search_one.ensures.still;
      turns = ap (λ (p : TurnPlanner). p.turns) c.self.view_is;
      stepper = ap (λ (p : TurnPlanner). p.stepper) c.self.view_is;
    }
