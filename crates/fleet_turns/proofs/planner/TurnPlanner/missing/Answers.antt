use Rattle.std.proofs.Common.{sym, subst}
use Rattle.fleet_planner.specs.Courses.{AreOn}
use Rattle.fleet_planner.specs.Searched.{AreMissing}
use Rattle.fleet_turns.specs.Planning.{TurnPlanner}
use Rattle.fleet_turns.proofs.planner.TurnPlanner.missing.Goals as goal

pub missing-requires : goal.missing-requires
missing-requires g c = subst (λ (p : TurnPlanner). AreOn c.args.grid.now p.courses) (sym c.self.view_is) c.requires

pub returns : goal.returns
returns g c = subst (λ (p : TurnPlanner). AreMissing c.args.grid.now p.courses c.args.cells.now c.missing.result) c.self.view_is c.missing.ensures
