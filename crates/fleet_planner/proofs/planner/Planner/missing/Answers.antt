use Rattle.std.proofs.Common.{ℕ, List, sym, subst}
use Rattle.fleet_planner.specs.Aimed.{Planner}
use Rattle.fleet_planner.specs.Courses.{AreOn}
use Rattle.fleet_planner.specs.Searched.{AreMissing}
use Rattle.fleet_planner.proofs.planner.Planner.missing.Goals as goal

pub missing-requires : goal.missing-requires
missing-requires g c = subst (λ (p : Planner). AreOn c.args.grid.now p.aims) (sym c.self.view_is) c.requires

pub returns : goal.returns
returns g c =
    let m = c.args.grid.now in
    subst (λ (p : Planner). AreMissing m p.aims c.args.state.now.cells c.missing.result) c.self.view_is
    (subst (λ (cells : List ℕ). AreMissing m c.self.inside.aims cells c.missing.result) c.place.ensures.cells c.missing.ensures)
