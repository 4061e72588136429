use Rattle.std.proofs.Common.{ℕ, List, sym, subst}
use Rattle.fleet_planner.specs.Courses.{AreOn}
use Rattle.fleet_planner.specs.Searched.{AreMissing}
use Rattle.mover.specs.inside.Turning.{TurnFleet}
use Rattle.mover.proofs.turn_fleet.TurnFleet.missing.Goals as goal

pub missing-requires : goal.missing-requires
missing-requires g c = subst (λ (f : TurnFleet). AreOn c.args.grid.now f.aims) (sym c.self.view_is) c.requires

pub returns : goal.returns
returns g c =
    let m = c.args.grid.now in
    subst (λ (f : TurnFleet). AreMissing m f.aims c.args.state.now.cells c.missing.result) c.self.view_is
    (subst (λ (cells : List ℕ). AreMissing m c.self.inside.planner.courses cells c.missing.result) c.place.ensures.cells c.missing.ensures)
