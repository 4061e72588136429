use Rattle.std.proofs.Common.{sym, subst}
use Rattle.fleet_planner.specs.Courses.{AreOn}
use Rattle.mover.specs.Moving.{Mover}
use Rattle.mover.proofs.Seen.{seen-plain, seen-turns}
use Rattle.mover.proofs.mover.Mover.missing.Goals as goal

pub missing-requires : goal.missing-requires
missing-requires g c =
    let v = seen-plain c.self.inside.kind c.in-Plain.planner c.args.self.now c.in-Plain.is c.self.view_is in
    subst (λ (q : Mover). AreOn c.args.grid.now q.planner.aims) (sym v) c.requires

pub missing-requires-in-Turns : goal.missing-requires-in-Turns
missing-requires-in-Turns g c =
    let v = seen-turns c.self.inside.kind c.in-Turns.fleet c.args.self.now c.in-Turns.is c.self.view_is in
    subst (λ (q : Mover). AreOn c.args.grid.now q.planner.aims) (sym v) c.requires
