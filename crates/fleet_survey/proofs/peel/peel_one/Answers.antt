use Rattle.std.proofs.Common.{List, Bool, subst, sym}
use Rattle.fleet_survey.specs.Peeled.{IsPeeled, SaysAround}
use Rattle.fleet_survey.proofs.Peels.{off_nobody, off_one}
use Rattle.fleet_survey.proofs.peel.peel_one.Goals as goal

pub returns-in-Nobody : goal.returns-in-Nobody
returns-in-Nobody c =
    let m = c.args.grid.now in
    let marks = c.args.marks.now in
    subst (λ (xs : List Bool). IsPeeled m marks xs) (sym c.unmark.ensures) (off_nobody m marks c.args.cell (subst (SaysAround m marks c.args.cell) c.in-Nobody.is c.marked_around.ensures))

pub returns-in-One : goal.returns-in-One
returns-in-One c =
    let m = c.args.grid.now in
    let marks = c.args.marks.now in
    subst (λ (xs : List Bool). IsPeeled m marks xs) (sym c.unmark-in-One.ensures) (off_one m marks c.args.cell c.in-One.next (subst (SaysAround m marks c.args.cell) c.in-One.is c.marked_around.ensures))
