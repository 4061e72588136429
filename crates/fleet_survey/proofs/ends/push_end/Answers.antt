use Rattle.std.proofs.Common.{◌≡◌, List, subst, sym, true}
use Rattle.fleet_roomy.specs.Unroomy.{has}
use Rattle.fleet_survey.specs.Taken.{AreFound}
use Rattle.fleet_survey.specs.declared.ends.DeadEnd.{DeadEnd}
use Rattle.fleet_survey.proofs.DeadEnds.{end_found}
use Rattle.fleet_survey.proofs.ends.push_end.Goals as goal

pub returns-clause-found : goal.returns-clause-found
returns-clause-found c =
    let m = c.args.grid.now in
    let marks = c.args.unroomy.now.marks.items in
    let left = c.args.left.now.items in
    let after = c.take_end.new.left.items in
    let is : has left c.args.cell ≡ true = cc (c.is_left.ensures, c.if-not-is_left.false) in
    subst (λ (ends : List DeadEnd). AreFound m marks after ends) (sym c.in_ok-push.ensures.items)
    (end_found m marks left after c.args.ends.now.items c.args.cell c.in_ok-end.end c.requires is c.in_ok-end.ensures.cells c.in_ok-end.ensures.mouth)
