use Rattle.std.proofs.Common.{◌∙◌, ◌<◌, length, arith}
use Rattle.std.proofs.lemmas.List.{get_or_default}
use Rattle.fleet_survey.proofs.Taken.{all_taken, first_taken, more_taken}
use Rattle.fleet_survey.proofs.ends.take_all.Goals as goal

pub loop-place-init : goal.loop-place-init
loop-place-init c = first_taken c.args.grid.now c.args.first c.args.left.now.items c.take.new.left.items c.new-cells.result.items c.take.new.cells.items c.new-cells.ensures.items c.in_ok-take.ensures

pub loop-place-preserved : goal.loop-place-preserved
loop-place-preserved c =
    let inside : c.loop-place.place < length c.loop-place.cells.items = omega (arith, c.loop-place-test.true, c.len.ensures, c.loop-place.cells.ok.0) in
    more_taken c.args.grid.now c.args.first c.index-cell.result.now c.args.left.now.items c.loop-place.left.items c.take_around.new.left.items c.loop-place.cells.items c.take_around.new.cells.items c.loop-place.place c.loop-place.invariant
    inside (c.index-cell.ensures ∙ get_or_default c.loop-place.cells.items c.loop-place.place c.index-cell.result.now 0 inside) c.in_ok-take_around.ensures

pub returns : goal.returns
returns c = all_taken c.args.grid.now c.args.first c.args.left.now.items c.loop-place.left.items c.loop-place.cells.items c.loop-place.place c.loop-place.invariant (omega (arith, c.loop-place-test.false, c.len.ensures, c.loop-place.cells.ok.0))
