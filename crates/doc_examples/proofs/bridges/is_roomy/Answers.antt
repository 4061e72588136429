use Rattle.std.proofs.Common.{◌≡◌, ◌<◌, length, get_or, refl, arith}
use Rattle.std.proofs.lemmas.Bool.{leb-true, le-leb}
use Rattle.std.proofs.lemmas.List.{get_or_read_under}
use Rattle.fleet_grid.proofs.Forms.{floor_inside}
use Rattle.doc_examples.proofs.bridges.is_roomy.Goals as goal

pub returns : goal.returns
returns c =
    let inside : c.args.cell < length c.in_ok-most.most.items = omega (arith, floor_inside c.args.grid.now c.args.cell c.requires, c.in_ok-most.ensures.size, c.in_ok-most.most.ok.0) in
    let read : c.index.result.now ≡ get_or c.in_ok-most.most.items c.args.cell 0 = get_or_read_under _ _ _ _ 0 c.index.ensures inside refl in
    let exact = c.in_ok-most.ensures.exact c.args.cell c.args.robots c.requires c.ranges.robots.fits in
    (λ yes. exact.0 (omega (arith, leb-true c.args.robots c.index.result.now yes, read)), λ roomy. le-leb c.args.robots c.index.result.now (omega (arith, exact.1 roomy, read)))
