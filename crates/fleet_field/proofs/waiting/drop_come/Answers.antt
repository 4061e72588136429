use Rattle.std.proofs.Common.{◌<◌, length, sym, arith}
use Rattle.fleet_field.proofs.waiting.drop_come.Goals as goal

pub bounds-labels-index : goal.bounds-labels-index
bounds-labels-index g c =
    let here : c.loop-at.at < length c.loop-at.cells.items = omega (arith, c.loop-at-test.true, c.len.ensures, c.loop-at.cells.ok.0) in
    c.requires.inside c.index.result.now (c.loop-at.invariant.only c.index.result.now (c.loop-at.at, here, sym c.index.ensures))
