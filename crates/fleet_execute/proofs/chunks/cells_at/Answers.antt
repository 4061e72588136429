-- A placement lies within the list.
use Rattle.std.proofs.Common.{◌<◌, ◌≤◌, ◌+◌, ◌*◌, ◌/◌, length, arith, rules}
use Rattle.fleet_execute.proofs.Lengths.{one_fits, chunk_fits}
use Rattle.fleet_execute.proofs.chunks.cells_at.Goals as goal

pub overflow_mul-start : goal.overflow_mul-start
overflow_mul-start c =
    let less : c.args.time < length c.args.cells.now / c.args.robots = omega (arith, one_fits (length c.args.cells.now) c.args.robots c.requires.some c.requires.whole, c.requires.inside) in
    omega (arith, chunk_fits (length c.args.cells.now) c.args.robots c.args.time c.requires.some less)

pub slice_bounds-result-end : goal.slice_bounds-result-end
slice_bounds-result-end c =
    let less : c.args.time < length c.args.cells.now / c.args.robots = omega (arith, one_fits (length c.args.cells.now) c.args.robots c.requires.some c.requires.whole, c.requires.inside) in
    let fits : c.args.time * c.args.robots + c.args.robots ≤ length c.args.cells.now = chunk_fits (length c.args.cells.now) c.args.robots c.args.time c.requires.some less in
    search (rules, fits)
