use Rattle.std.proofs.Common.{◌≡◌, ap, ◌∙◌, arith}
use Rattle.std.specs.Int.{from_bool}
use Rattle.fleet_grid.specs.Counts.{has_east, has_south}
use Rattle.fleet_grid.proofs.CountLemmas.{count_more, bool_few}
use Rattle.fleet_grid.proofs.counts.edge_count_of.Goals as goal

pub loop-cell-preserved : goal.loop-cell-preserved
loop-cell-preserved g c =
    let m = c.args.cells.now in
    let n = c.loop-cell.cell in
    let e : c.from-east.result ≡ from_bool (has_east m n) = c.from-east.ensures ∙ ap from_bool c.leads_east.ensures in
    let s : c.from-south.result ≡ from_bool (has_south m n) = c.from-south.ensures ∙ ap from_bool c.leads_south.ensures in
    let i = c.loop-cell.invariant in
    record {
      east = omega (arith, i.east, e, count_more (has_east m) n);
      south = omega (arith, i.south, s, count_more (has_south m) n);
      few_east = omega (arith, i.few_east, e, bool_few (has_east m n));
      few_south = omega (arith, i.few_south, s, bool_few (has_south m n));
    }
