use Rattle.std.proofs.Common.{◌≡◌, ◌∙◌, ◌++◌, ℕ, List, length, rules, slice_index, string_bytes, subst, sym}
use Rattle.fleet_stats.specs.Text.{cells_below, cells_head}
use Rattle.fleet_stats.proofs.Lists.{table_is}
use Rattle.fleet_stats.proofs.tables.cells_table.Goals as goal

pub returns : goal.returns
returns c =
    let counts = c.in_ok-counts.counts.items in
    let written = subst (λ (ns : List ℕ). string_bytes c.write_cells.new.out ≡ string_bytes c.push_str.new.self ++ cells_below c.args.width (slice_index ns) (length ns)) c.deref.ensures.value c.in_ok-write_cells.ensures in
    table_is cells_head (string_bytes c.push_str.new.self) (string_bytes c.write_cells.new.out) counts c.args.stood.now c.args.width c.args.cells (search rules) written c.in_ok-counts.ensures.count c.in_ok-counts.ensures.each
