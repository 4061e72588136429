use Rattle.fleet_pibt.specs.inside.Entry.{entry}
use Rattle.fleet_pibt.proofs.Entries.{blank-empty, entry-none}
use Rattle.fleet_pibt.proofs.table.Table.new.Goals as goal

pub returns : goal.returns
returns g c = blank-empty entry 4294967295 (entry-none 4294967295) c.args.len c.in_ok-vec.field-0.items (c.in_ok-vec.ensures.items_if_clones_equal (λ y e. e))
