use Rattle.std.proofs.Common.{ℕ, Option, None, List, ap, ◌∙◌}
use Rattle.std.proofs.Math.ListN.{set}
use Rattle.std.proofs.lemmas.List.{map-set}
use Rattle.fleet_pibt.specs.inside.Entry.{entry}
use Rattle.fleet_pibt.proofs.table.Table.clear.Goals as goal

pub returns : goal.returns
returns g c = map-set entry c.self.inside.entries.items c.args.at 4294967295 ∙ ap (λ (xs : List (Option ℕ)). set xs c.args.at None) c.self.view_is
