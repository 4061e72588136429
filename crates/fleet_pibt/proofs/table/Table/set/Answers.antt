use Rattle.std.proofs.Common.{ℕ, Option, Some, List, map, ap, ◌∙◌}
use Rattle.std.proofs.Math.ListN.{set}
use Rattle.std.proofs.lemmas.List.{map-set}
use Rattle.fleet_pibt.specs.inside.Entry.{entry}
use Rattle.fleet_pibt.proofs.Entries.{entry-some}
use Rattle.fleet_pibt.proofs.table.Table.set.Goals as goal

pub returns : goal.returns
returns g c =
    map-set entry c.self.inside.entries.items c.args.at c.args.number
    ∙ ap (λ (o : Option ℕ). set (map entry c.self.inside.entries.items) c.args.at o) (entry-some 4294967295 c.args.number c.requires.small)
    ∙ ap (λ (xs : List (Option ℕ)). set xs c.args.at (Some c.args.number)) c.self.view_is
