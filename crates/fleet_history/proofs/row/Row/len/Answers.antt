-- The number of items in the vector.
use Rattle.std.proofs.Common.{◌∙◌, ap, length}
use Rattle.fleet_history.proofs.row.Row.len.Goals as goal

pub returns : goal.returns
returns g c = c.len.ensures ∙ c.self.inside.items.ok.0 ∙ ap length c.self.view_is
