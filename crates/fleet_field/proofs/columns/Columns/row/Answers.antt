use Rattle.std.proofs.Common.{◌*◌, ◌/◌, ℕ, ap, ◌∙◌}
use Rattle.fleet_field.proofs.Inverse.{row_by}
use Rattle.fleet_field.proofs.columns.Columns.row.Goals as goal

pub returns : goal.returns
returns c = ap (λ (x : ℕ). x * c.args.self.inverse / 1073741824) c.from.ensures ∙ row_by c.args.self.width c.args.self.inverse c.args.cell c.args.self.exact c.requires
