use Rattle.std.proofs.lemmas.Result.{IfOk-from_err}
use Rattle.fleet_core.proofs.opening.means.Goals as goal

pub open-requires-2 : goal.open-requires-2
open-requires-2 g c = c.requires

pub returns-in_err-mailboxes : goal.returns-in_err-mailboxes
returns-in_err-mailboxes g c = IfOk-from_err c.from_residual.result _ c.from_residual.ensures.0

pub returns-in-Ok : goal.returns-in-Ok
returns-in-Ok g c = record { planner = c.in-Ok.ensures.planner; plain = c.in-Ok.ensures.chosen; mailboxes = c.in_ok-mailboxes.ensures }
