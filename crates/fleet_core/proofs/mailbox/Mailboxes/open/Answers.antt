use Rattle.std.proofs.Common.{◌∙◌, length, sym, refl, ap}
use Rattle.std.proofs.lemmas.List.{length-replicate}
use Rattle.std.proofs.lemmas.Result.{IfOk-from_err}
use Rattle.fleet_core.proofs.mailbox.Mailboxes.open.Goals as goal

pub returns-in_err-noticed : goal.returns-in_err-noticed
returns-in_err-noticed g c = IfOk-from_err c.from_residual.result _ c.from_residual.ensures.0

pub returns-in_err-boxes : goal.returns-in_err-boxes
returns-in_err-boxes g c = IfOk-from_err c.from_residual-in_err-boxes.result _ c.from_residual-in_err-boxes.ensures.0

pub returns : goal.returns
returns g c = rw (c.in_ok-boxes.ensures, c.in_ok-noticed.ensures.items_if_clones_equal (λ y same. same)) refl

pub invariant_of-result : goal.invariant_of-result
invariant_of-result g c = sym c.in_ok-noticed.noticed.ok.0 ∙ c.in_ok-noticed.ensures.len ∙ sym (ap length c.in_ok-boxes.ensures ∙ length-replicate c.args.count _)
