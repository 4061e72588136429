-- The lines of a shut.
use Rattle.std.proofs.Common.{◌∙◌, ◌++◌, ap, refl, codes, decimal, string_bytes}
use Rattle.std.proofs.lemmas.List.{append_assoc}
use Rattle.std.proofs.lemmas.Result.{on_ok_weaker}
use Rattle.fleet_book.specs.declared.event.Event.TheVariants.{Shut}
use Rattle.fleet_world.specs.declared.reply.Reply.TheVariants.{ShutDone, ShutRefused}
use Rattle.fleet_text.specs.Output.{parting_text}
use Rattle.fleet_text.proofs.RunLines.{told}
use Rattle.fleet_text.proofs.runs.write_shut.Goals as goal

pub returns-in_ok-write_numbered-in-ShutDone : goal.returns-in_ok-write_numbered-in-ShutDone
returns-in_ok-write_numbered-in-ShutDone g c =
    let r = c.args.robot in
    let parting = parting_text r c.in-ShutDone.parting in
    told c.write_parting.result (Shut r) c.args.reply (ShutDone c.in-ShutDone.parting) (string_bytes c.args.out.now) (string_bytes c.write_parting.new.out) (codes "shut " ++ decimal r ++ codes "\n" ++ parting)
    c.in-ShutDone.is (λ e. refl)
    (on_ok_weaker c.write_parting.result (λ h. h ∙ (ap (λ t. t ++ parting) c.in_ok-write_numbered-in-ShutDone.ensures ∙ append_assoc (string_bytes c.args.out.now) (codes "shut " ++ decimal r ++ codes "\n") parting)) c.write_parting.ensures)

pub returns-in-ShutRefused : goal.returns-in-ShutRefused
returns-in-ShutRefused g c =
    told c.write_shut_refused.result (Shut c.args.robot) c.args.reply (ShutRefused c.in-ShutRefused.fault) (string_bytes c.args.out.now) (string_bytes c.write_shut_refused.new.out) _
    c.in-ShutRefused.is (λ e. refl) c.write_shut_refused.ensures
