-- The entries after an event's own.
use Rattle.std.proofs.Common.{◌∙◌, ap, sym, drop, arith}
use Rattle.std.proofs.lemmas.List.{drop_all}
use Rattle.fleet_text.specs.Output.{entries_made}
use Rattle.fleet_text.proofs.Transfers.{behind}
use Rattle.fleet_text.proofs.runs.entries_after.Goals as goal

pub returns-then-made-entries : goal.returns-then-made-entries
returns-then-made-entries g c = sym (drop_all (entries_made c.args.reply) c.args.entries.now (omega (arith, c.if-made-entries.true, c.made_by-made.ensures)))

pub returns : goal.returns
returns g c = behind c.args.entries.now c.made_by-made.result ∙ ap (λ k. drop k c.args.entries.now) c.made_by-made.ensures
