-- The words of an argument that may have none.
use Rattle.std.proofs.Common.{◌∙◌, ap, sym}
use Rattle.std.proofs.lemmas.Result.{IfOk-weaker}
use Rattle.clap.specs.Words.{found_of}
use Rattle.clap.proofs.WalkLemmas.{raw_values-rows}
use Rattle.command_words.specs.Values.{or_none}
use Rattle.command_words.proofs.values.some_words_for.Goals as goal

pub returns-in-Some : goal.returns-in-Some
returns-in-Some c =
    IfOk-weaker c.copies.result _ _ (λ v e. ap or_none (sym (raw_values-rows (found_of c.args.matches.now) c.args.name.now) ∙ sym c.in-Some.ensures) ∙ sym e) c.copies.ensures

pub returns-in-None : goal.returns-in-None
returns-in-None c = rw c.new.ensures.items (ap or_none (sym (raw_values-rows (found_of c.args.matches.now) c.args.name.now) ∙ sym c.in-None.ensures))
