-- The words of an argument that may have several.
use Rattle.std.proofs.Common.{◌∙◌, ap, sym, List, ℕ, Some}
use Rattle.std.proofs.lemmas.Result.{IfOk-weaker}
use Rattle.clap.specs.Words.{found_of}
use Rattle.clap.proofs.WalkLemmas.{raw_values-rows}
use Rattle.command_words.proofs.values.words_for.Goals as goal

pub returns-in-Some : goal.returns-in-Some
returns-in-Some c =
    IfOk-weaker c.copies.result _ _ (λ v e. sym (raw_values-rows (found_of c.args.matches.now) c.args.name.now) ∙ (sym c.in-Some.ensures ∙ ap (λ (ws : List (List ℕ)). Some ws) (sym e))) c.copies.ensures
