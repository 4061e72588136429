-- The word of a required argument.
use Rattle.std.proofs.Common.{◌≡◌, ap, sym, ◌∙◌, ℕ, List, Some, string_bytes}
use Rattle.std.proofs.lemmas.Result.{IfOk-weaker}
use Rattle.clap.specs.Words.{first_of, first_value, found_of, rows_of}
use Rattle.clap.specs.declared.parser.matches.Found.{Found}
use Rattle.clap.proofs.WalkLemmas.{first_value-rows}
use Rattle.command_words.proofs.values.word_for.Goals as goal

first_is : (f : Found) (name word copy : List ℕ) → Some word ≡ first_value f name → copy ≡ word → first_of name (rows_of f) ≡ Some copy
first_is f name word copy found same = sym (first_value-rows f name) ∙ (sym found ∙ ap (λ (t : List ℕ). Some t) (sym same))

pub returns-in-Some : goal.returns-in-Some
returns-in-Some c =
    IfOk-weaker c.from_str.result _ _ (λ s e. first_is (found_of c.args.matches.now) c.args.name.now c.in-Some.word.now (string_bytes s) c.in-Some.ensures e) c.from_str.ensures.ok
