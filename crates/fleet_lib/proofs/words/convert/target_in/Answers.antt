-- The target that the option names.
use Rattle.std.proofs.Common.{◌≡◌, ap, sym, ◌∙◌, ℕ, List, Option, Some, None, codes, option_and_then}
use Rattle.clap.specs.Words.{first_of, found_of, rows_of}
use Rattle.clap.proofs.WalkLemmas.{first_value-rows}
use Rattle.fleet_lib.specs.Asked.{target_named}
use Rattle.fleet_lib.proofs.words.convert.target_in.Goals as goal

pub returns-in-Some : goal.returns-in-Some
returns-in-Some c =
    let e : first_of (codes "to") (rows_of (found_of c.args.matches.now)) ≡ Some c.in-Some.word.now = sym (first_value-rows (found_of c.args.matches.now) (codes "to")) ∙ sym c.in-Some.ensures in
    c.target_named.ensures ∙ ap (λ (o : Option (List ℕ)). option_and_then target_named o) (sym e)

pub returns-in-None : goal.returns-in-None
returns-in-None c =
    let e : first_of (codes "to") (rows_of (found_of c.args.matches.now)) ≡ None = sym (first_value-rows (found_of c.args.matches.now) (codes "to")) ∙ sym c.in-None.ensures in
    ap (λ (o : Option (List ℕ)). option_and_then target_named o) (sym e)
