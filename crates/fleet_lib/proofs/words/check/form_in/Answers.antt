-- The form that the option names.
use Rattle.std.proofs.Common.{◌≡◌, ap, sym, ◌∙◌, ℕ, List, Option, Some, None, codes}
use Rattle.clap.specs.Words.{first_of, found_of, rows_of}
use Rattle.clap.proofs.WalkLemmas.{first_value-rows}
use Rattle.fleet_lib.specs.Asked.{form_asked}
use Rattle.fleet_lib.proofs.words.check.form_in.Goals as goal

pub returns-in-Some : goal.returns-in-Some
returns-in-Some c =
    let e : first_of (codes "form") (rows_of (found_of c.args.matches.now)) ≡ Some c.in-Some.word.now = sym (first_value-rows (found_of c.args.matches.now) (codes "form")) ∙ sym c.in-Some.ensures in
    c.form_named.ensures ∙ ap (λ (o : Option (List ℕ)). form_asked o) (sym e)

pub returns-in-None : goal.returns-in-None
returns-in-None c =
    let e : first_of (codes "form") (rows_of (found_of c.args.matches.now)) ≡ None = sym (first_value-rows (found_of c.args.matches.now) (codes "form")) ∙ sym c.in-None.ensures in
    ap (λ (o : Option (List ℕ)). form_asked o) (sym e)
