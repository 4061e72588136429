use Rattle.std.proofs.Common.{◌≡◌, ap, sym, ◌∙◌, ℕ, List, Option, Some, None, false, codes}
use Rattle.std.specs.Option.{option_map_or}
use Rattle.std.specs.Str.{bytes_eq}
use Rattle.clap.specs.Words.{first_of, found_of, rows_of}
use Rattle.clap.proofs.WalkLemmas.{first_value-rows}
use Rattle.command_words.proofs.values.has_flag.Goals as goal

pub returns-in-Some : goal.returns-in-Some
returns-in-Some c =
    let e : first_of c.args.name.now (rows_of (found_of c.args.matches.now)) ≡ Some c.in-Some.word.now = sym (first_value-rows (found_of c.args.matches.now) c.args.name.now) ∙ sym c.in-Some.ensures in
    c.eq.ensures ∙ ap (λ (o : Option (List ℕ)). option_map_or (λ w. bytes_eq w (codes "true")) o false) (sym e)

pub returns-in-None : goal.returns-in-None
returns-in-None c =
    let e : first_of c.args.name.now (rows_of (found_of c.args.matches.now)) ≡ None = sym (first_value-rows (found_of c.args.matches.now) c.args.name.now) ∙ sym c.in-None.ensures in
    ap (λ (o : Option (List ℕ)). option_map_or (λ w. bytes_eq w (codes "true")) o false) (sym e)
