-- How figures are printed, by the flag and the option.
use Rattle.std.proofs.Common.{◌≡◌, ap, sym, ◌∙◌, ℕ, List, Option, Some, None, Bool, true, false, codes, refl}
use Rattle.clap.specs.Words.{first_of, found_of, rows_of}
use Rattle.clap.proofs.WalkLemmas.{first_value-rows}
use Rattle.command_words.specs.Values.{has_flag}
use Rattle.fleet_lib.specs.declared.words.stats.Figures.{Figures}
use Rattle.fleet_lib.specs.Asked.{figures_by}
use Rattle.fleet_lib.proofs.words.stats.figures_in.Goals as goal

by-both : (json b : Bool) (word given : Option (List ℕ)) (found : Option Figures) → json ≡ b → word ≡ given → found ≡ figures_by b given → found ≡ figures_by json word
by-both json b word given found flag option is = rw (flag, option) is

pub returns-then-json : goal.returns-then-json
returns-then-json c =
    let e : first_of (codes "csv") (rows_of (found_of c.args.matches.now)) ≡ Some c.in-Some.word.now = sym (first_value-rows (found_of c.args.matches.now) (codes "csv")) ∙ sym c.in-Some.ensures in
    by-both _ true _ (Some c.in-Some.word.now) _ (sym c.has_flag-json.ensures ∙ c.if-json.true) e refl

pub returns-else-json : goal.returns-else-json
returns-else-json c =
    let e : first_of (codes "csv") (rows_of (found_of c.args.matches.now)) ≡ Some c.in-Some.word.now = sym (first_value-rows (found_of c.args.matches.now) (codes "csv")) ∙ sym c.in-Some.ensures in
    by-both _ false _ (Some c.in-Some.word.now) _ (sym c.has_flag-json.ensures ∙ c.if-json.false) e c.table_named.ensures

pub returns-in-None : goal.returns-in-None
returns-in-None c =
    let e : first_of (codes "csv") (rows_of (found_of c.args.matches.now)) ≡ None = sym (first_value-rows (found_of c.args.matches.now) (codes "csv")) ∙ sym c.in-None.ensures in
    by-both _ c.has_flag-json.result _ None _ (sym c.has_flag-json.ensures) e (ap (λ (f : Figures). Some f) c.without_table.ensures)
