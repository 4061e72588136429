-- How traces are shown, by the flag and the option.
use Rattle.std.proofs.Common.{◌∙◌, sym, codes}
use Rattle.clap.specs.Words.{found_of}
use Rattle.clap.proofs.WalkLemmas.{first_value-rows}
use Rattle.fleet_lib.proofs.words.view.shown_in.Goals as goal

pub returns-in-Ok : goal.returns-in-Ok
returns-in-Ok c = (
  c.in-Some.word.now,
  sym (first_value-rows (found_of c.args.matches.now) (codes "tick")) ∙ sym c.in-Some.ensures,
  c.in-Ok.ensures.value.0.1,
)

pub returns-then-has_flag : goal.returns-then-has_flag
returns-then-has_flag c = (sym (first_value-rows (found_of c.args.matches.now) (codes "tick")) ∙ sym c.in-None.ensures, sym c.has_flag.ensures ∙ c.if-has_flag.true)

pub returns-else-has_flag : goal.returns-else-has_flag
returns-else-has_flag c = (sym (first_value-rows (found_of c.args.matches.now) (codes "tick")) ∙ sym c.in-None.ensures, sym c.has_flag.ensures ∙ c.if-has_flag.false)
