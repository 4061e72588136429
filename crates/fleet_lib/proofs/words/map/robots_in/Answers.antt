-- The number that the option names.
use Rattle.std.proofs.Common.{◌∙◌, sym, codes}
use Rattle.clap.specs.Words.{found_of}
use Rattle.clap.proofs.WalkLemmas.{first_value-rows}
use Rattle.fleet_lib.proofs.words.map.robots_in.Goals as goal

pub returns-in-Ok : goal.returns-in-Ok
returns-in-Ok c = (
  c.in-Some.word.now,
  sym (first_value-rows (found_of c.args.matches.now) (codes "robots")) ∙ sym c.in-Some.ensures,
  c.in-Ok.ensures.value.0.1,
)

pub returns-in-None : goal.returns-in-None
returns-in-None c = sym (first_value-rows (found_of c.args.matches.now) (codes "robots")) ∙ sym c.in-None.ensures
