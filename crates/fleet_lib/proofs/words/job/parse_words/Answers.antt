-- Words that `clap` takes name a job, and only these.
use Rattle.std.proofs.Common.{◌≡◌, ◌∙◌, [], List, Option, true, ap, map, subst, sym, string_bytes}
use Rattle.clap.specs.Words.{App, Row, Text, fault_of, is_simple, subcommand_of, takes}
use Rattle.clap.specs.Faults.{is_simple_and_free}
use Rattle.fleet_lib.specs.Asked.{IsJobOf}
use Rattle.fleet_lib.proofs.words.job.parse_words.Goals as goal

pub returns-in_ok-job_from-in-Ok-clause-taken : goal.returns-in_ok-job_from-in-Ok-clause-taken
returns-in_ok-job_from-in-Ok-clause-taken c =
    let words = map (λ w. string_bytes w) c.args.words.now in
    subst (λ (a : App). fault_of a words ≡ []) c.program.ensures (c.in-Ok.ensures.taken (ap is_simple_and_free c.program.ensures))

pub returns-in_ok-job_from-in-Ok-clause-job : goal.returns-in_ok-job_from-in-Ok-clause-job
returns-in_ok-job_from-in-Ok-clause-job c =
    let words = map (λ w. string_bytes w) c.args.words.now in
    let met = c.in-Ok.ensures.word (ap is_simple c.program.ensures) ∙ ap (λ (a : App). subcommand_of a words) c.program.ensures in
    subst (λ (found : Option (Text × List Row)). IsJobOf found c.in_ok-job_from-in-Ok.field-0) met c.in_ok-job_from-in-Ok.ensures

pub returns-in-Err-clause-taken : goal.returns-in-Err-clause-taken
returns-in-Err-clause-taken c = tt

pub returns-in-Err-clause-job : goal.returns-in-Err-clause-job
returns-in-Err-clause-job c = tt

pub returns-in-Err-clause-refused : goal.returns-in-Err-clause-refused
returns-in-Err-clause-refused c = λ e.
    let words = map (λ w. string_bytes w) c.args.words.now in
    c.in-Err.ensures.refused (subst (λ (a : App). takes a words ≡ true) (sym c.program.ensures) e)
