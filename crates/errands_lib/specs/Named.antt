-- Which words name which job. The first word is the program's own name.
use Rattle.std.specs.Prelude.{◌≡◌, List, [], Some, true}
use Rattle.clap.specs.Words.{Text, fault_of, subcommand_of, takes}
use Rattle.errands_lib.specs.declared.job.Job.{Job}
use Rattle.errands_lib.specs.Asked.{asked, job_of}
use Rattle.errands_lib.specs.Command.{errands_app}

-- `clap` takes the words
abbrev pub AreTaken : List Text → Type 0
AreTaken words = takes errands_app words ≡ true

-- `clap` finds no fault in the words, and they name this job
pub record Names (words : List Text) (job : Job) : Type 0 where
  pub faultless : fault_of errands_app words ≡ []
  pub named : job_of (subcommand_of errands_app words) ≡ Some (asked job)
