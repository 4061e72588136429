-- Words are refused, or the job that they name is done.
use Rattle.std.proofs.Common.{refl}
use Rattle.errands_lib.specs.Inputs.{done, refused}
use Rattle.errands_lib.proofs.words.run_words.Goals as goal

pub returns-in-Ok : goal.returns-in-Ok
returns-in-Ok g c = done c.in-Ok.job (record { faultless = c.in-Ok.ensures.taken; named = c.in-Ok.ensures.job }) c.run_job.ensures

pub returns-in-Err : goal.returns-in-Err
returns-in-Err g c = refused c.in-Err.fault c.in-Err.ensures.refused refl refl c.refuse_words.ensures
