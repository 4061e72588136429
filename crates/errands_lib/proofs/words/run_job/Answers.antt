-- A job is done on what it names, or ended by what could not be opened.
use Rattle.std.proofs.Common.{refl, sym}
use Rattle.errands_lib.specs.Inputs.{on_input, on_file, no_file, on_both, not_both}
use Rattle.errands_lib.proofs.words.run_job.Goals as goal

pub returns-in-None : goal.returns-in-None
returns-in-None g c = on_input c.input.result (sym c.in-None.ensures) c.input.ensures c.run_on.ensures

pub returns-in-Ok : goal.returns-in-Ok
returns-in-Ok g c = on_file c.in-One.name.now c.in-Ok.file (sym c.in-One.ensures) c.in-Ok.ensures c.run_on-in-Ok.ensures

pub returns-in-Err : goal.returns-in-Err
returns-in-Err g c = no_file c.in-One.name.now c.in-Err.fault (sym c.in-One.ensures) c.in-Err.ensures refl c.fail.ensures

pub returns-in-Ok-open_both : goal.returns-in-Ok-open_both
returns-in-Ok-open_both g c =
    on_both c.in-Two.first.now c.in-Two.second.now (c.in-Ok-open_both.first, c.in-Ok-open_both.second) (sym c.in-Two.ensures) c.in-Ok-open_both.ensures
    c.run_on-in-Ok-open_both.ensures

pub returns-in-Err-open_both : goal.returns-in-Err-open_both
returns-in-Err-open_both g c =
    not_both c.in-Two.first.now c.in-Two.second.now c.in-Err-open_both.fault (sym c.in-Two.ensures) c.in-Err-open_both.ensures refl c.fail-in-Err-open_both.ensures
