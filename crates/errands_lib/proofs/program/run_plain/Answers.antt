use Rattle.std.proofs.Common.{refl}
use Rattle.errands_lib.specs.Told.{nothing, told}
use Rattle.fleet_text.specs.Said.{said}
use Rattle.errands_lib.proofs.Jobs.{for_both, for_each}
use Rattle.errands_lib.proofs.program.run_plain.Goals as goal

pub returns-in-Ok : goal.returns-in-Ok
returns-in-Ok g c = for_both _ _ _ _ (λ first second answer. told (said c.in-Ok.said) answer c.tell.ensures) c.in-Ok.ensures

pub returns-in-Err : goal.returns-in-Err
returns-in-Err g c = for_each _ _ _ (λ first second. nothing c.in-Err.fault refl c.fail.ensures)
