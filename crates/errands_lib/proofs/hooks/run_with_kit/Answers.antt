-- What is left where there was no memory for the hooks.
use Rattle.std.proofs.Common.{ap, subst}
use Rattle.fleet_text.specs.declared.input.InputFault.TheVariants as input_fault
use Rattle.errands_lib.specs.Told.{Failed, nothing}
use Rattle.errands_lib.proofs.Jobs.{for_each}
use Rattle.errands_lib.proofs.hooks.run_with_kit.Goals as goal

pub returns-in-Err : goal.returns-in-Err
returns-in-Err g c =
    let unwritten = ap g.W.Write.contents c.in-Err.ensures.output in
    let failed = subst (λ e. Failed input_fault.NoMemory (g.E.Write.contents e) (g.E.Write.contents c.fail.new.error) c.fail.result) c.in-Err.ensures.error c.fail.ensures in
    for_each _ _ _ (λ first second. nothing input_fault.NoMemory unwritten failed)
