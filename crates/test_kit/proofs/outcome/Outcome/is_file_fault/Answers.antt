-- An outcome with no output.
use Rattle.std.proofs.Common.{arith}
use Rattle.std.proofs.lemmas.Grind.{common_steps}
use Rattle.test_kit.proofs.outcome.Outcome.is_file_fault.Goals as goal

pub returns-then-is_empty-clause-output : goal.returns-then-is_empty-clause-output
returns-then-is_empty-clause-output c = grind (arith, common_steps)
