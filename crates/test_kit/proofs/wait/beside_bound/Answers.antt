-- A wait below the bound.
use Rattle.std.proofs.Common.{rules}
use Rattle.test_kit.proofs.wait.beside_bound.Goals as goal

pub returns-then-wait-bound : goal.returns-then-wait-bound
returns-then-wait-bound c = search rules
