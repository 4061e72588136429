-- Endings whose replies are the same.
use Rattle.std.proofs.Common.{rules}
use Rattle.test_kit.proofs.ending.Ending.is_like.Goals as goal

pub returns-then-eq : goal.returns-then-eq
returns-then-eq c = search rules
