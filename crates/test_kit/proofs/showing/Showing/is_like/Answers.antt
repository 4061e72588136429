-- Showings whose answers are the same.
use Rattle.std.proofs.Common.{rules}
use Rattle.test_kit.proofs.showing.Showing.is_like.Goals as goal

pub returns-then-eq : goal.returns-then-eq
returns-then-eq c = search rules
