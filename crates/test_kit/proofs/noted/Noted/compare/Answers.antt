-- A run that came to what was wanted.
use Rattle.std.proofs.Common.{rules}
use Rattle.test_kit.proofs.noted.Noted.compare.Goals as goal

pub returns : goal.returns
returns c = search rules
