-- The entry and the rule that both ways name.
use Rattle.std.proofs.Common.{rules}
use Rattle.test_kit.proofs.answer.Answer.of_both.Goals as goal

pub returns-in-Some-Some-clause-broken : goal.returns-in-Some-Some-clause-broken
returns-in-Some-Some-clause-broken c = search rules
