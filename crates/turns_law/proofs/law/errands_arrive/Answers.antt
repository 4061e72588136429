use Rattle.turns_law.proofs.Steps.{follows_bound}
use Rattle.turns_law.proofs.law.errands_arrive.Goals as goal

pub returns : goal.returns
returns c = λ m t reach depth turn laws r from now ticks are limits known run. follows_bound m t are reach depth turn limits laws r from now ticks known run
