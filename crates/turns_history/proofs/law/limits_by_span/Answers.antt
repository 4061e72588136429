use Rattle.turns_history.proofs.Keeping.{span-limits}
use Rattle.turns_history.proofs.law.limits_by_span.Goals as goal

pub returns : goal.returns
returns c = λ m t span n are many some far. span-limits m t span n are many some far
