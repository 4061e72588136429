use Rattle.turns_law.proofs.Steps.{keeps_below}
use Rattle.turns_law.proofs.law.waits_are_bounded.Goals as goal

pub returns : goal.returns
returns c = λ m t reach depth turn f r w are limits fleet keeps known served. keeps_below m t are reach depth turn limits f fleet keeps r w known served
