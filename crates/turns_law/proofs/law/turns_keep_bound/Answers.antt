use Rattle.turns_law.proofs.Steps.{keeps_tick, keeps_pause, keeps_begun}
use Rattle.turns_law.proofs.law.turns_keep_bound.Goals as goal

pub returns : goal.returns
returns c = record {
  tick = λ m t reach depth turn laws old new are limits fleet fleet' tick keeps. keeps_tick m t are reach depth turn limits laws old new fleet fleet' tick keeps;
  pause = λ m t reach depth turn old new are limits fleet fleet' pause keeps. keeps_pause m t are reach depth turn limits old new fleet fleet' pause keeps;
  begins = λ m t reach depth turn f are limits fleet none. keeps_begun m t are reach depth turn limits f fleet none;
}
