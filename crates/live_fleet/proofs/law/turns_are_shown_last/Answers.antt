-- The notices of a turn are told before it is shown.
use Rattle.live_fleet.proofs.Shown.{turn-shown}
use Rattle.live_fleet.proofs.law.turns_are_shown_last.Goals as goal

pub returns : goal.returns
returns c = λ s t acts turns. turn-shown s acts t turns
