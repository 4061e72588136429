-- The clients of a conversation are told all before its end is said.
use Rattle.live_fleet.proofs.Quiet.{end-last}
use Rattle.live_fleet.proofs.law.ends_are_told_last.Goals as goal

pub returns : goal.returns
returns c = λ s t k sp acts at ending goes ended client above below. end-last s t k sp acts at ending goes ended client above below
