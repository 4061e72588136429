use Rattle.turns_history.proofs.Keeping.{kept-in-turns, bounded-in-turns, chapters-in-turns}
use Rattle.turns_history.proofs.law.served_waits_are_bounded.Goals as goal

pub returns : goal.returns
returns g c = record {
  kept = λ m t l laws h are so begins. kept-in-turns m t l laws h are so begins;
  bounded = λ m t l laws h before behind are so begins q. bounded-in-turns m t l laws h before behind are so begins q;
  chapters = λ m t l laws chapters last are chain begins. chapters-in-turns m t l laws chapters last chain are begins;
}
