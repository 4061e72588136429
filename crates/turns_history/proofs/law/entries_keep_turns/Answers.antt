use Rattle.turns_history.proofs.Keeping.{begins-in-turns, entry-keeps, next-keeps}
use Rattle.turns_history.proofs.law.entries_keep_turns.Goals as goal

pub returns : goal.returns
returns g c = record {
  begins = λ m t l o are order early none. begins-in-turns m t l o are order early none;
  entry = λ m t l laws h e are legal fits early planned keeps. entry-keeps m t l laws h are legal e fits early planned keeps;
  next = λ m t l h legal keeps. next-keeps m t l h legal keeps;
}
