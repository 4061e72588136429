use Rattle.std.proofs.Common.{refl}
use Rattle.fleet_core.proofs.Refusals.{not_true}
use Rattle.fleet_core.proofs.stamps.last_word_if.Goals as goal

pub last_word-requires : goal.last_word-requires
last_word-requires g c = c.requires

pub returns-then-idle : goal.returns-then-idle
returns-then-idle g c = record {
  answers = λ e. c.last_word.ensures.answers;
  silent = λ e. absurd (not_true c.if-idle.true e);
  stamp = c.last_word.ensures.stamp;
  spent = rw c.if-idle.true c.last_word.ensures.spent;
}

pub returns-else-idle : goal.returns-else-idle
returns-else-idle g c = record {
  answers = λ e. absurd (not_true e c.if-idle.false);
  silent = λ e. refl;
  stamp = tt;
  spent = rw c.if-idle.false refl;
}
