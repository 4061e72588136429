-- Each was proved where the history grows.
use Rattle.fleet_history.proofs.Arrivals.{arrives-legal, arrivals_rise-legal}
use Rattle.fleet_history.proofs.Legal.{no_conflict-legal, none_closed-legal}
use Rattle.fleet_history.proofs.Once.{numbered-legal}
use Rattle.history_law.proofs.law.legal_histories_are_safe.Goals as goal

pub returns : goal.returns
returns g c = record {
  conflicts = λ m h legal. no_conflict-legal m h legal;
  arrivals = λ m h legal. arrives-legal m h legal;
  rise = λ m h legal. arrivals_rise-legal m h legal;
  closes = λ m h legal. none_closed-legal m h legal;
  numbered = λ m h client legal. numbered-legal m h client legal;
}
