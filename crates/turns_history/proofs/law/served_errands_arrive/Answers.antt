use Rattle.turns_history.proofs.Arrivals.{fronts-arrive}
use Rattle.turns_history.proofs.Queued.{queues-arrive}
use Rattle.turns_history.proofs.law.served_errands_arrive.Goals as goal

pub returns : goal.returns
returns g c = record {
  fronts = λ m t l laws h are. fronts-arrive m t l laws h are;
  queues = λ m t l laws h are. queues-arrive m t l laws h are;
}
