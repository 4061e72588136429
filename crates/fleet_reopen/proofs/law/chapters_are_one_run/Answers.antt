use Rattle.fleet_history.specs.Legal.{IsLegal}
use Rattle.fleet_history.proofs.Legal.{no_conflict-legal}
use Rattle.fleet_reopen.proofs.Chain.{chain-legal, chain-rings, chain-closed, chain-bound, chain-roomy, chain-serves}
use Rattle.fleet_reopen.proofs.law.chapters_are_one_run.Goals as goal

pub returns : goal.returns
returns g c = record {
  conflicts = λ m o before h chain. no_conflict-legal m h (chain-legal m (IsLegal m) o before h chain);
  rings = λ m o before h client known new chain. chain-rings m (IsLegal m) o before h client known new chain;
  closed = λ m o before h next client chain same known closed. chain-closed m (IsLegal m) o before h next client chain same known closed;
  bounded = chain-bound;
  roomy = chain-roomy;
  served = λ m t l o before h chain are begins. chain-serves m t l o are begins before h chain;
}
