use Rattle.turns_history.proofs.Views.{fleet-legal}
use Rattle.turns_history.proofs.Ticking.{tick-in-turns}
use Rattle.turns_history.proofs.Pausing.{take-in-turns, shut-in-turns, next-in-turns}
use Rattle.turns_history.proofs.law.histories_are_fleets.Goals as goal

pub returns : goal.returns
returns g c = record {
  fleet = λ m h legal early. fleet-legal m h legal early;
  tick = λ m t laws h to arrived farewells legal fits planned. tick-in-turns m h to arrived farewells legal fits t laws planned;
  take = λ m h client order verdict legal fits. take-in-turns m h legal client order verdict fits.1;
  shut = λ m h robot farewell legal fits. shut-in-turns h robot farewell;
  next = λ m h legal. next-in-turns m h legal;
}
