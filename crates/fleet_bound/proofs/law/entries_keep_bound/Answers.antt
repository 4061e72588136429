use Rattle.fleet_bound.proofs.BoundLaws.{bound-take, bound-tick, bound-shut, bound-next}
use Rattle.fleet_bound.proofs.law.entries_keep_bound.Goals as goal

pub returns : goal.returns
returns g c = record {
  take = λ m h client order verdict legal. bound-take m h legal client order verdict;
  tick = λ m h to arrived farewells legal. bound-tick m h legal to arrived farewells;
  shut = λ m h robot farewell legal. bound-shut m h legal robot farewell;
  next = bound-next;
}
