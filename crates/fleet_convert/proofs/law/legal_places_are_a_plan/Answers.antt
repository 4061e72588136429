use Rattle.fleet_convert.proofs.Legal.{valid_places}
use Rattle.fleet_convert.proofs.law.legal_places_are_a_plan.Goals as goal

pub returns : goal.returns
returns c = λ m h legal. valid_places m h legal
