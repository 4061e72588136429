use Rattle.fleet_convert.proofs.Traced.{places_are}
use Rattle.fleet_convert.proofs.law.plan_traces_have_places.Goals as goal

pub returns : goal.returns
returns c = λ place places. places_are place places
