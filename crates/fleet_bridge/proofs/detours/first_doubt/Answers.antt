use Rattle.std.proofs.Common.{MatchOption, subst}
use Rattle.fleet_grid.specs.Floor.{IsNeighbour}
use Rattle.fleet_grid.specs.Walk.{IsBridgeless}
use Rattle.fleet_bridge.specs.inside.First.{HasNoneBelow}
use Rattle.fleet_bridge.proofs.detours.first_doubt.Goals as goal

pub doubt_in-requires : goal.doubt_in-requires
doubt_in-requires g c = record { laid_out = c.places_of.ensures.laid_out }

pub returns : goal.returns
returns g c = subst (λ m. MatchOption c.doubt_in.result (IsBridgeless (IsNeighbour m)) (HasNoneBelow m)) c.places_of.ensures.grid c.doubt_in.ensures
