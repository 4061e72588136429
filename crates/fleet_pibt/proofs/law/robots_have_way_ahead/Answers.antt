use Rattle.fleet_pibt.proofs.Roomy.{open-way, one-way, roomy-way}
use Rattle.fleet_pibt.proofs.law.robots_have_way_ahead.Goals as goal

pub returns : goal.returns
returns c = record {
  open_edges = open-way;
  one = one-way;
  roomy = λ m from e goal. roomy-way m from e goal;
  bridgeless = λ m from goal cell none w n closer beyond. none cell w beyond.bridge;
}
