use Rattle.fleet_pibt.proofs.Doors.{passage-elsewhere, empty-beyond, many-beyond, open-edge, one-with}
use Rattle.fleet_pibt.proofs.Exact.{full-shut-with}
use Rattle.fleet_pibt.proofs.law.robots_have_way_with_door.Goals as goal

pub returns : goal.returns
returns c = record {
  elsewhere = passage-elsewhere;
  empty = empty-beyond;
  roomy = λ m door from e w. many-beyond m door from e w;
  open_edge = open-edge;
  one = one-with;
  shut = λ m door from to step passes e w. full-shut-with m door from to step passes e w;
}
