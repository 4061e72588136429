use Rattle.std.proofs.Common.{◌≡◌, ◌+◌, ◌*◌, ◌⊎◌, length}
use Rattle.fleet_field.specs.Growing.{Serves, IsFound, IsOver}
use Rattle.fleet_field.specs.inside.Known.{zero_count}
use Rattle.fleet_field.proofs.growing.GrowingField.reach.Given as goal

abbrev pub invariant-loop-self : goal.invariant-loop-self
invariant-loop-self g l = record {
  serves : Serves l.grid l.self;
  goal : l.self.goal ≡ l.fn.self.goal;
  done : IsFound l.grid l.self l.cell ⊎ IsOver l.self;
}

abbrev pub decreases-loop-self : goal.decreases-loop-self
decreases-loop-self g l = length l.self.later.items + 5 * zero_count l.self.labels.items
