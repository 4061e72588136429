use Rattle.std.proofs.Common.{◌≡◌, ◌<◌, ◌≤◌, length}
use Rattle.fleet_field.specs.Growing.{Serves, to_do, may_wait}
use Rattle.fleet_field.proofs.growing.GrowingField.go_round.Given as goal

abbrev pub invariant-loop-self : goal.invariant-loop-self
invariant-loop-self g l = record {
  serves : Serves l.grid l.self;
  goal : l.self.goal ≡ l.fn.self.goal;
  fewer : may_wait l.self ≤ may_wait l.fn.self;
  inside : l.wanted < length l.grid.letters;
}

abbrev pub decreases-loop-self : goal.decreases-loop-self
decreases-loop-self g l = to_do l.self
