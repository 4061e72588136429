use Rattle.std.proofs.Common.{◌≡◌, take}
use Rattle.std.specs.Vec.{vec_capacity}
use Rattle.fleet_field.specs.inside.Uses.{IsUsed}
use Rattle.fleet_field.proofs.Uses.{AreShownTo}
use Rattle.fleet_field.proofs.holds.use_all.Given as goal

abbrev pub invariant-loop-goal : goal.invariant-loop-goal
invariant-loop-goal g l = record {
  used : IsUsed (take l.goal-index l.goals) l.fn.held.slots l.held.slots;
  keys : AreShownTo l.goals l.goal-index l.held.slots l.keys.items;
  room : vec_capacity l.keys ≡ vec_capacity l.fn.keys;
}
