use Rattle.std.proofs.Common.{◌⊎◌, vec_len}
use Rattle.std.specs.List.{Contains}
use Rattle.slab.specs.Slab.{HasRoomFor}
use Rattle.fleet_field.specs.Field.{Aim}
use Rattle.fleet_field.specs.inside.Uses.{HasGoal, IsFilled}
use Rattle.fleet_field.proofs.holds.put_all.Given as goal

abbrev pub invariant-loop-field : goal.invariant-loop-field
invariant-loop-field g l = record {
  filled : IsFilled l.fn.fields.items l.fn.held.slots l.held.slots;
  room : HasRoomFor l.held (vec_len l.fields);
  there : (field : Aim) → Contains l.fn.fields.items field → HasGoal l.held.slots field.goal ⊎ Contains l.fields.items field;
  within : (field : Aim) → Contains l.fields.items field → Contains l.fn.fields.items field;
}

abbrev pub decreases-loop-field : goal.decreases-loop-field
decreases-loop-field g l = vec_len l.fields
