use Rattle.std.proofs.Common.{◌≡◌, ◌≤◌, length, take}
use Rattle.std.specs.Vec.{vec_len, vec_capacity}
use Rattle.fleet_field.specs.inside.Work.{AreMadeOf}
use Rattle.fleet_field.proofs.work.in_turn.Given as goal

abbrev pub invariant-loop-goal : goal.invariant-loop-goal
invariant-loop-goal g l = record {
  made : AreMadeOf (λ at one. g.F.Fn.post l.work (at, tt) one) (take l.goal-index l.goals) l.made.items;
  count : vec_len l.made ≡ l.goal-index;
  room : length l.goals ≤ vec_capacity l.made;
}
