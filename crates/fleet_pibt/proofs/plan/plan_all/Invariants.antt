use Rattle.std.proofs.Common.{◌≡◌}
use Rattle.fleet_pibt.specs.inside.Setting.{IsPlanned}
use Rattle.fleet_pibt.proofs.plan.plan_all.Given as goal

abbrev pub invariant-loop-robot : goal.invariant-loop-robot
invariant-loop-robot g l = record {
  standing : l.board.seats.standing ≡ l.initial.board.seats.standing;
  planned : IsPlanned (g.S.Sight.setting l.scene) l.initial.board.target l.initial.board.seats.holder l.board.target l.board.seats.holder l.queue l.robot-index;
}
