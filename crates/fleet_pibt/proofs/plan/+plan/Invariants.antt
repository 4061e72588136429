use Rattle.std.proofs.Common.{◌≡◌, ◌+◌, ◌*◌}
use Rattle.fleet_pibt.proofs.Count.{open_count}
use Rattle.fleet_pibt.proofs.Planning.{IsTrying}
use Rattle.fleet_pibt.proofs.plan.+plan.Given as goal

abbrev pub decreases-attempt : goal.decreases-attempt
decreases-attempt g l = 2 * open_count l.board.now.target

abbrev pub decreases-plan : goal.decreases-plan
decreases-plan g l = 2 * open_count l.board.now.target + 1

abbrev pub invariant-plan-loop-cell : goal.invariant-plan-loop-cell
invariant-plan-loop-cell g l = record {
  standing : l.board.seats.standing ≡ l.initial.board.seats.standing;
  trying : IsTrying (g.S.Sight.setting l.scene) l.initial.board.target l.initial.board.seats.holder l.board.target l.board.seats.holder l.robot l.cell-items l.cell-index;
}
