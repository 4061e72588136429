use Rattle.std.proofs.Common.{ℕ, ◌<◌, ◌≤◌}
use Rattle.fleet_shield.specs.Wishes.{wishes, preference}
use Rattle.fleet_shield.specs.inside.Board.{IsShut}
use Rattle.fleet_shield.proofs.scene.Scene.first_open.Given as goal

abbrev pub invariant-loop-place : goal.invariant-loop-place
invariant-loop-place l = (j : ℕ) → l.start ≤ j → j < l.place → IsShut (wishes l.self.from.now l.self.preferences) l.to l.robot (preference (wishes l.self.from.now l.self.preferences) l.robot j)
