use Rattle.std.proofs.Common.{◌≡◌, drop, map}
use Rattle.fleet_explain.specs.Only.{first_only}
use Rattle.fleet_explain.specs.Details.{same_robot}
use Rattle.fleet_explain.proofs.farewell.find_only.Given as goal

abbrev pub invariant-loop-bye : goal.invariant-loop-bye
invariant-loop-bye l = first_only same_robot (map (λ b. b.robot) (drop l.bye-index l.byes)) (map (λ b. b.robot) l.others) ≡ first_only same_robot (map (λ b. b.robot) l.byes) (map (λ b. b.robot) l.others)
