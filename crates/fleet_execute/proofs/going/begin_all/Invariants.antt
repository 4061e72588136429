use Rattle.std.proofs.Common.{◌≡◌, List, ◌++◌, string_bytes}
use Rattle.fleet_execution.specs.declared.motion.Move.{Move}
use Rattle.fleet_execution.specs.Course.{Course}
use Rattle.fleet_execution.specs.Executes.{Executes}
use Rattle.fleet_execution.specs.Kept.{desk}
use Rattle.fleet_execution.specs.Desk.{steps_left}
use Rattle.fleet_execute.specs.Goes.{HasGone, moves_text}
use Rattle.fleet_execute.proofs.going.begin_all.Given as goal

abbrev pub invariant-loop-begun : goal.invariant-loop-begun
invariant-loop-begun l = (o : Course) → Executes (desk l.fn.run) o → (ms : List Move) × HasGone l.plan o ms (desk l.run) × (string_bytes l.told ≡ string_bytes l.fn.told ++ moves_text ms)

abbrev pub decreases-loop-begun : goal.decreases-loop-begun
decreases-loop-begun l = steps_left (desk l.run)
