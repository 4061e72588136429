use Rattle.std.proofs.Common.{sym}
use Rattle.std.proofs.lemmas.List.{get_or-map}
use Rattle.fleet_history.specs.declared.history.RobotState.{RobotState}
use Rattle.fleet_history.specs.Legal.{no_law}
use Rattle.fleet_trace.proofs.AllItems.{get_or-map_past}
use Rattle.fleet_trace.proofs.judging.stamps.arrival_law_of.Goals as goal

pub returns-then-r-robots : goal.returns-then-r-robots
returns-then-r-robots g c =
    sym (get_or-map (λ (x : RobotState _). x.arrival_law) c.args.robots.now c.args.robot c.index-robots-r.result no_law c.if-r-robots.true)

pub returns-else-r-robots : goal.returns-else-r-robots
returns-else-r-robots g c =
    sym (get_or-map_past (λ (x : RobotState _). x.arrival_law) c.args.robots.now c.args.robot no_law c.if-r-robots.false)
