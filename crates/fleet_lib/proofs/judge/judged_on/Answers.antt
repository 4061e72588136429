-- The first illegal entry.
use Rattle.fleet_grid.specs.Floor.{floor_of_map}
use Rattle.fleet_map.specs.Grammar.{view}
use Rattle.fleet_history.specs.History.{history_of}
use Rattle.fleet_lib.proofs.Judged.{illegal_on}
use Rattle.fleet_lib.proofs.judge.judged_on.Goals as goal

pub returns-in-Err-Illegal : goal.returns-in-Err-Illegal
returns-in-Err-Illegal c =
    illegal_on (floor_of_map (view c.args.map)) c.in_ok-grid.grid (history_of c.args.chapter.now) c.in-Err-Illegal.field-0 c.in-Err-Illegal.at c.in-Err-Illegal.rule
    c.in_ok-grid.ensures c.in-Err-Illegal.field-0-is c.in-Err-Illegal.ensures.fault
