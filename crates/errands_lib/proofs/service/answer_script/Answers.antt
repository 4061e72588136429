-- What is said of a script that is to be served on a map that was read.
use Rattle.std.proofs.Common.{refl}
use Rattle.fleet_grid.specs.Floor.{floor_of_map}
use Rattle.fleet_map.specs.Grammar.{view}
use Rattle.fleet_text.specs.Kit.{kit_laws}
use Rattle.errands_lib.proofs.Outcomes.{said_is, said_more, fails_line}
use Rattle.fleet_script.specs.Runs.{runs_plan}
use Rattle.errands_lib.specs.Outcome.{IsServedScript, IsServeOutcome, done, script_faulty}
use Rattle.errands_lib.proofs.service.answer_script.Goals as goal

pub returns-in-Ok : goal.returns-in-Ok
returns-in-Ok g c = λ text is. said_more (IsServedScript (kit_laws c.args.kit) (floor_of_map (view c.args.map)) (runs_plan c.in-Ok.script)) (IsServeOutcome (kit_laws c.args.kit) text c.args.script.now) c.serve_script.result
    (λ o p. done (view c.args.map) (runs_plan c.in-Ok.script) is c.in-Ok.ensures p) c.serve_script.ensures

pub returns : goal.returns
returns g c = λ text is. said_is (IsServeOutcome (kit_laws c.args.kit) text c.args.script.now) c.faulty.result _ c.faulty.ensures
    (script_faulty (view c.args.map) c.in-Line.line is (fails_line c.in-Err.fault c.in-Line.line _ c.in-Line.is c.in-Err.ensures) refl)
