-- What is said of a script on a map that was read.
use Rattle.std.proofs.Common.{refl}
use Rattle.fleet_grid.specs.Floor.{floor_of_map}
use Rattle.fleet_map.specs.Grammar.{view}
use Rattle.errands_lib.specs.Answer.{IsScriptOutcome, IsPartsOutcome, done, script_faulty}
use Rattle.fleet_text.specs.Kit.{kit_laws}
use Rattle.fleet_script.specs.Runs.{runs_plan}
use Rattle.errands_lib.proofs.Outcomes.{said_is, said_more, fails_line}
use Rattle.errands_lib.proofs.texts.answer_script.Goals as goal

pub returns-in-Ok : goal.returns-in-Ok
returns-in-Ok g c = λ text is. said_more (IsScriptOutcome (kit_laws c.args.kit) c.args.trace (floor_of_map (view c.args.map)) (runs_plan c.in-Ok.script)) (IsPartsOutcome (kit_laws c.args.kit) c.args.trace text c.args.script.now) c.run_script.result
    (λ o p. done (view c.args.map) (runs_plan c.in-Ok.script) is c.in-Ok.ensures p) c.run_script.ensures

pub returns : goal.returns
returns g c = λ text is. said_is (IsPartsOutcome (kit_laws c.args.kit) c.args.trace text c.args.script.now) c.faulty.result _ c.faulty.ensures
    (script_faulty (view c.args.map) c.in-Err-Line.line is (fails_line c.in-Err-Line.field-0 c.in-Err-Line.line _ c.in-Err-Line.field-0-is c.in-Err-Line.ensures) refl)
