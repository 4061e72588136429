-- What is said of a map, and of the script that is to be served on it.
use Rattle.std.proofs.Common.{ap}
use Rattle.fleet_text.specs.Outcome.{fault}
use Rattle.errands_lib.specs.Outcome.{IsServeOutcome, map_faulty}
use Rattle.fleet_text.specs.Kit.{kit_laws}
use Rattle.errands_lib.proofs.Outcomes.{said_is, map_fails}
use Rattle.errands_lib.proofs.service.answer_serve.Goals as goal

pub returns-in-Ok : goal.returns-in-Ok
returns-in-Ok g c = c.answer_script.ensures c.args.map.now c.in-Ok.ensures.exact

pub returns-in_ok-map_complaint-in-Err : goal.returns-in_ok-map_complaint-in-Err
returns-in_ok-map_complaint-in-Err g c = said_is (IsServeOutcome (kit_laws c.args.kit) c.args.map.now c.args.script.now) c.faulty.result _ c.faulty.ensures
    (map_faulty c.in-Err.fault (map_fails c.in-Err.fault c.args.map.now c.in-Err.ensures.exact c.in_ok-map_complaint-in-Err.ensures.named) (ap fault c.in_ok-map_complaint-in-Err.ensures.value))
