use Rattle.std.proofs.Common.{ap}
use Rattle.fleet_grid.specs.Floor.{floor_of_map}
use Rattle.fleet_map.specs.Grammar.{view}
use Rattle.fleet_text.specs.Outcome.{fault}
use Rattle.errands_lib.specs.Answer.{IsDescribed, IsMapOutcome, refused, described}
use Rattle.errands_lib.proofs.Outcomes.{said_is, said_more, map_fails}
use Rattle.errands_lib.proofs.texts.answer_map.Goals as goal

pub returns-in-Ok : goal.returns-in-Ok
returns-in-Ok c = said_more (IsDescribed (floor_of_map (view c.in-Ok.map))) (IsMapOutcome c.args.bytes.now) c.describe_map.result (λ o p. described (view c.in-Ok.map) c.in-Ok.ensures.exact p) c.describe_map.ensures

pub returns-in_ok-map_complaint-in-Err : goal.returns-in_ok-map_complaint-in-Err
returns-in_ok-map_complaint-in-Err c = said_is (IsMapOutcome c.args.bytes.now) c.faulty.result _ c.faulty.ensures
    (refused c.in-Err.fault (map_fails c.in-Err.fault c.args.bytes.now c.in-Err.ensures.exact c.in_ok-map_complaint-in-Err.ensures.named) (ap fault c.in_ok-map_complaint-in-Err.ensures.value))
