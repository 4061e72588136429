-- What is said on a map, and where there is none.
use Rattle.std.proofs.Common.{refl}
use Rattle.fleet_map.specs.Grammar.{view, map_of}
use Rattle.fleet_plans.specs.Goals.{asked_by}
use Rattle.fleet_plans.specs.Answer.{IsTextAnswer, IsAnswerTo, no_map, on_map}
use Rattle.fleet_plans.proofs.Answered.{map_fails}
use Rattle.fleet_plans.proofs.Givings.{if_ok_then}
use Rattle.fleet_plans.proofs.answer.answer_to.Goals as goal

pub returns-in-Ok : goal.returns-in-Ok
returns-in-Ok c =
    let m = view c.in-Ok.map in
    if_ok_then c.answer_on.result (IsTextAnswer (asked_by c.args.demand) m c.args.form c.args.text.now) (IsAnswerTo (asked_by c.args.demand) c.args.map.now c.args.form c.args.text.now) (λ a is. on_map m c.in-Ok.ensures.exact is) c.answer_on.ensures

pub returns-in_ok-map_fault-in-Err : goal.returns-in_ok-map_fault-in-Err
returns-in_ok-map_fault-in-Err c =
    let named = c.in_ok-map_fault-in-Err.field-0 in
    let e = c.in_ok-map_fault-in-Err.ensures in
    no_map named (map_fails c.in-Err.fault named (map_of c.args.map.now) c.in-Err.ensures.exact e.same e.named) refl
