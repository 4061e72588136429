-- A judge's verdict is the answer.
use Rattle.std.proofs.Common.{◌≡◌, List, ℕ, refl, ap, ◌∙◌}
use Rattle.fleet_map.specs.Text.{lines_of}
use Rattle.fleet_plans.specs.Answer.{valid_answer, free, conflict}
use Rattle.fleet_plans.specs.Goals.{asked_by}
use Rattle.fleet_plans.specs.Shown.{goals_in}
use Rattle.fleet_plans.specs.Valid.{place_at, last_of}
use Rattle.fleet_plans.proofs.answer.answer_of.Goals as goal

pub returns-in-Ok : goal.returns-in-Ok
returns-in-Ok g c = λ m places is.
    let lines = lines_of c.args.head.now in
    let goals = goals_in c.args.goals in
    let asks = asked_by c.args.demand in
    let report = c.in-Ok.report in
    let first : c.first.result.now ≡ place_at places 0 = c.first.ensures.exact ∙ c.in-Ok.ensures.first m places is in
    let last : c.last.result.now ≡ last_of places = c.last.ensures.exact ∙ c.in-Ok.ensures.last m places is in
    free report (c.in-Ok.ensures.valid m places is) (c.in-Ok.ensures.report m places is)
    (c.valid_answer.ensures
    ∙ (ap (λ (f : List ℕ). valid_answer asks lines goals f c.last.result.now report) first ∙ ap (λ (l : List ℕ). valid_answer asks lines goals (place_at places 0) l report) last))

pub returns-in-Err : goal.returns-in-Err
returns-in-Err g c = λ m places is. conflict c.in-Err.fault (c.in-Err.ensures.fault m places is) (c.in-Err.ensures.cells m places is) refl
