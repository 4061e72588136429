-- What is said of a plan for a scenario, and where there is no scenario.
use Rattle.std.proofs.Common.{◌≡◌, ℕ, List, Result, Ok, Err, refl, ap, ◌∙◌, subst}
use Rattle.fleet_map.specs.Grammar.{Map, view}
use Rattle.fleet_map.specs.Text.{lines_of}
use Rattle.fleet_plans.specs.Answer.{IsTextAnswer, IsOnScenario, without_trips, with_trips}
use Rattle.fleet_plans.specs.Goals.{Asked, OfTrips}
use Rattle.fleet_plans.specs.Scenario.{Trips, scenario_of}
use Rattle.fleet_plans.proofs.Answered.{line_fails}
use Rattle.fleet_plans.proofs.Givings.{if_ok_then}
use Rattle.fleet_plans.proofs.asked.scenario_on.Goals as goal

-- what was read is the scenario of the map
module _ (m : Map) (w h : ℕ) (wide : w ≡ m.width) (tall : h ≡ m.height) (lines : List (List ℕ)) (told : Result Trips ℕ) where
  of_map : scenario_of w h lines ≡ told → scenario_of m.width m.height lines ≡ told
  of_map read =
      let P : ℕ → ℕ → Type 0 = λ x y. scenario_of x y lines ≡ told in
      subst (λ (x : ℕ). P x m.height) wide (subst (λ (y : ℕ). P w y) tall read)

same_trips : (s t g d : List ℕ) → s ≡ t → g ≡ d → OfTrips (record { starts = s; goals = g }) ≡ OfTrips (record { starts = t; goals = d })
same_trips s t g d starts goals =
    ap (λ (x : List ℕ). OfTrips (record { starts = x; goals = g })) starts ∙ ap (λ (y : List ℕ). OfTrips (record { starts = t; goals = y })) goals

pub returns-in-Ok : goal.returns-in-Ok
returns-in-Ok c =
    let m = view c.args.map in
    let text = c.args.text.now in
    let lines = lines_of c.args.scenario.now in
    let trips : Trips = record { starts = c.in-Ok.trips.starts; goals = c.in-Ok.trips.goals } in
    let asks : Asked = OfTrips (record { starts = c.as_slice.result.now; goals = c.as_slice-in-Ok.result.now }) in
    let same : asks ≡ OfTrips trips = same_trips c.as_slice.result.now c.in-Ok.trips.starts c.as_slice-in-Ok.result.now c.in-Ok.trips.goals c.as_slice.ensures c.as_slice-in-Ok.ensures in
    let read = of_map m c.sides_of.result.width c.sides_of.result.height c.sides_of.ensures.width c.sides_of.ensures.height lines (Ok trips) c.in-Ok.ensures in
    if_ok_then c.answer_on.result (IsTextAnswer asks m c.args.form text) (IsOnScenario m c.args.scenario.now c.args.form text)
    (λ a is. with_trips trips read (subst (λ (x : Asked). IsTextAnswer x m c.args.form text a) same is)) c.answer_on.ensures

pub returns-in_ok-line_of-in-Err : goal.returns-in_ok-line_of-in-Err
returns-in_ok-line_of-in-Err c =
    let m = view c.args.map in
    let lines = lines_of c.args.scenario.now in
    let w = c.sides_of.result.width in
    let h = c.sides_of.result.height in
    let line = c.in_ok-line_of-in-Err.field-0 in
    let fails = line_fails c.in-Err.fault line (scenario_of w h lines) c.in_ok-line_of-in-Err.ensures c.in-Err.ensures in
    without_trips line (of_map m w h c.sides_of.ensures.width c.sides_of.ensures.height lines (Err line) fails) refl
