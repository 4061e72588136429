-- What the robot sees, by its own field or by the shared one.
use Rattle.std.proofs.Common.{◌≡◌, ◌<◌, ◌≤◌, ℕ, List, Option, None, IsSome, length, map, set, slice_index_or, sym, ap, subst, ◌∙◌, arith}
use Rattle.std.proofs.lemmas.Bool.{false≢true}
use Rattle.std.proofs.lemmas.List.{get_or_past}
use Rattle.fleet_grid.specs.Floor.{Floor}
use Rattle.fleet_grid.specs.Ways.{AreNearer}
use Rattle.fleet_planner.specs.Aims.{goal_in, goal as shared_goal}
use Rattle.fleet_planner.specs.Courses.{Courses, goal, growth_in, own_goal, first_of, way_to, AreOn, AreStill}
use Rattle.fleet_planner.proofs.Merged.{own-at, goal-at, goal-past, still-set, still_goals, on-set}
use Rattle.fleet_planner.proofs.Refused.{if_ok_map}
use Rattle.fleet_planner.proofs.courses.CoursesGuide.outlook.Goals as goal
use Rattle.fleet_planner.proofs.courses.CoursesGuide.outlook.Goals.{After-self-1}

pub outlook-requires-clause-on : goal.outlook-requires-clause-on
outlook-requires-clause-on g c = (subst (AreOn c.args.grid.now) (sym c.self.view_is) c.requires.shows).shared

pub returns-then-robot-len-clause-nearer : goal.returns-then-robot-len-clause-nearer
returns-then-robot-len-clause-nearer g c some =
    let past : length c.self.inside.own.items ≤ c.args.robot = omega (arith, c.if-robot-len.true, c.len.ensures, c.self.inside.own.ok.0) in
    let none : goal c.args.self.now c.args.robot ≡ None = ap (λ (s : Courses). goal s c.args.robot) (sym c.self.view_is) ∙ goal-past c.self.inside.shared c.self.inside.own.items c.args.robot c.self.invariant.0 past in
    absurd (false≢true (subst IsSome none some))

pub returns-then-robot-len-clause-idle : goal.returns-then-robot-len-clause-idle
returns-then-robot-len-clause-idle g c none =
    let past : length c.self.inside.shared ≤ c.args.robot = (let same = c.self.invariant.0 in omega (arith, c.if-robot-len.true, c.len.ensures, c.self.inside.own.ok.0, same)) in
    c.outlook.ensures.idle (ap goal_in (get_or_past c.self.inside.shared c.args.robot None past))

pub outlook_by-requires-clause-shared : goal.outlook_by-requires-clause-shared
outlook_by-requires-clause-shared g c = (subst (AreOn c.args.grid.now) (sym c.self.view_is) c.requires.shows).shared

pub outlook_by-requires-clause-grown : goal.outlook_by-requires-clause-grown
outlook_by-requires-clause-grown g c field e =
    let less : c.args.robot < length c.self.inside.own.items = omega (arith, c.if-robot-len.false, c.len.ensures, c.self.inside.own.ok.0) in
    let on = subst (AreOn c.args.grid.now) (sym c.self.view_is) c.requires.shows in
    on.grown c.args.robot field (own-at c.self.inside.own.items c.args.robot c.index_mut.result.now less c.index_mut.ensures.value ∙ e)

goal_is : (g : _) (c : After-self-1 g) → goal c.args.self.now c.args.robot ≡ first_of (own_goal (growth_in c.index_mut.result.now)) (shared_goal c.self.inside.shared c.args.robot)
goal_is g c =
    let less : c.args.robot < length c.self.inside.own.items = omega (arith, c.if-robot-len.false, c.len.ensures, c.self.inside.own.ok.0) in
    ap (λ (s : Courses). goal s c.args.robot) (sym c.self.view_is) ∙ goal-at c.self.inside.own.items c.args.robot c.index_mut.result.now less c.index_mut.ensures.value c.self.inside.shared c.self.invariant.0

still_is : (g : _) (c : After-self-1 g) → AreStill c.args.self.now (record { shared = c.self.inside.shared; own = map growth_in (set c.self.inside.own.items c.args.robot c.outlook_by.new.own) })
still_is g c =
    subst (λ (old : Courses). AreStill old (record { shared = c.self.inside.shared; own = map growth_in (set c.self.inside.own.items c.args.robot c.outlook_by.new.own) })) c.self.view_is
    (still-set c.self.inside.shared c.self.inside.own.items c.args.robot c.index_mut.result.now c.outlook_by.new.own c.index_mut.ensures.value c.outlook_by.ensures.goal)

pub returns-clause-nearer : goal.returns-clause-nearer
returns-clause-nearer g c =
    let m = c.args.grid.now in
    let is = goal_is g ((goal.at.returns-clause-nearer g c).After-self-1) in
    if_ok_map c.outlook_by.result
    (λ outlook near some. subst (λ (aimed : Option ℕ). AreNearer m (way_to m aimed) c.args.cell outlook.nearer.byte) (sym is) near) c.outlook_by.ensures.nearer

pub returns-clause-idle : goal.returns-clause-idle
returns-clause-idle g c =
    let is = goal_is g ((goal.at.returns-clause-idle g c).After-self-1) in
    if_ok_map c.outlook_by.result (λ outlook idle none. idle (sym is ∙ none)) c.outlook_by.ensures.idle

pub returns-clause-goals : goal.returns-clause-goals
returns-clause-goals g c =
    let still = still_is g ((goal.at.returns-clause-goals g c).After-self-1) in
    let at : List (Option ℕ) → ℕ → Option ℕ = λ goals robot. slice_index_or goals robot None in
    ap at (still_goals still)

pub returns-clause-distances : goal.returns-clause-distances
returns-clause-distances g c =
    let still = still_is g ((goal.at.returns-clause-distances g c).After-self-1) in
    let at : List (Option ℕ) → Floor → ℕ → ℕ → Option ℕ = λ goals m robot cell. way_to m (slice_index_or goals robot None) cell in
    ap at (still_goals still)

pub returns-clause-shows : goal.returns-clause-shows
returns-clause-shows g c =
    on-set c.args.grid.now c.self.inside.shared c.self.inside.own.items c.args.robot c.outlook_by.new.own c.outlook_by.ensures.grown (subst (AreOn c.args.grid.now) (sym c.self.view_is) c.requires.shows)

pub returns-clause-stays : goal.returns-clause-stays
returns-clause-stays g c = still_is g ((goal.at.returns-clause-stays g c).After-self-1)
