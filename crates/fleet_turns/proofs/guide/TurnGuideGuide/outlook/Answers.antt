-- What the robot sees: the way to the core, or what its courses show.
use Rattle.std.proofs.Common.{◌≡◌, ℕ, List, Option, Some, IsSome, slice_index, refl, sym, ap, subst, ◌∙◌}
use Rattle.fleet_grid.specs.Distance.{distance}
use Rattle.fleet_grid.specs.Ways.{AreNearer}
use Rattle.fleet_planner.specs.Courses.{goal, way_to}
use Rattle.fleet_planner.proofs.Refused.{if_ok_map}
use Rattle.turns_law.specs.Turns.{AreAway}
use Rattle.fleet_turns.specs.inside.Cores.{way_to_core}
use Rattle.fleet_turns.specs.inside.Lent.{goal_lent}
use Rattle.fleet_turns.proofs.ToCores.{way_is, nearer_by, goal_lender, goal_other}
use Rattle.fleet_turns.proofs.guide.TurnGuideGuide.outlook.Goals as goals

pub returns-then-not-is_lender-clause-nearer : goals.returns-then-not-is_lender-clause-nearer
returns-then-not-is_lender-clause-nearer g c =
    let m = c.args.grid.now in
    let s = c.args.self.now in
    let same : goal_lent s.lender s.goal s.courses c.args.robot ≡ goal s.courses c.args.robot = goal_other s.lender s.goal c.args.robot s.courses (c.is_lender.ensures.other c.if-not-is_lender.true) in
    if_ok_map c.outlook.result
    (λ outlook near some. subst (λ (o : Option ℕ). AreNearer m (way_to m o) c.args.cell outlook.nearer.byte) (sym same) (near (subst IsSome same some))) c.outlook.ensures.nearer

pub returns-clause-nearer : goals.returns-clause-nearer
returns-clause-nearer g c some =
    let m = c.args.grid.now in
    let s = c.args.self.now in
    let way = c.to_core-to_core.result in
    let cores : way.core.now ≡ s.core.items = c.to_core-to_core.ensures.core in
    let aways : way.away.now ≡ s.away.items = c.to_core-to_core.ensures.away in
    let at : way.goal ≡ s.goal = c.to_core-to_core.ensures.goal in
    let is : s.lender ≡ Some c.args.robot = c.is_lender.ensures.is c.if-not-is_lender.false in
    let are : AreAway m way.core.now way.away.now = subst (λ (x : List ℕ). AreAway m x way.away.now) (sym cores) (subst (AreAway m s.core.items) (sym aways) c.requires.shows.away_is) in
    let own : slice_index way.core.now way.goal ≡ way.goal = subst (λ (x : List ℕ). slice_index x way.goal ≡ way.goal) (sym cores) (subst (λ (k : ℕ). slice_index s.core.items k ≡ k) (sym at) (c.requires.shows.own c.args.robot is)) in
    let seen : AreNearer m (λ x. distance m x way.goal) c.args.cell c.ways.result.byte = nearer_by m (way_to_core way.core.now way.away.now way.goal) (λ x. distance m x way.goal)
    (way_is m way.core.now way.away.now are way.goal own) c.args.cell c.ways.result.byte c.requires.floor (c.ways.ensures.nearer refl) in
    let same : Some way.goal ≡ goal_lent s.lender s.goal s.courses c.args.robot = ap Some at ∙ sym (goal_lender s.lender s.goal c.args.robot s.courses is) in
    subst (λ (o : Option ℕ). AreNearer m (way_to m o) c.args.cell c.ways.result.byte) same seen
