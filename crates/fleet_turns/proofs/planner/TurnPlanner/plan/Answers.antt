-- The step of a tick of turns: what it is given, and what it makes.
use Rattle.std.proofs.Common.{◌≡◌, length, vec_len, refl, sym, subst, ◌∙◌, arith}
use Rattle.std.proofs.lemmas.Grind.{common_steps}
use Rattle.fleet_planner.specs.Courses.{goals_of}
use Rattle.fleet_planner.specs.Lending.{IsLent}
use Rattle.turns_law.specs.Turns.{Turns}
use Rattle.fleet_turns.specs.Planning.{TurnPlanner, IsPlannerOf, IsReady}
use Rattle.fleet_turns.proofs.Plans.{lent_over, step_goals, step_shows, turn_made, turn_over, ranks_length, eldest_known}
use Rattle.fleet_turns.proofs.planner.TurnPlanner.plan.Goals as goal

pub step-requires-clause-goals : goal.step-requires-clause-goals
step-requires-clause-goals g c =
    let m = c.args.grid.now in
    let p = c.self.inside in
    let t : Turns = record { core = p.guide.core.items; door = p.door.items; mouth = p.mouth.items; size = p.size.items; capacity = p.capacity.items; away = p.guide.away.items; robots = vec_len p.ranks } in
    let planner = subst (IsPlannerOf m (length c.args.fleet.cells.now)) (sym c.self.view_is) c.requires.planner in
    let ready = subst (λ (q : TurnPlanner). IsReady m (goals_of q.courses) c.args.fleet.cells.now c.args.fleet.waits.now) (sym c.self.view_is) c.requires.ready in
    let lent : IsLent t.core t.door t.mouth t.capacity t.away c.args.fleet.cells.now (goals_of p.guide.courses) c.args.fleet.waits.now c.lend-lending.new.ranks c.lend-lending.result =
    lent_over _ _ _ _ _ _ _ _ _ _ c.args.fleet.cells.now _ _ c.args.fleet.waits.now c.lend-lending.new.ranks c.lend-lending.result
    c.deref.ensures.value c.deref-2.ensures.value c.deref-3.ensures.value c.deref-4.ensures.value c.deref-5.ensures.value (c.deref-6.ensures.value ∙ c.self.invariant) c.lend-lending.ensures.lent in
    let ranks : c.as_slice-order.result.now ≡ c.lend-lending.new.ranks = grind (arith, common_steps, c.deref_mut.ensures.value, c.as_slice-order.ensures.value) in
    step_goals m t planner.turns c.args.fleet.cells.now (goals_of p.guide.courses) c.args.fleet.waits.now c.lend-lending.new.ranks c.lend-lending.result lent p.guide.courses c.lend_to.new.self.goal
    refl ready.placed ready.waiting c.lend_to.ensures.goal c.lend_to.new.self.lender c.lend_to.new.self.courses c.as_slice-order.result.now c.lend_to.ensures.lender c.lend_to.ensures.courses ranks ready.each

pub step-requires-clause-shows : goal.step-requires-clause-shows
step-requires-clause-shows g c =
    let m = c.args.grid.now in
    let p = c.self.inside in
    let t : Turns = record { core = p.guide.core.items; door = p.door.items; mouth = p.mouth.items; size = p.size.items; capacity = p.capacity.items; away = p.guide.away.items; robots = vec_len p.ranks } in
    let planner = subst (IsPlannerOf m (length c.args.fleet.cells.now)) (sym c.self.view_is) c.requires.planner in
    let ready = subst (λ (q : TurnPlanner). IsReady m (goals_of q.courses) c.args.fleet.cells.now c.args.fleet.waits.now) (sym c.self.view_is) c.requires.ready in
    let lent : IsLent t.core t.door t.mouth t.capacity t.away c.args.fleet.cells.now (goals_of p.guide.courses) c.args.fleet.waits.now c.lend-lending.new.ranks c.lend-lending.result =
    lent_over _ _ _ _ _ _ _ _ _ _ c.args.fleet.cells.now _ _ c.args.fleet.waits.now c.lend-lending.new.ranks c.lend-lending.result
    c.deref.ensures.value c.deref-2.ensures.value c.deref-3.ensures.value c.deref-4.ensures.value c.deref-5.ensures.value (c.deref-6.ensures.value ∙ c.self.invariant) c.lend-lending.ensures.lent in
    step_shows m t planner.turns c.args.fleet.cells.now (goals_of p.guide.courses) c.args.fleet.waits.now c.lend-lending.new.ranks c.lend-lending.result lent p.guide.courses c.lend_to.new.self.goal
    refl ready.placed ready.waiting c.lend_to.ensures.goal c.lend_to.new.self.core.items c.lend_to.new.self.away.items c.lend_to.new.self.lender c.lend_to.new.self.courses
    c.lend_to.ensures.core c.lend_to.ensures.away c.lend_to.ensures.lender c.lend_to.ensures.courses planner.on
    (λ x is. (
    let many = ranks_length t.core t.door t.mouth t.capacity t.away c.args.fleet.cells.now (goals_of p.guide.courses) c.args.fleet.waits.now c.lend-lending.new.ranks c.lend-lending.result lent in
    let l = eldest_known c.args.fleet.waits.now c.lend-lending.new.ranks x many (c.lend-lending.ensures.first x is) in
    let same = ready.waiting in
    omega (arith, l, same)))

pub returns-clause-turn : goal.returns-clause-turn
returns-clause-turn g c =
    let m = c.args.grid.now in
    let p = c.self.inside in
    let t : Turns = record { core = p.guide.core.items; door = p.door.items; mouth = p.mouth.items; size = p.size.items; capacity = p.capacity.items; away = p.guide.away.items; robots = vec_len p.ranks } in
    let planner = subst (IsPlannerOf m (length c.args.fleet.cells.now)) (sym c.self.view_is) c.requires.planner in
    let ready = subst (λ (q : TurnPlanner). IsReady m (goals_of q.courses) c.args.fleet.cells.now c.args.fleet.waits.now) (sym c.self.view_is) c.requires.ready in
    let lent : IsLent t.core t.door t.mouth t.capacity t.away c.args.fleet.cells.now (goals_of p.guide.courses) c.args.fleet.waits.now c.lend-lending.new.ranks c.lend-lending.result =
    lent_over _ _ _ _ _ _ _ _ _ _ c.args.fleet.cells.now _ _ c.args.fleet.waits.now c.lend-lending.new.ranks c.lend-lending.result
    c.deref.ensures.value c.deref-2.ensures.value c.deref-3.ensures.value c.deref-4.ensures.value c.deref-5.ensures.value (c.deref-6.ensures.value ∙ c.self.invariant) c.lend-lending.ensures.lent in
    let ranks : c.as_slice-order.result.now ≡ c.lend-lending.new.ranks = grind (arith, common_steps, c.deref_mut.ensures.value, c.as_slice-order.ensures.value) in
    turn_over m _ _ c.args.fleet.waits.now c.args.fleet.cells.now c.lend-lending.result c.self.view_is
    (turn_made m t planner.turns c.args.fleet.cells.now (goals_of p.guide.courses) c.args.fleet.waits.now c.lend-lending.new.ranks c.lend-lending.result lent p.guide.courses c.lend_to.new.self.goal
    refl ready.placed ready.waiting c.lend_to.ensures.goal c.lend_to.ensures.lender c.lend_to.ensures.courses ranks refl c.lend-lending.ensures.first c.in_ok-step.ensures.stepped)
