-- A further step.
use Rattle.std.proofs.Common.{◌≡◌, ℕ, ◌+◌, ◌%◌, ◌<◌, List, not, eqb, get_or, set, sym, ◌∙◌, ap, subst, arith}
use Rattle.fleet_execution.specs.declared.state.State.{State}
use Rattle.fleet_execution.specs.Course.{with_step}
use Rattle.fleet_execution.specs.Executes.{IsIn, count_below, Executes}
use Rattle.fleet_execution.specs.State.{desk_of, slot_of, blank}
use Rattle.fleet_execution.specs.Stepped.{IsMover, AreLast, IsTold}
use Rattle.fleet_execution.proofs.Planning.{last_inside, are_last, planned_state}
use Rattle.fleet_execution.proofs.state.State.plan.Goals as goal

pub overflow_add-step : goal.overflow_add-step
overflow_add-step g c = omega (arith, c.requires.room.0)

pub note_leaves-requires-clause-inside : goal.note_leaves-requires-clause-inside
note_leaves-requires-clause-inside g c r inside = last_inside c.args.self.now c.requires.sound.course c.requires.sound.executes r inside

pub note_followers-requires-clause-last : goal.note_followers-requires-clause-last
note_followers-requires-clause-last g c =
    let e2 : c.note_cells.new.self ≡ record c.args.self.now { leaves = c.note_leaves.new.self.leaves; window = c.note_cells.new.self.window } =
    c.note_cells.ensures.rest ∙ ap (λ (s : State g.row.A.Denot). record s { window = c.note_cells.new.self.window }) c.note_leaves.ensures.rest in
    subst (λ (s : State g.row.A.Denot). AreLast (desk_of s) c.args.to.now) (sym e2)
    (are_last c.args.self.now c.requires.sound.course c.requires.sound.executes c.requires.sound.sized c.args.to.now c.requires.step c.requires.room c.note_leaves.new.self.leaves c.note_leaves.ensures.cells
    c.note_leaves.ensures.noted c.note_cells.new.self.window)

pub returns-clause-planned : goal.returns-clause-planned
returns-clause-planned g c o x =
    let e1 = c.note_leaves.ensures.rest in
    let e2 : c.note_cells.new.self ≡ record c.args.self.now { leaves = c.note_leaves.new.self.leaves; window = c.note_cells.new.self.window } =
    c.note_cells.ensures.rest ∙ ap (λ (s : State g.row.A.Denot). record s { window = c.note_cells.new.self.window }) c.note_leaves.ensures.rest in
    let e3 : c.note_followers.new.self ≡ record c.args.self.now { leaves = c.note_leaves.new.self.leaves; window = c.note_followers.new.self.window } =
    c.note_followers.ensures.rest ∙ ap (λ (s : State g.row.A.Denot). record s { window = c.note_followers.new.self.window }) e2 in
    let u : c.set.new.self ≡ set c.args.self.now.unreached ((c.args.self.now.steps + 1) % c.args.self.now.ahead) c.moves-moves.result =
    c.set.ensures ∙ (ap (λ (s : State g.row.A.Denot). set s.unreached c.place-place.result c.moves-moves.result) e3
    ∙ ap (λ (k : ℕ). set c.args.self.now.unreached k c.moves-moves.result) (c.place-place.ensures ∙ ap (λ (s : State g.row.A.Denot). (c.args.self.now.steps + 1) % s.ahead) e3)) in
    let e5 : c.offer_all.new.self ≡ record c.args.self.now { leaves = c.note_leaves.new.self.leaves; window = c.note_followers.new.self.window; unreached = c.set.new.self; ready = c.offer_all.new.self.ready } =
    c.offer_all.ensures.rest ∙ ap (λ (s : State g.row.A.Denot). record s { unreached = c.set.new.self; ready = c.offer_all.new.self.ready }) e3 in
    let e6 : c.note_last.new.self ≡ record c.args.self.now { leaves = c.note_leaves.new.self.leaves; window = c.note_followers.new.self.window; unreached = c.set.new.self; ready = c.offer_all.new.self.ready; robots = c.note_last.new.self.robots } =
    c.note_last.ensures.rest ∙ ap (λ (s : State g.row.A.Denot). record s { robots = c.note_last.new.self.robots }) e5 in
    let told : IsTold (desk_of (record c.args.self.now { leaves = c.note_leaves.new.self.leaves; window = c.note_cells.new.self.window })) c.args.to.now c.args.self.now.count (λ r t. get_or c.note_followers.new.self.window (slot_of c.args.self.now.ahead c.args.self.now.count r t) blank) =
    subst (λ (s : State g.row.A.Denot). IsTold (desk_of (record c.args.self.now { leaves = c.note_leaves.new.self.leaves; window = c.note_cells.new.self.window })) c.args.to.now c.args.self.now.count (λ r t. get_or c.note_followers.new.self.window (slot_of s.ahead s.count r t) blank)) e3
    (subst (λ (s : State g.row.A.Denot). IsTold (desk_of s) c.args.to.now s.count (desk_of c.note_followers.new.self).window) e2 c.note_followers.ensures.told) in
    let done = planned_state c.args.self.now o x c.requires.sound.sized c.args.to.now c.requires.step c.requires.room c.note_leaves.new.self.leaves c.note_leaves.ensures.cells c.note_leaves.ensures.noted
    c.note_cells.new.self.window c.note_followers.new.self.window
    (λ r inside. ap (λ (s : State g.row.A.Denot). get_or c.note_cells.new.self.window (slot_of s.ahead s.count r (c.args.self.now.steps + 1)) blank) (sym e2)
    ∙ c.note_cells.ensures.now r (omega (arith, inside, ap (λ (s : State g.row.A.Denot). s.count) c.note_leaves.ensures.rest)))
    (λ r t inside far. ap (λ (s : State g.row.A.Denot). get_or c.note_cells.new.self.window (slot_of s.ahead s.count r t) blank) (sym e2)
    ∙ (c.note_cells.ensures.others r t (omega (arith, inside, ap (λ (s : State g.row.A.Denot). s.count) c.note_leaves.ensures.rest))
    (λ e. far (ap (λ (s : State g.row.A.Denot). t % s.ahead) (sym c.note_leaves.ensures.rest) ∙ (e ∙ ap (λ (s : State g.row.A.Denot). (c.args.self.now.steps + 1) % s.ahead) c.note_leaves.ensures.rest)))
    ∙ ap (λ (s : State g.row.A.Denot). (desk_of s).window r t) c.note_leaves.ensures.rest))
    (λ r t. ap (λ (s : State g.row.A.Denot). (get_or c.note_followers.new.self.window (slot_of s.ahead s.count r t) blank).to) (sym e3)
    ∙ (c.note_followers.ensures.cells r t ∙ ap (λ (s : State g.row.A.Denot). (get_or c.note_cells.new.self.window (slot_of s.ahead s.count r t) blank).to) e2))
    (λ r t. ap (λ (s : State g.row.A.Denot). (get_or c.note_followers.new.self.window (slot_of s.ahead s.count r t) blank).after) (sym e3)
    ∙ (c.note_followers.ensures.after r t ∙ ap (λ (s : State g.row.A.Denot). (get_or c.note_cells.new.self.window (slot_of s.ahead s.count r t) blank).after) e2))
    told c.moves-moves.result c.offer_all.new.self.ready c.note_last.new.self.robots
    (subst (λ (s : State g.row.A.Denot). c.moves-moves.result ≡ count_below s.count (λ r. not (eqb (get_or c.args.to.now r 0) ((desk_of s).robot r).last))) e3 c.moves-moves.ensures)
    (λ r inside. c.note_last.ensures.last r (omega (arith, inside, ap (λ (s : State g.row.A.Denot). s.count) e5))
    ∙ ap (λ (s : State g.row.A.Denot). record ((desk_of s).robot r) { last = get_or c.args.to.now r 0 }) e5)
    (λ y has. c.offer_all.ensures.keeps y (subst (λ (s : State g.row.A.Denot). IsIn s.ready.items y) (sym e3) has))
    (λ r. subst (λ (s : State g.row.A.Denot). r < s.count → IsMover (desk_of s) c.args.to.now r → ((desk_of s).robot r).returned ≡ ((desk_of s).robot r).reached → IsIn c.offer_all.new.self.ready.items r) e3 (c.offer_all.ensures.offered r)) in
    subst (λ (s : State g.row.A.Denot). Executes (desk_of (record s { steps = c.args.self.now.steps + 1 })) (with_step o c.args.to.now)) (sym e6)
    (subst (λ (ys : List ℕ). Executes (desk_of (record c.args.self.now { leaves = c.note_leaves.new.self.leaves; window = c.note_followers.new.self.window; unreached = ys; ready = c.offer_all.new.self.ready; robots = c.note_last.new.self.robots; steps = c.args.self.now.steps + 1 }))
    (with_step o c.args.to.now)) (sym u) done)
