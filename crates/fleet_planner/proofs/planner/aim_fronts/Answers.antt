use Rattle.std.proofs.Common.{◌∙◌, ◌<◌, ℕ, List, length, ap, refl, sym, arith}
use Rattle.fleet_planner.specs.Courses.{goals_of}
use Rattle.fleet_state.proofs.Parts.{cell-count, queue-count, robots-few}
use Rattle.fleet_planner.proofs.FirstGoals.{none-count, aimed-none, aimed-more, aimed-idle, aimed-all, first-floor}
use Rattle.fleet_planner.proofs.planner.aim_fronts.Goals as goal
use Rattle.fleet_planner.proofs.planner.aim_fronts.Goals.{in-Some+in_ok-aim, in_default}

pub loop-r-init : goal.loop-r-init
loop-r-init g c = record {
  aimed = aimed-none c.args.state.now.queues c.args.aims.now c.requires.none;
  count = refl;
  on = c.requires.on;
  keeps = c.requires.keeps;
}

pub overflow_cast-robot : goal.overflow_cast-robot
overflow_cast-robot g c = omega (arith, c.loop-r-test.true, c.robots-r-end.ensures.count, robots-few c.requires.is.1)

pub aim-requires-clause-known : goal.aim-requires-clause-known
aim-requires-clause-known g c =
    omega (arith, c.loop-r-test.true, c.robots-r-end.ensures.count, c.loop-r.invariant.count, none-count (length c.args.state.now.queues) c.args.aims.now c.requires.none)

pub aim-requires-clause-cells : goal.aim-requires-clause-cells
aim-requires-clause-cells g c =
    omega (arith, c.loop-r.invariant.count, none-count (length c.args.state.now.queues) c.args.aims.now c.requires.none, ap (λ (cells : List ℕ). length cells) c.place.ensures.cells, cell-count c.requires.is.1, queue-count c.requires.is.1)

pub aim-requires-clause-floor : goal.aim-requires-clause-floor
aim-requires-clause-floor g c =
    first-floor c.requires.is.1 c.loop-r.r c.in-Some.front (omega (arith, c.loop-r-test.true, c.robots-r-end.ensures.count)) (sym (c.front.ensures.of c.args.grid.now c.requires.is.0 c.requires.is.1) ∙ c.in-Some.is)

pub loop-r-preserved : goal.loop-r-preserved
loop-r-preserved g c =
    let queues = c.args.state.now.queues in
    let i = c.loop-r.invariant in
    let less : c.loop-r.r < length queues = omega (arith, c.loop-r-test.true, c.robots-r-end.ensures.count) in
    elim c.match-front.branch [
      | in-Some+in_ok-aim w ↦ record {
        aimed = rw (w.aims-is, w.in_ok-aim.ensures.goals) (aimed-more queues c.loop-r.r (goals_of c.loop-r.aims) c.front.result w.in-Some.front less c.front.ensures.first w.in-Some.is i.aimed);
        count = rw w.aims-is (w.aim.ensures.count ∙ i.count);
        on = rw w.aims-is w.aim.ensures.on;
        keeps = rw w.cache-is w.aim.ensures.keeps;
      }
      | in_default w ↦ record {
        aimed = rw w.aims-is (aimed-idle queues c.loop-r.r (goals_of c.loop-r.aims) c.front.result c.front.ensures.first w.in_default.is i.aimed);
        count = rw w.aims-is i.count;
        on = rw w.aims-is i.on;
        keeps = rw w.cache-is i.keeps;
      }
    ]

pub returns-clause-goals : goal.returns-clause-goals
returns-clause-goals g c =
    aimed-all c.args.state.now.queues c.loop-r.r (goals_of c.loop-r.aims) (omega (arith, c.loop-r-test.false, c.robots-r-end.ensures.count)) c.loop-r.invariant.aimed
