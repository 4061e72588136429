use Rattle.std.proofs.Common.{◌∙◌, ◌<◌, ◌≡◌, ℕ, List, length, ap, sym, subst, arith}
use Rattle.fleet_planner.specs.Courses.{goals_of}
use Rattle.fleet_state.proofs.Parts.{cell-count, queue-count, robots-few}
use Rattle.fleet_planner.proofs.FirstGoals.{aimed-none, aimed-more, aimed-idle, aimed-all, first-floor}
use Rattle.fleet_turns.specs.Planning.{IsPlannerOf}
use Rattle.mover.specs.inside.Turning.{turn_planner}
use Rattle.mover.proofs.turn_fleet.TurnFleet.aim_fronts.Goals as goal
use Rattle.mover.proofs.turn_fleet.TurnFleet.aim_fronts.Goals.{in-Some+in_ok-aim, in_default}

pub loop-r-init : goal.loop-r-init
loop-r-init g c = record {
  aimed = aimed-none c.args.state.now.queues c.args.self.now.aims c.requires.new.planner.none;
  planner = c.requires.new.planner.planner;
  keeps = c.requires.new.keeps;
}

pub overflow_cast-robot : goal.overflow_cast-robot
overflow_cast-robot g c = omega (arith, c.loop-r-test.true, c.robots-r-end.ensures.count, robots-few c.requires.is.1)

pub aim-requires-clause-known : goal.aim-requires-clause-known
aim-requires-clause-known g c =
    omega (arith, c.loop-r-test.true, c.robots-r-end.ensures.count, ap (λ (cells : List ℕ). length cells) c.place.ensures.cells, cell-count c.requires.is.1, queue-count c.requires.is.1)

pub aim-requires-clause-floor : goal.aim-requires-clause-floor
aim-requires-clause-floor g c =
    first-floor c.requires.is.1 c.loop-r.r c.in-Some.front (omega (arith, c.loop-r-test.true, c.robots-r-end.ensures.count)) (sym (c.front.ensures.of c.args.grid.now c.requires.is.0 c.requires.is.1) ∙ c.in-Some.is)

pub aim-requires-clause-planner : goal.aim-requires-clause-planner
aim-requires-clause-planner g c =
    let same : length c.args.state.now.queues ≡ length c.place.result.now = omega (arith, ap (λ (cells : List ℕ). length cells) c.place.ensures.cells, cell-count c.requires.is.1, queue-count c.requires.is.1) in
    subst (λ (n : ℕ). IsPlannerOf c.args.grid.now n (turn_planner c.loop-r.self)) same c.loop-r.invariant.planner

pub aim-requires-clause-keeps : goal.aim-requires-clause-keeps
aim-requires-clause-keeps g c = c.loop-r.invariant.keeps

pub loop-r-preserved : goal.loop-r-preserved
loop-r-preserved g c =
    let queues = c.args.state.now.queues in
    let i = c.loop-r.invariant in
    let less : c.loop-r.r < length queues = omega (arith, c.loop-r-test.true, c.robots-r-end.ensures.count) in
    elim c.match-front.branch [
      | in-Some+in_ok-aim w ↦ (
          let same : length w.place.result.now ≡ length queues = omega (arith, ap (λ (cells : List ℕ). length cells) w.place.ensures.cells, cell-count c.requires.is.1, queue-count c.requires.is.1) in
          record {
            aimed = rw (w.self-is, w.in_ok-aim.ensures.goals) (aimed-more queues c.loop-r.r (goals_of c.loop-r.self.aims) c.front.result w.in-Some.front less c.front.ensures.first w.in-Some.is i.aimed);
            planner = rw w.self-is (subst (λ (n : ℕ). IsPlannerOf c.args.grid.now n (turn_planner w.aim.new.self)) same w.aim.ensures.planner);
            keeps = rw w.self-is w.aim.ensures.keeps;
          })
      | in_default w ↦ record {
        aimed = rw w.self-is (aimed-idle queues c.loop-r.r (goals_of c.loop-r.self.aims) c.front.result c.front.ensures.first w.in_default.is i.aimed);
        planner = rw w.self-is i.planner;
        keeps = rw w.self-is i.keeps;
      }
    ]

pub returns-clause-goals : goal.returns-clause-goals
returns-clause-goals g c =
    aimed-all c.args.state.now.queues c.loop-r.r (goals_of c.loop-r.self.aims) (omega (arith, c.loop-r-test.false, c.robots-r-end.ensures.count)) c.loop-r.invariant.aimed
