-- The beginning of an execution.
use Rattle.std.proofs.Common.{ℕ, ◌*◌, ◌<◌, rules, List, Option, None, length, get_or, arith, refl, sym, ◌∙◌, ap}
use Rattle.std.proofs.lemmas.List.{length-replicate}
use Rattle.fleet_execution.specs.declared.robot.Leave.{Leave}
use Rattle.fleet_execution.specs.Queue.{Line}
use Rattle.fleet_execution.specs.State.{blank}
use Rattle.fleet_execution.proofs.Few.{few_robots}
use Rattle.fleet_execution.proofs.Opening.{opened_executes, repeated}
use Rattle.fleet_execution.proofs.state.State.new.Goals as goal

abbrev no_leave : Option Leave
no_leave = None

pub overflow_cast-count : goal.overflow_cast-count
overflow_cast-count g c = omega (arith, few_robots c.args.placement.now c.args.cells c.requires.placement.inside c.requires.placement.distinct, c.ranges.cells)

pub overflow_mul-count : goal.overflow_mul-count
overflow_mul-count g c =
    let small : length c.args.placement.now < 4294967296 = omega (arith, few_robots c.args.placement.now c.args.cells c.requires.placement.inside c.requires.placement.distinct, c.ranges.cells) in
    search (rules, small)

pub returns-clause-sized : goal.returns-clause-sized
returns-clause-sized g c = record {
  some = c.requires.some;
  robots = c.in_ok-robots.ensures.length;
  window = omega (arith, ap length c.in_ok-window.ensures, length-replicate (length c.args.placement.now * c.args.ahead) blank);
  unreached = ap length c.in_ok-unreached.ensures ∙ length-replicate c.args.ahead 0;
  ready = ap (λ (q : Line). q.robots) c.in_ok-ready.ensures;
  marks = ap length c.in_ok-marks.ensures ∙ (length-replicate c.args.cells 0 ∙ sym (ap length c.in_ok-leaves.ensures ∙ length-replicate c.args.cells no_leave));
  small = omega (arith, ap length c.in_ok-leaves.ensures, length-replicate c.args.cells no_leave, c.ranges.cells);
}

pub returns-clause-opened : goal.returns-clause-opened
returns-clause-opened g c = opened_executes _ c.args.placement.now refl refl refl (ap (λ (q : Line). q.items) c.in_ok-ready.ensures) c.in_ok-robots.ensures.robots
    (λ k. ap (λ (xs : List (Option Leave)). get_or xs k None) c.in_ok-leaves.ensures ∙ repeated c.args.cells k None)
    (λ k. ap (λ (xs : List ℕ). get_or xs k 0) c.in_ok-unreached.ensures ∙ repeated c.args.ahead k 0)
    c.requires.placement.distinct (λ r inside. omega (arith, c.requires.placement.inside r inside, ap length c.in_ok-leaves.ensures, length-replicate c.args.cells no_leave))
