-- One order after another was judged.
use Rattle.std.proofs.Common.{◌≡◌, ◌∙◌, ◌≤◌, ◌<◌, ◌+◌, ◌-◌, ◌++◌, ℕ, Bool, List, [], length, refl, sym, subst, arith}
use Rattle.live_fleet.specs.Act.{Act}
use Rattle.live_fleet.specs.Went.{At, at_of}
use Rattle.live_fleet.proofs.Steps.{takes-none, taking-last, taking-many, taking-more, taking-none}
use Rattle.live_fleet.proofs.taking.take_client.Goals as goal

pub returns-then-has_no_order-clause-ok : goal.returns-then-has_no_order-clause-ok
returns-then-has_no_order-clause-ok g c = takes-none c.args.most c.args.client (at_of c.args.fleet.now c.args.out.now) (c.has_no_order.ensures.0 c.if-has_no_order.true)

pub loop-init : goal.loop-init
loop-init g c = record { taking = ([], taking-none c.args.client (at_of c.args.fleet.now c.args.out.now)); count = refl }

pub loop-preserved : goal.loop-preserved
loop-preserved g c =
    let (acts, so) = c.loop.invariant.taking in
    let (more, step) = c.in_ok-step_on.ensures.ok in
    record {
      taking = (acts ++ more, taking-more c.args.client c.loop.counter c.in_ok-step_on.field-0 (at_of c.args.fleet.now c.args.out.now) (at_of c.loop.fleet c.loop.out) (at_of c.step_on.new.fleet c.step_on.new.out) acts more so step);
      count = c.step_on.ensures.count ∙ c.loop.invariant.count;
    }

pub returns-then-not-is_took-clause-ok : goal.returns-then-not-is_took-clause-ok
returns-then-not-is_took-clause-ok g c =
    let (acts, so) = c.loop.invariant.taking in
    let (more, step) = c.in_ok-step_on.ensures.ok in
    taking-last c.args.client c.loop.counter c.args.most c.in_ok-step_on.field-0 (at_of c.args.fleet.now c.args.out.now) (at_of c.loop.fleet c.loop.out) (at_of c.step_on.new.fleet c.step_on.new.out) acts more so step (sym c.is_took.ensures ∙ c.if-not-is_took.true)

pub returns-clause-ok : goal.returns-clause-ok
returns-clause-ok g c =
    let (acts, so) = c.loop.invariant.taking in
    (acts, taking-many c.args.client c.loop.counter c.args.most (at_of c.args.fleet.now c.args.out.now) (at_of c.loop.fleet c.loop.out) acts so (omega (arith, c.loop-test.false)))
