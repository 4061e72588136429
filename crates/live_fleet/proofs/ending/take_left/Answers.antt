-- One order after another was judged.
use Rattle.std.proofs.Common.{◌≡◌, ◌∙◌, List, refl}
use Rattle.live_fleet.specs.Went.{At, at_of}
use Rattle.live_fleet.proofs.Ended.{closing-fewer, closing-last, closing-more, closing-none}
use Rattle.live_fleet.proofs.ending.take_left.Goals as goal

pub loop-init : goal.loop-init
loop-init g c = record { closing = closing-none c.args.client (at_of c.args.fleet.now c.args.out.now); count = refl }

pub loop-preserved : goal.loop-preserved
loop-preserved g c = record {
  closing = closing-more c.args.client c.in_ok-take_next.field-0 (at_of c.args.fleet.now c.args.out.now) (at_of c.loop.fleet c.loop.out) (at_of c.take_next.new.fleet c.take_next.new.out) c.loop.invariant.closing c.in_ok-take_next.ensures.ok;
  count = c.take_next.ensures.count ∙ c.loop.invariant.count;
}

pub loop-smaller : goal.loop-smaller
loop-smaller g c = closing-fewer c.args.client c.in_ok-take_next.field-0 (at_of c.loop.fleet c.loop.out) (at_of c.take_next.new.fleet c.take_next.new.out) c.in_ok-take_next.ensures.ok c.if-branch.true

pub returns-clause-ok : goal.returns-clause-ok
returns-clause-ok g c =
    closing-last c.args.client c.in_ok-take_next.field-0 (at_of c.args.fleet.now c.args.out.now) (at_of c.loop.fleet c.loop.out) (at_of c.take_next.new.fleet c.take_next.new.out) c.loop.invariant.closing c.in_ok-take_next.ensures.ok c.if-branch.false
