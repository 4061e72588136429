-- One notice after another was told.
use Rattle.std.proofs.Common.{◌≡◌, ◌∙◌, ◌≤◌, ◌<◌, ◌+◌, ◌-◌, ◌++◌, ℕ, Bool, List, [], length, refl, sym, subst, arith}
use Rattle.live_fleet.specs.Act.{Act}
use Rattle.live_fleet.specs.Went.{At, at_of}
use Rattle.live_fleet.specs.Telling.{TellsNext}
use Rattle.live_fleet.specs.declared.telling.Told.{Told}
use Rattle.live_fleet.proofs.Tells.{telling-all, telling-full, telling-many, telling-more, telling-none}
use Rattle.live_fleet.proofs.telling.tell_client.Goals as goal

pub loop-init : goal.loop-init
loop-init g c = record { telling = ([], telling-none c.args.to c.args.client (at_of c.args.fleet.now c.args.out.now)); count = refl }

pub loop-preserved : goal.loop-preserved
loop-preserved g c =
    let (acts, so) = c.loop.invariant.telling in
    let (more, one) = subst (λ (t : Told). (xs : List Act) × TellsNext c.args.to c.args.client t (at_of c.loop.fleet c.loop.out) xs (at_of c.tell_next.new.fleet c.tell_next.new.out)) c.in-One.is c.in_ok-tell_next.ensures.ok in
    record {
      telling = (acts ++ more, telling-more c.args.to c.args.client c.loop.counter (at_of c.args.fleet.now c.args.out.now) (at_of c.loop.fleet c.loop.out) (at_of c.tell_next.new.fleet c.tell_next.new.out) acts more so one);
      count = c.tell_next.ensures.count ∙ c.loop.invariant.count;
    }

pub returns-in-All-clause-ok : goal.returns-in-All-clause-ok
returns-in-All-clause-ok g c =
    let (acts, so) = c.loop.invariant.telling in
    let (more, last) = subst (λ (t : Told). (xs : List Act) × TellsNext c.args.to c.args.client t (at_of c.loop.fleet c.loop.out) xs (at_of c.tell_next.new.fleet c.tell_next.new.out)) c.in-All.is c.in_ok-tell_next.ensures.ok in
    telling-all c.args.to c.args.client c.loop.counter (at_of c.args.fleet.now c.args.out.now) (at_of c.loop.fleet c.loop.out) (at_of c.tell_next.new.fleet c.tell_next.new.out) acts more so last

pub returns-in-Full-clause-ok : goal.returns-in-Full-clause-ok
returns-in-Full-clause-ok g c =
    let (acts, so) = c.loop.invariant.telling in
    let (more, last) = subst (λ (t : Told). (xs : List Act) × TellsNext c.args.to c.args.client t (at_of c.loop.fleet c.loop.out) xs (at_of c.tell_next.new.fleet c.tell_next.new.out)) c.in-Full.is c.in_ok-tell_next.ensures.ok in
    telling-full c.args.to c.args.client c.loop.counter (at_of c.args.fleet.now c.args.out.now) (at_of c.loop.fleet c.loop.out) (at_of c.tell_next.new.fleet c.tell_next.new.out) acts more so last

pub returns-clause-ok : goal.returns-clause-ok
returns-clause-ok g c =
    let (acts, so) = c.loop.invariant.telling in
    telling-many c.args.to c.args.client c.loop.counter (at_of c.args.fleet.now c.args.out.now) (at_of c.loop.fleet c.loop.out) acts so (omega (arith, c.loop-test.false, c.loop.auto.counter-end))
