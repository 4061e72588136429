-- One client after another.
use Rattle.std.proofs.Common.{◌≡◌, ◌∙◌, ◌≤◌, ◌<◌, ◌-◌, List, [], refl, arith}
use Rattle.std.specs.List.{range_with_len}
use Rattle.live_fleet.specs.Ending.{TakesLeft}
use Rattle.live_fleet.specs.Went.{At, at_of}
use Rattle.live_fleet.proofs.Parts.{leaves-zero, loop-done, loop-next}
use Rattle.live_fleet.proofs.ending.take_all_left.Goals as goal

pub loop-client-init : goal.loop-client-init
loop-client-init g c = record { leaves = ([], leaves-zero TakesLeft c.args.clients (at_of c.args.fleet.now c.args.out.now)); count = refl }

pub loop-client-preserved : goal.loop-client-preserved
loop-client-preserved g c = record {
  leaves = loop-next TakesLeft (range_with_len 0 c.args.clients) c.loop-client.client c.args.clients (at_of c.args.fleet.now c.args.out.now)
      (at_of c.loop-client.fleet c.loop-client.out) (at_of c.take_left.new.fleet c.take_left.new.out) c.loop-client-test.true c.loop-client.invariant.leaves c.in_ok-take_left.ensures.ok;
  count = c.take_left.ensures.count ∙ c.loop-client.invariant.count;
}

pub returns-clause-ok : goal.returns-clause-ok
returns-clause-ok g c =
    loop-done TakesLeft (range_with_len 0 c.args.clients) c.loop-client.client c.args.clients (at_of c.args.fleet.now c.args.out.now) (at_of c.loop-client.fleet c.loop-client.out)
    (omega (arith, c.loop-client-test.false)) c.loop-client.invariant.leaves
