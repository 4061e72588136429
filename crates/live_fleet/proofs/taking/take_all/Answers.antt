-- The orders of one client after another were judged.
use Rattle.std.proofs.Common.{◌≡◌, ◌∙◌, ◌≤◌, ◌<◌, ◌+◌, ◌-◌, ◌++◌, ℕ, Bool, List, [], length, refl, sym, subst, arith}
use Rattle.std.specs.List.{range_with_len}
use Rattle.live_fleet.specs.Act.{Act}
use Rattle.live_fleet.specs.Went.{At, at_of}
use Rattle.live_fleet.specs.Taking.{TakesOne}
use Rattle.live_fleet.specs.Went.{Each}
use Rattle.live_fleet.proofs.Parts.{leaves-zero, loop-done, loop-next}
use Rattle.live_fleet.proofs.taking.take_all.Goals as goal

pub loop-client-init : goal.loop-client-init
loop-client-init g c = record { leaves = ([], leaves-zero (TakesOne c.limits.result.now.lane) c.args.clients (at_of c.args.fleet.now c.args.out.now)); count = refl }

pub loop-client-preserved : goal.loop-client-preserved
loop-client-preserved g c = record {
  leaves = loop-next (TakesOne c.limits.result.now.lane) (range_with_len 0 c.args.clients) c.loop-client.client c.args.clients (at_of c.args.fleet.now c.args.out.now)
      (at_of c.loop-client.fleet c.loop-client.out) (at_of c.take_client.new.fleet c.take_client.new.out) c.loop-client-test.true c.loop-client.invariant.leaves c.in_ok-take_client.ensures.ok;
  count = c.take_client.ensures.count ∙ c.loop-client.invariant.count;
}

pub returns-clause-ok : goal.returns-clause-ok
returns-clause-ok g c =
    let (acts, each) = loop-done (TakesOne c.limits.result.now.lane) (range_with_len 0 c.args.clients) c.loop-client.client c.args.clients (at_of c.args.fleet.now c.args.out.now)
    (at_of c.loop-client.fleet c.loop-client.out) (omega (arith, c.loop-client-test.false)) c.loop-client.invariant.leaves in
    (acts, subst (λ l. Each (TakesOne l.lane) (range_with_len 0 c.args.clients) (at_of c.args.fleet.now c.args.out.now) acts (at_of c.loop-client.fleet c.loop-client.out)) c.limits.ensures each)
