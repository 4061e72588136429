use Rattle.std.proofs.Common.{◌≡◌, ◌∙◌, length, refl, subst, arith}
use Rattle.fleet_office.specs.Hall.{TakesFirst}
use Rattle.fleet_office.proofs.TurnSteps.{first-taken, held-few}
use Rattle.fleet_office.proofs.hall_state.HallState.take_all.Goals as goal

pub loop-client-init : goal.loop-client-init
loop-client-init g c = ((refl, refl, refl), refl, omega arith, omega arith)

pub take_some-requires : goal.take_some-requires
take_some-requires g c = omega (arith, c.loop-client-test.true, c.clients-client-end.ensures.count, c.loop-client.invariant.1)

pub returns-in-Err : goal.returns-in-Err
returns-in-Err g c =
    let i = c.loop-client.invariant in
    let s = c.in-Err in
    record {
      ok = tt;
      err = record {
        client = c.loop-client.client;
        known = omega (arith, c.loop-client-test.true, c.clients-client-end.ensures.count);
        mid = c.loop-client.self;
        before = c.loop-client.taken;
        more = s.more;
        takes = i.0;
        last = s.ensures.err;
        count = refl;
      };
      as_many = s.ensures.as_many ∙ i.1;
    }

pub returns : goal.returns
returns g c =
    let i = c.loop-client.invariant in
    let all : c.loop-client.client ≡ length c.args.self.now.ends = omega (arith, c.loop-client-test.false, c.loop-client.auto.client-end, c.clients-client-end.ensures.count) in
    record {
      ok = subst (λ n. TakesFirst n c.args.self.now c.loop-client.taken c.loop-client.held c.loop-client.self) all i.0;
      err = tt;
      as_many = i.1;
    }

pub loop-client-preserved : goal.loop-client-preserved
loop-client-preserved g c =
    let i = c.loop-client.invariant in
    let s = c.in-Ok in (
      first-taken c.loop-client.client c.args.self.now c.loop-client.self c.take_some.new.self c.loop-client.taken c.loop-client.held s.more c.from-held.result s.full c.from-held.ensures i.0 s.ensures.ok,
      s.ensures.as_many ∙ i.1,
      omega (arith, i.2, s.ensures.small),
      omega (arith, i.3, c.from-held.ensures, held-few s.full),
    )
