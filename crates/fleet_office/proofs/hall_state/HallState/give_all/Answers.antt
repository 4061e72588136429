use Rattle.std.proofs.Common.{◌≡◌, ◌∙◌, length, refl, subst, arith}
use Rattle.fleet_office.specs.Hall.{GivesFrom}
use Rattle.fleet_office.proofs.Counted.{one-given, one-length, from-more}
use Rattle.fleet_office.proofs.hall_state.HallState.give_all.Goals as goal

pub overflow_add-count : goal.overflow_add-count
overflow_add-count g c =
    let i = c.loop-client.invariant in
    let o = c.give_one-given in
    omega (arith, i.2, c.is_countable.ensures, one-given c.loop-client.self o.new.self c.loop-client.client o.result o.ensures)

pub loop-client-preserved : goal.loop-client-preserved
loop-client-preserved g c =
    let i = c.loop-client.invariant in
    let o = c.give_one-given in (
      from-more c.loop-client.client c.args.self.now c.loop-client.self o.new.self c.loop-client.count o.result i.0 o.ensures,
      one-length c.loop-client.self o.new.self c.loop-client.client o.result o.ensures ∙ i.1,
      omega (arith, i.2, one-given c.loop-client.self o.new.self c.loop-client.client o.result o.ensures),
    )

pub loop-client-init : goal.loop-client-init
loop-client-init g c = ((refl, refl), refl, omega arith)

pub give_one-given-requires : goal.give_one-given-requires
give_one-given-requires g c = omega (arith, c.loop-client-test.true, c.clients-client-end.ensures.count, c.loop-client.invariant.1)

pub returns : goal.returns
returns g c =
    let i = c.loop-client.invariant in
    let all : c.loop-client.client ≡ length c.args.self.now.ends = omega (arith, c.loop-client-test.false, c.loop-client.auto.client-end, c.clients-client-end.ensures.count) in
    record {
      all = subst (λ n. GivesFrom n c.args.self.now c.loop-client.count c.loop-client.self) all i.0;
      as_many = i.1;
      counted = i.2;
      few = c.is_countable-2.ensures;
    }
