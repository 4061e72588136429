-- One more client's empty lists.
use Rattle.std.proofs.Common.{arith, ◌≡◌, ◌∙◌, ◌+◌, ap, replicate}
use Rattle.std.proofs.lemmas.List.{replicate_more}
use Rattle.fleet_world.specs.Talk.{none_waiting}
use Rattle.fleet_world.proofs.session.nothing_waits.Goals as goal

pub push_reserved-requires : goal.push_reserved-requires
push_reserved-requires g c = omega (arith, c.loop-i.invariant.len, c.loop-i.invariant.room, c.loop-i-test.true)

pub loop-i-preserved : goal.loop-i-preserved
loop-i-preserved g c = record {
  items = rw (c.push_reserved.ensures.items, c.loop-i.invariant.items, c.new.ensures) (replicate_more c.loop-i._i none_waiting);
  len = c.push_reserved.ensures.len ∙ ap (λ n. n + 1) c.loop-i.invariant.len;
  room = rw c.push_reserved.ensures.capacity c.loop-i.invariant.room;
}

pub returns-clause-items : goal.returns-clause-items
returns-clause-items g c =
    let all : c.loop-i._i ≡ c.args.count = omega (arith, c.loop-i.auto._i-end, c.loop-i-test.false) in
    c.loop-i.invariant.items ∙ ap (λ n. replicate n none_waiting) all

pub returns-clause-len : goal.returns-clause-len
returns-clause-len g c = omega (arith, c.loop-i.invariant.len, c.loop-i.auto._i-end, c.loop-i-test.false)
