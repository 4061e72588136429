-- One more text.
use Rattle.std.proofs.Common.{arith, ◌≡◌, ◌∙◌, ◌+◌, ℕ, List, [], Vec, Global, ap, replicate}
use Rattle.live_fleet.proofs.Texts.{empty-more}
use Rattle.live_fleet.proofs.outboxes.empty_texts.Goals as goal

pub push_reserved-requires : goal.push_reserved-requires
push_reserved-requires c = omega (arith, c.loop-i.invariant.len, c.loop-i.invariant.room, c.loop-i-test.true)

pub loop-i-preserved : goal.loop-i-preserved
loop-i-preserved c = record {
  items = empty-more (λ (t : Vec ℕ Global). t.items) c.loop-i.texts.items c.push_reserved.new.self.items c.new.result c.loop-i._i c.loop-i.invariant.items c.new.ensures.items c.push_reserved.ensures.items;
  len = c.push_reserved.ensures.len ∙ ap (λ n. n + 1) c.loop-i.invariant.len;
  room = rw c.push_reserved.ensures.capacity c.loop-i.invariant.room;
}

pub returns : goal.returns
returns c =
    let all : c.loop-i._i ≡ c.args.count = omega (arith, c.loop-i.auto._i-end, c.loop-i-test.false) in
    c.loop-i.invariant.items ∙ ap (λ (n : ℕ). replicate {A = List ℕ} n []) all
