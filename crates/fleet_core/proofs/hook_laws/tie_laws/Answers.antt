use Rattle.std.proofs.Common.{◌∙◌, ◌+◌, ℕ, ap, arith}
use Rattle.fleet_core.proofs.Matches.{word_more, words_all}
use Rattle.fleet_core.proofs.hook_laws.tie_laws.Goals as goal

pub push_reserved-requires : goal.push_reserved-requires
push_reserved-requires g c = omega (arith, c.loop-hook.invariant.len, c.loop-hook.invariant.room, c.loop-hook-test.true)

pub loop-hook-init : goal.loop-hook-init
loop-hook-init g c = record { laws = c.in_ok-laws.ensures.items; len = c.in_ok-laws.ensures.len; room = c.in_ok-laws.ensures.capacity }

pub loop-hook-preserved : goal.loop-hook-preserved
loop-hook-preserved g c = record {
  laws = word_more (λ h. h.law) c.args.hooks.now c.loop-hook.hook-index c.hook-item.result c.law.result c.loop-hook.laws.items c.push_reserved.new.self.items
      c.loop-hook-test.true c.hook-item.is c.law.ensures.value c.loop-hook.invariant.laws c.push_reserved.ensures.items;
  len = c.push_reserved.ensures.len ∙ ap (λ (n : ℕ). n + 1) c.loop-hook.invariant.len;
  room = omega (arith, c.push_reserved.ensures.capacity, c.loop-hook.invariant.room);
}

pub returns : goal.returns
returns g c = words_all (λ h. h.law) c.args.hooks.now c.loop-hook.hook-index c.loop-hook.laws.items c.loop-hook-test.false c.loop-hook.invariant.laws
