use Rattle.std.proofs.Common.{◌∙◌, ◌+◌, ℕ, List, ap, sym, subst, arith}
use Rattle.std.specs.Prelude.{All}
use Rattle.std.proofs.lemmas.List.Elements.{All-nil}
use Rattle.fleet_hooks.specs.Law.{IsStampLaw}
use Rattle.fleet_hooks.specs.declared.law.StampLaw.{StampLaw}
use Rattle.fleet_core.proofs.Matches.{word_more, words_all, all_more}
use Rattle.fleet_core.proofs.hook_laws.arrival_laws.Goals as goal

pub push_reserved-requires : goal.push_reserved-requires
push_reserved-requires g c = omega (arith, c.loop-hook.invariant.len, c.loop-hook.invariant.room, c.loop-hook-test.true)

pub loop-hook-init : goal.loop-hook-init
loop-hook-init g c = record { laws = c.in_ok-laws.ensures.items; orderly = subst (λ (xs : List StampLaw). All IsStampLaw xs) (sym c.in_ok-laws.ensures.items) (All-nil IsStampLaw); len = c.in_ok-laws.ensures.len; room = c.in_ok-laws.ensures.capacity }

pub loop-hook-preserved : goal.loop-hook-preserved
loop-hook-preserved g c = record {
  laws = word_more (λ h. h.law) c.args.hooks.now c.loop-hook.hook-index c.hook-item.result c.law.result c.loop-hook.laws.items c.push_reserved.new.self.items
      c.loop-hook-test.true c.hook-item.is c.law.ensures.value c.loop-hook.invariant.laws c.push_reserved.ensures.items;
  orderly = all_more IsStampLaw c.loop-hook.laws.items c.push_reserved.new.self.items c.law.result c.loop-hook.invariant.orderly c.law.ensures.fits c.push_reserved.ensures.items;
  len = c.push_reserved.ensures.len ∙ ap (λ (n : ℕ). n + 1) c.loop-hook.invariant.len;
  room = omega (arith, c.push_reserved.ensures.capacity, c.loop-hook.invariant.room);
}

pub returns-clause-laws : goal.returns-clause-laws
returns-clause-laws g c = words_all (λ h. h.law) c.args.hooks.now c.loop-hook.hook-index c.loop-hook.laws.items c.loop-hook-test.false c.loop-hook.invariant.laws

pub returns-clause-orderly : goal.returns-clause-orderly
returns-clause-orderly g c = c.loop-hook.invariant.orderly
