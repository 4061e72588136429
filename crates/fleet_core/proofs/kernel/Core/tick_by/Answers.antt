use Rattle.std.proofs.Common.{◌∙◌, map, refl, ap, sym, subst}
use Rattle.fleet_core.specs.Hooks.{AreArrivals}
use Rattle.fleet_core.proofs.kernel.Core.tick_by.Goals as goal

pub tick-requires-clause-ties : goal.tick-requires-clause-ties
tick-requires-clause-ties g c = ap (map (λ h. h.law)) c.as_slice.ensures.value ∙ c.if-not-has_all.ensures.ties refl

pub tick-requires-clause-arrivals : goal.tick-requires-clause-arrivals
tick-requires-clause-arrivals g c = subst (λ hooks. AreArrivals c.args.self.now.history (map (λ h. h.law) hooks)) (sym c.as_slice-2.ensures.value) (c.if-not-has_all.ensures.arrivals refl)

pub tick-requires-clause-farewells : goal.tick-requires-clause-farewells
tick-requires-clause-farewells g c = c.if-not-has_all.ensures.farewells refl

pub returns-then-not-has_all : goal.returns-then-not-has_all
returns-then-not-has_all g c = c.no_tick.ensures

pub returns : goal.returns
returns g c = record {
  clock_spent = c.tick.ensures.clock_spent;
  chapter_full = c.tick.ensures.chapter_full;
  early = c.tick.ensures.early;
  entries = c.tick.ensures.entries;
  ok = c.tick.ensures.ok;
  err = c.tick.ensures.err;
}
