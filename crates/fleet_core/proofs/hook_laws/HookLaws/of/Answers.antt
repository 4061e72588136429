use Rattle.std.proofs.Common.{◌≡◌, ◌∙◌, List, map, refl, ap, subst}
use Rattle.std.specs.Prelude.{All}
use Rattle.std.proofs.lemmas.Result.{IfOk-from_err}
use Rattle.fleet_hooks.specs.Law.{IsStampLaw}
use Rattle.fleet_hooks.specs.declared.law.StampLaw.{StampLaw}
use Rattle.fleet_hooks.specs.declared.law.TieLaw.{TieLaw}
use Rattle.fleet_core.specs.Hooks.{HookLaws}
use Rattle.fleet_core.proofs.hook_laws.HookLaws.of.Goals as goal

pub returns-in_err-tie_laws : goal.returns-in_err-tie_laws
returns-in_err-tie_laws g c = record {
  ok = IfOk-from_err c.from_residual.result _ c.from_residual.ensures.0;
  orderly = IfOk-from_err c.from_residual.result _ c.from_residual.ensures.0;
}

pub returns-in_err-arrival_laws : goal.returns-in_err-arrival_laws
returns-in_err-arrival_laws g c = record {
  ok = IfOk-from_err c.from_residual-in_err-arrival_laws.result _ c.from_residual-in_err-arrival_laws.ensures.0;
  orderly = IfOk-from_err c.from_residual-in_err-arrival_laws.result _ c.from_residual-in_err-arrival_laws.ensures.0;
}

pub returns-in_err-farewell_laws : goal.returns-in_err-farewell_laws
returns-in_err-farewell_laws g c = record {
  ok = IfOk-from_err c.from_residual-in_err-farewell_laws.result _ c.from_residual-in_err-farewell_laws.ensures.0;
  orderly = IfOk-from_err c.from_residual-in_err-farewell_laws.result _ c.from_residual-in_err-farewell_laws.ensures.0;
}

same_laws : {ties ties' : List TieLaw} {arrivals arrivals' farewells farewells' : List StampLaw} → ties ≡ ties' → arrivals ≡ arrivals' → farewells ≡ farewells' →
    ◌≡◌ {A = HookLaws} (record { ties = ties; arrivals = arrivals; farewells = farewells }) (record { ties = ties'; arrivals = arrivals'; farewells = farewells' })
same_laws t a f = rw (t, a, f) refl

pub returns : goal.returns
returns g c = record {
  ok = same_laws (c.in_ok-tie_laws.ensures ∙ ap (map (λ h. h.law)) c.as_slice.ensures.value) (c.in_ok-arrival_laws.ensures.laws ∙ ap (map (λ h. h.law)) c.as_slice-2.ensures.value)
      (c.in_ok-farewell_laws.ensures.laws ∙ ap (map (λ h. h.law)) c.as_slice-3.ensures.value);
  orderly = record {
    arrivals = subst (λ (xs : List StampLaw). All IsStampLaw xs) (c.in_ok-arrival_laws.ensures.laws ∙ ap (map (λ h. h.law)) c.as_slice-2.ensures.value) c.in_ok-arrival_laws.ensures.orderly;
    farewells = subst (λ (xs : List StampLaw). All IsStampLaw xs) (c.in_ok-farewell_laws.ensures.laws ∙ ap (map (λ h. h.law)) c.as_slice-3.ensures.value) c.in_ok-farewell_laws.ensures.orderly;
  };
}

pub invariant_of-result : goal.invariant_of-result
invariant_of-result g c = record { arrivals = c.in_ok-arrival_laws.ensures.orderly; farewells = c.in_ok-farewell_laws.ensures.orderly }
