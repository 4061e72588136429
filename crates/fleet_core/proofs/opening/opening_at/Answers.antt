use Rattle.std.proofs.Common.{◌∙◌, List, length, refl, sym, ap, subst}
use Rattle.std.proofs.lemmas.Result.{IfOk-from_err}
use Rattle.fleet_hooks.specs.declared.law.StampLaw.{StampLaw}
use Rattle.fleet_core.specs.Hooks.{HaveCount, AreOrderly}
use Rattle.fleet_core.proofs.opening.opening_at.Goals as goal

pub robots_at-requires : goal.robots_at-requires
robots_at-requires g c =
    let own = subst (HaveCount (length c.args.starts.now)) (sym c.laws.view_is) c.requires in
    record {
      arrivals = ap (λ (laws : List StampLaw). length laws) c.as_slice-arrivals.ensures.value ∙ own.arrivals;
      farewells = ap (λ (laws : List StampLaw). length laws) c.as_slice-farewells.ensures.value ∙ own.farewells;
    }

pub returns-in_err-robots : goal.returns-in_err-robots
returns-in_err-robots g c = record {
  ok = IfOk-from_err c.from_residual.result _ c.from_residual.ensures.0;
  orderly = IfOk-from_err c.from_residual.result _ c.from_residual.ensures.0;
}

pub returns-in_err-clients : goal.returns-in_err-clients
returns-in_err-clients g c = record {
  ok = IfOk-from_err c.from_residual-in_err-clients.result _ c.from_residual-in_err-clients.ensures.0;
  orderly = IfOk-from_err c.from_residual-in_err-clients.result _ c.from_residual-in_err-clients.ensures.0;
}

pub returns : goal.returns
returns g c = record {
  ok = rw (c.from_vec.ensures, c.from_vec-2.ensures, c.in_ok-clients.ensures, c.in_ok-robots.ensures, c.as_slice-arrivals.ensures.value, c.as_slice-farewells.ensures.value, ← c.laws.view_is) refl;
  orderly = subst AreOrderly c.laws.view_is c.laws.invariant;
}
