use Rattle.std.proofs.Common.{◌∙◌, ap, refl}
use Rattle.std.proofs.lemmas.Result.{IfOk-from_err}
use Rattle.fleet_core.specs.Hooks.{HookLaws, laws_of}
use Rattle.fleet_core.specs.Resuming.{resumed_world}
use Rattle.fleet_core.proofs.OpeningFacts.{some_laws}
use Rattle.fleet_core.proofs.ResumingFacts.{arrivals-resumed, farewells-resumed}
use Rattle.fleet_core.proofs.world.World.resume.Goals as goal

pub returns-in_err-laws : goal.returns-in_err-laws
returns-in_err-laws g c = IfOk-from_err c.from_residual.result _ c.from_residual.ensures.0

pub returns-in_err-robots : goal.returns-in_err-robots
returns-in_err-robots g c = IfOk-from_err c.from_residual-in_err-robots.result _ c.from_residual-in_err-robots.ensures.0

pub returns-in_err-core : goal.returns-in_err-core
returns-in_err-core g c = IfOk-from_err c.from_residual-in_err-core.result _ c.from_residual-in_err-core.ensures.0

pub returns : goal.returns
returns g c = c.in_ok-core.ensures ∙ ap (λ (l : HookLaws). resumed_world c.args.grid c.args.number c.args.opening c.args.limits l) c.in_ok-laws.ensures.ok

pub invariant_of-result : goal.invariant_of-result
invariant_of-result g c =
    let resumed = c.in_ok-core.ensures ∙ ap (λ (l : HookLaws). resumed_world c.args.grid c.args.number c.args.opening c.args.limits l) c.in_ok-laws.ensures.ok in
    record {
      tie_laws = rw (resumed, c.in_ok-robots.ensures.ties) refl;
      arrival_laws = rw (resumed, c.in_ok-robots.ensures.arrivals) (arrivals-resumed c.args.opening (laws_of c.args.hooks) c.requires.hooks);
      spare = rw (resumed, c.in_ok-robots.ensures.farewells, ← some_laws (λ x. x.law) c.args.hooks.farewells.items) (farewells-resumed c.args.opening (laws_of c.args.hooks) c.requires.hooks);
    }
