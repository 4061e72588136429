-- The farewells that are due, beside those that are shown.
use Rattle.std.proofs.Common.{◌≡◌, ◌∙◌, ℕ, List, ap, map, rules, subst}
use Rattle.fleet_history.specs.declared.history.Bye.{Bye}
use Rattle.fleet_explain.specs.Details.{IsFarewellDetail}
use Rattle.fleet_explain.proofs.farewell.farewell_detail.Goals as goal

pub returns : goal.returns
returns c = λ arrived shown.
    let same : c.deref.result.now ≡ c.in_ok-due.due.leaving.items = search rules in
    subst (λ (p : List ℕ). IsFarewellDetail p (map (λ (b : Bye). b.robot) c.args.shown.now) c.tick_farewells.result)
    (ap (map (λ (b : Bye). b.robot)) same ∙ c.in_ok-due.ensures.leaving arrived c.args.shown.now shown) c.tick_farewells.ensures
