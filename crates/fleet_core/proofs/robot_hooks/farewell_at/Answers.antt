use Rattle.std.proofs.Common.{Some, None, ap, sym, ◌∙◌}
use Rattle.std.specs.Option.{option_map}
use Rattle.fleet_core.proofs.Matches.{word_there}
use Rattle.fleet_core.proofs.robot_hooks.farewell_at.Goals as goal

pub returns-in-Some : goal.returns-in-Some
returns-in-Some g c =
    word_there (λ f. option_map (λ x. x.law) f) c.args.farewells.now c.args.r c.index-farewells-r.result (Some c.law.result) c.requires
    (ap Some c.law.ensures.value ∙ ap (λ f. option_map (λ x. x.law) f) (sym c.in-Some.is ∙ c.index-farewells-r.is))

pub returns-in-None : goal.returns-in-None
returns-in-None g c =
    word_there (λ f. option_map (λ x. x.law) f) c.args.farewells.now c.args.r c.index-farewells-r.result None c.requires
    (ap (λ f. option_map (λ x. x.law) f) (sym c.in-None.is ∙ c.index-farewells-r.is))
