-- The robots of the farewells.
use Rattle.std.proofs.Common.{◌∙◌, sym, ◌==◌}
use Rattle.fleet_history.specs.declared.history.Bye.{Bye}
use Rattle.fleet_explain.proofs.Only.{any_map}
use Rattle.fleet_explain.proofs.farewell.is_among.Goals as goal

pub returns : goal.returns
returns c = c.has_bye.ensures ∙ sym (any_map (λ (b : Bye). b.robot) (λ q. q == c.args.robot) c.args.byes.now)
