-- What the search of the lists says of the robots.
use Rattle.std.proofs.Common.{ℕ, List, Option, map, sym, subst}
use Rattle.std.specs.Prelude.{MatchOption}
use Rattle.fleet_history.specs.declared.history.Bye.{Bye}
use Rattle.fleet_explain.specs.Only.{HasNoOther, IsOnlyIn}
use Rattle.fleet_explain.specs.Details.{same_robot}
use Rattle.fleet_explain.proofs.Farewells.{robots_read}
use Rattle.fleet_explain.proofs.farewell.first_only.Goals as goal

pub returns : goal.returns
returns c =
    let robots : List ℕ = map (λ (b : Bye). b.robot) c.args.byes.now in
    let others : List ℕ = map (λ (b : Bye). b.robot) c.args.others.now in
    subst (λ (o : Option ℕ). MatchOption o (HasNoOther same_robot robots others) (IsOnlyIn same_robot robots others)) (sym c.find_only.ensures) (robots_read robots others)
