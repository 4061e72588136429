use Rattle.std.proofs.Common.{ℕ, Option, MatchOption, subst}
use Rattle.std.proofs.lemmas.Result.{IfOk-from_err}
use Rattle.fleet_bridge.specs.inside.First.{HasNone, IsFirstFrom}
use Rattle.fleet_bridge.proofs.Rounds.{first_is}
use Rattle.fleet_bridge.proofs.first.first_bridge.Goals as goal

pub returns-in_default : goal.returns-in_default
returns-in_default g c = c.in_default.ensures

pub returns-in_err-upper : goal.returns-in_err-upper
returns-in_err-upper g c = IfOk-from_err c.from_residual.result _ c.from_residual.ensures.0

pub returns-in-Some-2 : goal.returns-in-Some-2
returns-in-Some-2 g c =
    let m = c.args.grid.now in
    let cell = c.in-Some.cell in
    first_is m cell c.in-Some-2.upper c.in-Some.ensures (subst (λ (o : Option ℕ). MatchOption o (HasNone m cell) (IsFirstFrom m cell)) c.in-Some-2.is c.in_ok-upper.ensures)

pub returns : goal.returns
returns g c = c.first_by_tree.ensures
