use Rattle.std.proofs.Common.{ℕ, Option, MatchOption, subst}
use Rattle.std.proofs.lemmas.Result.{IfOk-from_err}
use Rattle.fleet_grid.specs.declared.dir.Dir.TheVariants.{East}
use Rattle.fleet_bridge.specs.inside.First.{HasNoneBeside, IsBeside}
use Rattle.fleet_bridge.proofs.Rounds.{from_east}
use Rattle.fleet_bridge.proofs.search.searched_from.Goals as goal

pub returns-in_err-east : goal.returns-in_err-east
returns-in_err-east g c = IfOk-from_err c.from_residual.result _ c.from_residual.ensures.0

pub returns-in-Some : goal.returns-in-Some
returns-in-Some g c =
    let m = c.args.grid.now in
    from_east m c.args.cell c.in-Some.east (subst (λ (o : Option ℕ). MatchOption o (HasNoneBeside m c.args.cell East) (IsBeside m c.args.cell East)) c.in-Some.is c.in_ok-east.ensures)

pub returns-in_err-south : goal.returns-in_err-south
returns-in_err-south g c = IfOk-from_err c.from_residual-in_err-south.result _ c.from_residual-in_err-south.ensures.0
