use Rattle.std.proofs.Common.{ℕ, ◌≤◌, length, Option, MatchOption, below_more, subst, ap, arith}
use Rattle.fleet_grid.specs.Floor.{Floor, HasForm}
use Rattle.fleet_bridge.specs.inside.First.{HasNone, IsFirstFrom}
use Rattle.fleet_bridge.proofs.Rounds.{none_is, none_left, first_is}
use Rattle.std.proofs.lemmas.Result.{IfOk-from_err}
use Rattle.fleet_bridge.proofs.first.first_by.Goals as goal

pub loop-cell-preserved : goal.loop-cell-preserved
loop-cell-preserved g c =
    let m = c.args.sides.now in
    below_more (HasNone m) c.loop-cell.cell c.loop-cell.invariant
    (subst (λ (o : Option ℕ). MatchOption o (HasNone m c.loop-cell.cell) (IsFirstFrom m c.loop-cell.cell)) (none_left c.in_ok-upper.field-0 c.in_default.not-Some) c.in_ok-upper.ensures)

pub returns : goal.returns
returns g c =
    let m = c.args.sides.now in
    let le : length m.letters ≤ c.loop-cell.cell = omega (arith, ap (λ (f : Floor). length f.letters) c.grid.ensures, c.cell_count-count.ensures.value, c.loop-cell-test.false) in
    none_is m c.loop-cell.cell (subst HasForm c.grid.ensures c.cell_count-count.ensures.form) le c.loop-cell.invariant

pub loop-cell-init : goal.loop-cell-init
loop-cell-init g c = λ cell less. absurd (omega (arith, less))

pub bridge_from-requires : goal.bridge_from-requires
bridge_from-requires g c = record { tree = c.requires }

pub returns-in_err-upper : goal.returns-in_err-upper
returns-in_err-upper g c = IfOk-from_err c.from_residual.result _ c.from_residual.ensures.0

pub returns-in-Some : goal.returns-in-Some
returns-in-Some g c =
    let m = c.args.sides.now in
    let cell = c.loop-cell.cell in
    first_is m cell c.in-Some.upper c.loop-cell.invariant (subst (λ (o : Option ℕ). MatchOption o (HasNone m cell) (IsFirstFrom m cell)) c.in-Some.is c.in_ok-upper.ensures)
