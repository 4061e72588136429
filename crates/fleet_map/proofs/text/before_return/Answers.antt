-- The line before its carriage return.
use Rattle.std.proofs.Common.{◌≡◌, ◌-◌, eqb, true, length, get_or, refl, eq-eqb}
use Rattle.fleet_map.proofs.text.before_return.Goals as goal

pub returns-then-line-eq13-clause-value : goal.returns-then-line-eq13-clause-value
returns-then-line-eq13-clause-value c =
    let line = c.args.line.now in
    let last = get_or line (length line - 1) 0 in
    let e : eqb last 13 ≡ true = eq-eqb last 13 c.if-line-eq13.true in
    rw e refl
