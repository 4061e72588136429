use Rattle.std.proofs.Common.{◌≡◌, ℕ, ◌*◌, subst, arith}
use Rattle.fleet_field.specs.inside.Labels.{ArePointed}
use Rattle.fleet_field.proofs.bits.point_rows.Goals as goal

pub loop-row-init : goal.loop-row-init
loop-row-init c cell below = absurd (omega (arith, below))

pub point_row-requires-clause-done : goal.point_row-requires-clause-done
point_row-requires-clause-done c = c.loop-row.invariant

pub loop-row-preserved : goal.loop-row-preserved
loop-row-preserved c = c.point_row.ensures.each

pub returns-clause-each : goal.returns-clause-each
returns-clause-each c =
    let e : c.loop-row.row ≡ c.args.height = omega (arith, c.loop-row-test.false, c.loop-row.auto.row-end) in
    subst (λ (n : ℕ). ArePointed c.args.width c.args.stride c.args.labels.now c.args.ways.now (n * c.args.width) c.loop-row.bytes) e c.loop-row.invariant
