use Rattle.std.proofs.Common.{◌≡◌, ℕ, ◌+◌, ◌*◌, ◌<◌, length, subst, arith}
use Rattle.fleet_field.specs.inside.Labels.{ArePointed}
use Rattle.fleet_field.proofs.Pointed.{pointed_by, pointed_more}
use Rattle.fleet_field.proofs.bits.point_row.Goals as goal

pub loop-column-init : goal.loop-column-init
loop-column-init c cell below = c.requires.done cell (omega (arith, below))

pub loop-column-preserved : goal.loop-column-preserved
loop-column-preserved c =
    let row = c.args.row in
    let column = c.loop-column.column in
    let more : (row + 1) * c.args.width ≡ row * c.args.width + c.args.width = omega arith in
    let inside : row * c.args.width + column < length c.loop-column.bytes = omega (arith, c.loop-column-test.true, c.requires.inside, c.requires.room, c.loop-column.auto.bytes, more) in
    pointed_more c.args.width c.args.stride row column c.pointing.result c.args.labels.now c.args.ways.now c.loop-column.bytes c.loop-column-test.true inside c.loop-column.invariant
    (pointed_by c.args.stride _ _ c.pointing.result c.args.labels.now c.pointing.ensures.exits c.pointing.ensures.north c.pointing.ensures.east c.pointing.ensures.south c.pointing.ensures.west)

pub returns-clause-each : goal.returns-clause-each
returns-clause-each c =
    let e : c.args.row * c.args.width + c.loop-column.column ≡ (c.args.row + 1) * c.args.width = omega (arith, c.loop-column-test.false, c.loop-column.auto.column-end) in
    subst (λ (n : ℕ). ArePointed c.args.width c.args.stride c.args.labels.now c.args.ways.now n c.loop-column.bytes) e c.loop-column.invariant
