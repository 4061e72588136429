use Rattle.std.proofs.Common.{◌≡◌, ℕ, subst, ◌∙◌, arith}
use Rattle.fleet_field.specs.inside.Laid.{AreLaid}
use Rattle.fleet_field.proofs.Laid.{none_laid, rows_laid, all_laid}
use Rattle.fleet_field.proofs.bits.lay_rows.Goals as goal

pub loop-row-init : goal.loop-row-init
loop-row-init c = none_laid c.args.width c.args.stride c.args.ways.now c.args.labels.now c.requires.shut

pub loop-row-preserved : goal.loop-row-preserved
loop-row-preserved c = rows_laid c.args.width c.args.stride c.loop-row.row c.args.ways.now c.loop-row.labels c.lay_row.new.labels c.requires.laid_out.wide c.requires.laid_out.apart c.loop-row.invariant c.lay_row.ensures

pub returns : goal.returns
returns c =
    let e : c.loop-row.row ≡ c.args.height = omega (arith, c.loop-row-test.false, c.loop-row.auto.row-end) in
    all_laid c.args.height c.args.width c.args.stride c.args.ways.now c.loop-row.labels (c.loop-row.auto.labels ∙ c.requires.laid_out.size)
    (subst (λ (q : ℕ). AreLaid q c.args.width c.args.stride c.args.ways.now c.loop-row.labels) e c.loop-row.invariant)
