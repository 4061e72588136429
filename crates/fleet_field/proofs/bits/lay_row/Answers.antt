use Rattle.std.proofs.Common.{◌≡◌, ℕ, ◌+◌, ◌<◌, length, slice_index, subst, ◌∙◌, arith}
use Rattle.fleet_field.specs.inside.Laid.{unseen_label, HasLabels}
use Rattle.fleet_field.proofs.Laid.{row_none, row_more, label_none, label_some}
use Rattle.fleet_field.proofs.bits.lay_row.Goals.{then-ways-first-eq0, else-ways-first-eq0}
use Rattle.fleet_field.proofs.bits.lay_row.Goals as goal

pub loop-column-init : goal.loop-column-init
loop-column-init c = row_none c.args.ways.now c.args.start c.args.first c.args.labels.now

pub loop-column-preserved : goal.loop-column-preserved
loop-column-preserved c =
    let column = c.loop-column.column in
    let inside : c.args.start + column < length c.loop-column.labels = omega (arith, c.loop-column-test.true, c.requires.room, c.loop-column.auto.labels) in
    let is : c.if-ways-first-eq0.labels ≡ unseen_label (slice_index c.args.ways.now (c.args.first + column)) = elim c.if-ways-first-eq0.branch [
      | then-ways-first-eq0 w ↦ w.labels-is ∙ label_none _ w.if-ways-first-eq0.true
      | else-ways-first-eq0 w ↦ w.labels-is ∙ label_some _ w.if-ways-first-eq0.false
    ] in
    row_more c.args.ways.now c.args.start c.args.first column c.args.labels.now c.loop-column.labels _ c.loop-column.invariant inside is

pub returns : goal.returns
returns c =
    let e : c.loop-column.column ≡ c.args.width = omega (arith, c.loop-column-test.false, c.loop-column.auto.column-end) in
    subst (λ (n : ℕ). HasLabels c.args.ways.now c.args.start c.args.first n c.args.labels.now c.loop-column.labels) e c.loop-column.invariant
