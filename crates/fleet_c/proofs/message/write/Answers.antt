use Rattle.std.proofs.Common.{◌∙◌, arith}
use Rattle.fleet_c.proofs.Written.{over-at, over-past}
use Rattle.fleet_c.proofs.message.write.Goals.{then-place-text, else-place-text}
use Rattle.fleet_c.proofs.message.write.Goals as goal

pub loop-index-preserved : goal.loop-index-preserved
loop-index-preserved c before told is at =
    let now = c.loop-index.invariant before told is at in
    elim c.if-place-text.branch [
      | then-place-text w ↦ w.text-is ∙ over-at before told c.args.bytes.now c.loop-index.text c.args.at c.loop-index.index at c.loop-index-test.true now
      | else-place-text w ↦ w.text-is ∙ over-past before told c.args.bytes.now c.loop-index.text c.args.at c.loop-index.index at c.loop-index-test.true now (omega (arith, w.if-place-text))
    ]
