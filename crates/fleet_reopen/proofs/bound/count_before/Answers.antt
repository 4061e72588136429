use Rattle.std.proofs.Common.{◌∙◌, ◌+◌, ap, arith, sym}
use Rattle.std.specs.Prelude.{None, slice_index_or}
use Rattle.std.proofs.lemmas.List.Sums.{count_by-le-length}
use Rattle.std.proofs.lemmas.List.FromFn.{length-range_with_len}
use Rattle.std.specs.List.{range_with_len}
use Rattle.fleet_bound.specs.Waiting.{comes_before}
use Rattle.fleet_reopen.proofs.Rooms.{count-yes, count-no}
use Rattle.fleet_reopen.proofs.bound.count_before.Goals as goal
use Rattle.fleet_reopen.proofs.bound.count_before.Goals.{then-comes_before, else-comes_before}

pub overflow_add-count : goal.overflow_add-count
overflow_add-count c =
    omega (
      arith,
      c.requires,
      c.loop-q-test.true,
      c.loop-q.invariant,
      count_by-le-length (λ q. comes_before (slice_index_or c.args.waits.now q None) q c.args.wait c.args.r) (range_with_len 0 c.loop-q.q),
      length-range_with_len 0 c.loop-q.q,
    )

pub loop-q-preserved : goal.loop-q-preserved
loop-q-preserved c = elim c.if-comes_before.branch [
  | then-comes_before w ↦ w.count-is ∙ ap (λ n. n + 1) c.loop-q.invariant
      ∙ count-yes (λ q. comes_before (slice_index_or c.args.waits.now q None) q c.args.wait c.args.r) c.loop-q.q (sym c.comes_before.ensures ∙ w.if-comes_before.true)
  | else-comes_before w ↦ w.count-is ∙ c.loop-q.invariant
      ∙ count-no (λ q. comes_before (slice_index_or c.args.waits.now q None) q c.args.wait c.args.r) c.loop-q.q (sym c.comes_before.ensures ∙ w.if-comes_before.false)
]
