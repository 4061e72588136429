-- One bucket more is noted.
use Rattle.std.proofs.Common.{◌∙◌, ◌<◌, ap, arith, length}
use Rattle.std.specs.Prelude.{slice_index_or, slice_set}
use Rattle.std.proofs.lemmas.List.{get_or_default, length-set}
use Rattle.std.proofs.lemmas.List.Edits.{map_over_more}
use Rattle.live_parts.specs.declared.histogram.Bucket.{Bucket}
use Rattle.live_parts.specs.Histogram.{noted_in}
use Rattle.live_parts.proofs.histogram.Histogram.note.Goals as goal

pub loop-place-preserved : goal.loop-place-preserved
loop-place-preserved c =
    let micros = c.args.micros in
    let old = c.args.self.now.buckets in
    let now = c.loop-place.self.buckets in
    let at = c.loop-place.place in
    let none : Bucket = record { most = 0; count = 0 } in
    let x = slice_index_or now at none in
    let h = c.loop-place.invariant in
    let within : at < length now = omega (arith, h.count, c.loop-place-test.true) in
    record {
      count = length-set now at c.noted.result ∙ h.count;
      whole = h.whole;
      buckets = ap (λ (b : Bucket). slice_set now at b) c.noted.ensures ∙ map_over_more (noted_in micros) old now at x (omega (arith, h.whole, c.loop-place-test.true)) h.buckets (get_or_default now at none x within);
      number = h.number;
      sum = h.sum;
    }
