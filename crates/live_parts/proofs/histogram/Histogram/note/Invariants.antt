-- The buckets before this place are noted.
use Rattle.std.proofs.Common.{◌≡◌, ◌++◌, map, take, drop, length}
use Rattle.live_parts.specs.Histogram.{noted_in}
use Rattle.live_parts.proofs.histogram.Histogram.note.Given as goal

abbrev pub invariant-loop-place : goal.invariant-loop-place
invariant-loop-place l = record {
  count : length l.self.buckets ≡ 16;
  whole : length l.fn.self.buckets ≡ 16;
  buckets : l.self.buckets ≡ map (noted_in l.micros) (take l.place l.fn.self.buckets) ++ drop l.place l.fn.self.buckets;
  number : l.self.count ≡ l.fn.self.count;
  sum : l.self.micros ≡ l.fn.self.micros;
}
