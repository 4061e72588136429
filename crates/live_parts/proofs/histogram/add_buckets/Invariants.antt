-- The lines of the buckets so far, and those of the others.
use Rattle.std.proofs.Common.{◌≡◌, ◌++◌, drop, string_bytes}
use Rattle.std.specs.List.{flat_map}
use Rattle.live_parts.specs.Histogram.{bucket_line}
use Rattle.live_parts.proofs.histogram.add_buckets.Given as goal

abbrev pub invariant-loop-bucket : goal.invariant-loop-bucket
invariant-loop-bucket l = string_bytes l.text ++ flat_map (bucket_line l.name) (drop l.bucket-index l.buckets) ≡ string_bytes l.fn.text ++ flat_map (bucket_line l.name) l.buckets
