-- The beginning, the buckets, and the end with its seconds.
use Rattle.std.proofs.Common.{◌∙◌, ℕ, List, ◌++◌, ap, codes, decimal, string_bytes}
use Rattle.std.specs.List.{flat_map}
use Rattle.live_parts.specs.Histogram.{begin_text, bucket_line, end_text}
use Rattle.live_parts.proofs.Figuring.{three}
use Rattle.live_parts.proofs.histogram.Histogram.add_to.Goals as goal

pub returns : goal.returns
returns c =
    let name = c.args.name.now in
    let h = c.args.self.now in
    three (begin_text name c.args.help.now) (flat_map (bucket_line name) h.buckets) (end_text name h) _ _ _ _
    c.in_ok-write.ensures.bytes c.in_ok-add_buckets.ensures
    (c.in_ok-write-2.ensures.bytes
    ∙ ap (λ (l : List ℕ). string_bytes c.add_buckets.new.text ++ (name ++ (codes "_bucket{le=\"+Inf\"} " ++ (decimal h.count ++ (codes "\n" ++ (name ++ (codes "_sum " ++ (l ++ (codes "\n" ++ (name ++ (codes "_count " ++ (decimal h.count ++ codes "\n"))))))))))))
    c.in_ok-seconds.ensures)
