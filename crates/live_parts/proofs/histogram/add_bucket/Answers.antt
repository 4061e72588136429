-- The seconds of the bound.
use Rattle.std.proofs.Common.{◌∙◌, ℕ, List, ◌++◌, ap, codes, decimal, string_bytes}
use Rattle.live_parts.proofs.histogram.add_bucket.Goals as goal

pub returns : goal.returns
returns c =
    c.in_ok-write.ensures.bytes
    ∙ ap (λ (l : List ℕ). string_bytes c.args.text.now ++ (c.args.name.now ++ (codes "_bucket{le=\"" ++ (l ++ (codes "\"} " ++ (decimal c.args.bucket.count ++ codes "\n"))))))
    c.in_ok-bound.ensures
