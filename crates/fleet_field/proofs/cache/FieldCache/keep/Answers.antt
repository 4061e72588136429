-- What is kept where fewer bytes are there.
use Rattle.std.proofs.Common.{ℕ, List, take, ap, ◌∙◌}
use Rattle.fleet_field.specs.Field.{Aim}
use Rattle.fleet_field.specs.FieldCache.{FieldCache, places}
use Rattle.fleet_field.proofs.Cached.{cache_of}
use Rattle.fleet_field.proofs.cache.FieldCache.keep.Goals as goal

pub returns : goal.returns
returns g c =
    let kept = ap (λ (s : FieldCache). s.kept) c.self.view_is in
    let left = c.places-left.ensures ∙ ap (places c.args.bytes) c.cells.ensures in
    ap (λ (xs : List Aim). cache_of xs c.args.bytes) (c.truncate.ensures.items ∙ (ap (take c.places-left.result) kept ∙ ap (λ (n : ℕ). take n c.args.self.now.kept) left))
