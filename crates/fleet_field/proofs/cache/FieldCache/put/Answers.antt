use Rattle.std.proofs.Common.{List, ◌∷◌, take, sym, ap, subst, ◌∙◌}
use Rattle.std.specs.List.{All, Contains}
use Rattle.fleet_field.specs.Field.{Aim}
use Rattle.fleet_field.specs.FieldCache.{FieldCache}
use Rattle.fleet_field.proofs.Cached.{among_put}
use Rattle.fleet_field.proofs.cache.FieldCache.put.Goals as goal

pub returns-then-places-gt0 : goal.returns-then-places-gt0
returns-then-places-gt0 g c =
    let left = c.saturating_sub.result in
    let items = c.push_front_reserved.ensures.items ∙ ap (λ (xs : List Aim). c.args.field ∷ xs) (c.truncate.ensures.items ∙ ap (take left) (ap (λ (s : FieldCache). s.kept) c.self.view_is)) in
    subst (λ (xs : List Aim). All (Contains (c.args.field ∷ c.args.self.now.kept)) xs) (sym items) (among_put c.args.field left c.args.self.now.kept)
