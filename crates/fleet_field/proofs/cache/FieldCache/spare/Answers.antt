use Rattle.std.proofs.Common.{◌-◌, List, ap, sym, subst}
use Rattle.std.specs.List.{All, Contains}
use Rattle.std.proofs.lemmas.List.Elements.{All-contains_itself}
use Rattle.fleet_field.specs.Field.{Aim}
use Rattle.fleet_field.specs.FieldCache.{FieldCache}
use Rattle.fleet_field.proofs.Cached.{among_removed}
use Rattle.fleet_field.proofs.cache.FieldCache.spare.Goals as goal

pub returns-then-len-eq0 : goal.returns-then-len-eq0
returns-then-len-eq0 g c = All-contains_itself c.args.self.now.kept

pub returns : goal.returns
returns g c =
    subst (λ (xs : List Aim). All (Contains xs) c.remove.new.self.items) (ap (λ (s : FieldCache). s.kept) c.self.view_is)
    (subst (λ (xs : List Aim). All (Contains c.self.inside.kept.items) xs) (sym c.remove.ensures.items) (among_removed (c.len-len.result - 1) c.self.inside.kept.items))
