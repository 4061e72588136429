use Rattle.std.proofs.Common.{List, ap, subst}
use Rattle.std.specs.Prelude.{IfSome, IsSome}
use Rattle.std.specs.List.{All, Contains}
use Rattle.fleet_field.specs.Field.{Aim}
use Rattle.fleet_field.specs.FieldCache.{FieldCache, HasKept}
use Rattle.fleet_field.proofs.cache.FieldCache.take.Goals as goal

pub returns-clause-kept : goal.returns-clause-kept
returns-clause-kept g c =
    subst (λ (xs : List Aim). IfSome c.take_field.result (λ field. Contains xs field)) (ap (λ (s : FieldCache). s.kept) c.self.view_is) c.take_field.ensures.kept

pub returns-clause-found : goal.returns-clause-found
returns-clause-found g c =
    subst (λ (xs : List Aim). HasKept xs c.args.goal → IsSome c.take_field.result) (ap (λ (s : FieldCache). s.kept) c.self.view_is) c.take_field.ensures.found

pub returns-clause-others : goal.returns-clause-others
returns-clause-others g c =
    subst (λ (xs : List Aim). All (Contains xs) c.take_field.new.kept.items) (ap (λ (s : FieldCache). s.kept) c.self.view_is) c.take_field.ensures.others
