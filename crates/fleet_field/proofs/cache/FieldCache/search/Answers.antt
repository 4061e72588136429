use Rattle.std.proofs.Common.{List, sym, subst}
use Rattle.std.specs.List.{All, Contains}
use Rattle.std.proofs.lemmas.List.Elements.{All-contains_itself}
use Rattle.fleet_field.specs.Field.{Aim}
use Rattle.fleet_field.specs.FieldCache.{FieldCache}
use Rattle.fleet_field.proofs.cache.FieldCache.search.Goals as goal

pub returns-in_err-reserve-clause-others : goal.returns-in_err-reserve-clause-others
returns-in_err-reserve-clause-others g c =
    subst (λ (s : FieldCache). All (Contains c.args.self.now.kept) s.kept) (sym c.reserve.ensures) (All-contains_itself c.args.self.now.kept)

pub returns-clause-others : goal.returns-clause-others
returns-clause-others g c =
    subst (λ (s : FieldCache). All (Contains s.kept) c.spare.new.self.kept) c.reserve.ensures c.spare.ensures
