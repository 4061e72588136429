use Rattle.std.proofs.Common.{sym, subst}
use Rattle.fleet_field.specs.Field.{Aim, IsField}
use Rattle.fleet_field.specs.Store.{Keeps}
use Rattle.fleet_field.proofs.Cached.{all_among, keeps_none}
use Rattle.fleet_field.proofs.cache.FieldCache.field.Goals as goal

pub returns-in-Some-clause-keeps : goal.returns-in-Some-clause-keeps
returns-in-Some-clause-keeps g c =
    all_among (λ (field : Aim). IsField c.args.grid.now field.goal field) c.args.self.now.kept c.take.new.self.kept c.take.ensures.others c.requires.keeps

pub returns-in-Ok-clause-keeps : goal.returns-in-Ok-clause-keeps
returns-in-Ok-clause-keeps g c =
    all_among (λ (field : Aim). IsField c.args.grid.now field.goal field) c.take.new.self.kept c.search.new.self.kept c.search.ensures.others
    (all_among (λ (field : Aim). IsField c.args.grid.now field.goal field) c.args.self.now.kept c.take.new.self.kept c.take.ensures.others c.requires.keeps)

pub returns-clause-keeps : goal.returns-clause-keeps
returns-clause-keeps g c =
    keeps_none c.args.grid.now c.truncate.new.self.items c.search-2.new.self.kept c.search-2.ensures.others c.truncate.ensures.items
