use Rattle.std.proofs.Common.{List, sym, ap, subst}
use Rattle.std.specs.List.{All, Contains}
use Rattle.fleet_field.specs.Field.{Aim, IsField}
use Rattle.fleet_field.specs.FieldCache.{FieldCache, cells_kept, places}
use Rattle.fleet_field.specs.Store.{Keeps}
use Rattle.fleet_field.proofs.Cached.{all_among, among_taken}
use Rattle.mover.specs.inside.Turning.{TurnFleet}
use Rattle.mover.proofs.turn_fleet.TurnFleet.keep.Goals as goal

pub returns-clause-keeps : goal.returns-clause-keeps
returns-clause-keeps g c = λ m keeps.
    let old = c.self.inside.cache.kept in
    let left = ap (λ (s : FieldCache). s.kept) c.keep.ensures in
    let among = subst (λ (xs : List Aim). All (Contains old) xs) (sym left) (among_taken (places c.args.bytes (cells_kept old)) old) in
    all_among (λ (field : Aim). IsField m field.goal field) old c.keep.new.self.kept among (subst (λ (f : TurnFleet). Keeps m f.kept) (sym c.self.view_is) keeps)
