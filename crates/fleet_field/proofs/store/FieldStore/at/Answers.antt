-- The distance of a cell to the goal of a key.
use Rattle.std.proofs.Common.{◌≡◌, List, Option, None, slice_index_or, ap, ◌∙◌}
use Rattle.fleet_field.specs.Field.{Aim}
use Rattle.fleet_field.specs.Store.{shown}
use Rattle.fleet_field.specs.declared.store.Held.{Held}
use Rattle.fleet_field.proofs.store.FieldStore.at.Goals as goal

pub returns : goal.returns
returns g c = λ held is.
    let same : c.index.result.now ≡ held = cc (c.index.ensures, is, ap (λ (s : List (Option (Held Aim))). shown s c.args.key) c.self.view_is) in
    c.at.ensures ∙ ap (λ (h : Held Aim). slice_index_or h.field.away c.args.cell None) same
