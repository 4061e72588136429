-- The field of a key is one of the map that the store serves.
use Rattle.std.proofs.Common.{◌≡◌, List, Option, Some, ap}
use Rattle.fleet_field.specs.Field.{Aim}
use Rattle.fleet_field.specs.Store.{shown}
use Rattle.fleet_field.specs.declared.store.Held.{Held}
use Rattle.fleet_field.proofs.store.FieldStore.outlook.Goals as goal

pub outlook-requires-clause-field : goal.outlook-requires-clause-field
outlook-requires-clause-field g c =
    let there : shown c.args.self.now c.args.key ≡ Some c.index.result.now = cc (c.index.ensures, ap (λ (s : List (Option (Held Aim))). shown s c.args.key) c.self.view_is) in
    c.requires.serves c.args.key c.index.result.now there
