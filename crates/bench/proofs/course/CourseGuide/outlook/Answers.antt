-- The robot's field is one of the map's.
use Rattle.std.proofs.Common.{◌≡◌, ℕ, Option, Some, None, List, slice_get, sym, ap, ◌∙◌}
use Rattle.std.specs.Option.{option_map, option_and_then}
use Rattle.fleet_grid.specs.Floor.{Floor}
use Rattle.fleet_field.specs.Field.{Aim, IsField}
use Rattle.bench.specs.Fleet.{AreFields}
use Rattle.bench.proofs.course.CourseGuide.outlook.Goals as goal

field_is : (m : Floor) (fields : List Aim) (aim : Option ℕ) (field : Aim) → option_and_then (λ k. slice_get fields k) aim ≡ Some field → AreFields m fields → IsField m field.goal field
field_is m fields None field e are = absurd (cc (e))
field_is m fields (Some k) field e are = are k field e

pub outlook-requires-clause-field : goal.outlook-requires-clause-field
outlook-requires-clause-field g c =
    field_is c.args.grid.now c.args.self.now.fields.now (slice_get c.args.self.now.aims.now c.args.robot) c.in-Some.field.now
    (sym c.field.ensures ∙ ap (option_map (λ (field : _). field.now)) c.in-Some.is) c.requires.shows
