-- Letters stay as many where cells become floor.
use Rattle.std.proofs.Common.{◌≡◌, ◌∙◌, ℕ, zero, suc, List, Bool, true, false, Option, Some, None, refl, length}
use Rattle.std.specs.Prelude.{if◌then◌else◌, slice_get}
use Rattle.std.specs.Option.{option_map}
use Rattle.std.proofs.lemmas.List.{length-set}
use Rattle.fleet_history.specs.declared.history.RobotState.{RobotState}
use Rattle.fleet_refit.specs.declared.seat.Standing.{Standing}
use Rattle.fleet_site.specs.Make.{floor_at, is_held_at, opened, opened_one}

floor-length : (letters : List ℕ) (cell : Option ℕ) → length (floor_at letters cell) ≡ length letters
floor-length letters None = refl
floor-length letters (Some cell) = length-set letters cell 46

one-length : (b : Bool) (letters : List ℕ) (cell : Option ℕ) → length (if b then floor_at letters cell else letters) ≡ length letters
one-length true letters cell = floor-length letters cell
one-length false letters cell = refl

pub opened-length : {A : Type 0} (letters : List ℕ) (standings : List Standing) (robots : List (RobotState A)) (robot : ℕ) → length (opened letters standings robots robot) ≡ length letters
opened-length letters standings robots zero = refl
opened-length letters standings robots (suc robot) =
    one-length (is_held_at standings robot) (opened letters standings robots robot) (option_map (λ (x : RobotState _). x.cell) (slice_get robots robot))
    ∙ opened-length letters standings robots robot
