-- A fleet under way: robots of one part of a map, each with one of several fields, whose goal it goes to.
use Rattle.std.specs.Prelude.{◌≡◌, ℕ, ◌<◌, ◌≤◌, Bool, true, List, Option, Some, None, IsSome, length, slice_get, slice_index, slice_index_or}
use Rattle.std.specs.Option.{option_map, option_and_then}
use Rattle.fleet_grid.specs.Floor.{Floor, IsFloor}
use Rattle.fleet_grid.specs.Step.{IsPlacement}
use Rattle.fleet_grid.specs.Distance.{distance}
use Rattle.fleet_field.specs.Field.{Aim, IsField}
use Rattle.fleet_pibt.specs.Order.{wait_of}

-- the field of a robot
abbrev pub field_of : List Aim → List ℕ → ℕ → Option Aim
field_of fields aims robot = option_and_then (λ k. slice_get fields k) (slice_get aims robot)

-- the goal of a robot's field; `None` where it has no field
abbrev pub goal_of : List Aim → List ℕ → ℕ → Option ℕ
goal_of fields aims robot = option_map (λ field. field.goal) (field_of fields aims robot)

-- how far the cell is from that goal; `None` where the robot has no field, or no walk leads there
abbrev pub distance_of : List Aim → List ℕ → ℕ → ℕ → Option ℕ
distance_of fields aims robot cell = option_and_then (λ field. slice_index_or field.away cell None) (field_of fields aims robot)

-- the cell is floor, and has a distance to `home`
pub record IsWithin (m : Floor) (home cell : ℕ) : Type 0 where
  pub on_floor : IsFloor m cell
  pub joined : IsSome (distance m cell home)

-- each of these cells is floor, and has a distance to `home`
abbrev pub AreWithin : Floor → ℕ → List ℕ → Type 0
AreWithin m home cells = (k : ℕ) → k < length cells → IsWithin m home (slice_index cells k)

-- each of these cells is marked as taken
abbrev pub AreTaken : List ℕ → List Bool → Type 0
AreTaken cells taken = (k : ℕ) → k < length cells → slice_get taken (slice_index cells k) ≡ Some true

-- cells of the part, each once, and marked
pub record AreStarts (m : Floor) (home : ℕ) (taken : List Bool) (starts : List ℕ) : Type 0 where
  pub size : length taken ≡ length m.letters
  pub placed : IsPlacement m starts
  pub within : AreWithin m home starts
  pub taken_all : AreTaken starts taken

-- each is the field of its goal
abbrev pub AreFields : Floor → List Aim → Type 0
AreFields m fields = (k : ℕ) (field : Aim) → slice_get fields k ≡ Some field → IsField m field.goal field

-- each is the field of a goal in the part of `home`
pub record Serves (m : Floor) (home : ℕ) (fields : List Aim) : Type 0 where
  pub each : AreFields m fields
  pub within : (k : ℕ) (field : Aim) → slice_get fields k ≡ Some field → IsWithin m home field.goal

-- where each robot is, how long it has waited, and the number of its field
pub record IsUnderWay (m : Floor) (home fields : ℕ) (from to : List ℕ) (waits : List (Option ℕ)) (aims : List ℕ) : Type 0 where
  pub placed : IsPlacement m from
  pub few : length from ≤ 512
  pub next : length to ≡ length from
  pub waited : length waits ≡ length from
  pub aimed : length aims ≡ length from
  pub within : AreWithin m home from
  pub waits_of : (r : ℕ) → r < length from → IsSome (wait_of waits r)
  pub aim_of : (r : ℕ) → r < length from → slice_index aims r < fields
