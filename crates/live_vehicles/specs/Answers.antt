-- What follows from a turn, and from a report.
use Rattle.std.specs.Prelude.{◌≡◌, ℕ, ◌⊎◌, ◌++◌, string_bytes}
use Rattle.execution_law.specs.Change.{Reports}
use Rattle.fleet_execution.specs.Course.{Course}
use Rattle.live_vehicles.specs.declared.answering.Out.{Out}
use Rattle.live_vehicles.specs.declared.vehicles.Vehicles.{Vehicles}
use Rattle.live_vehicles.specs.Begun.{HasBegun}
use Rattle.live_vehicles.specs.Follows.{AreOn, Follows, IsIdle, with_reached}
use Rattle.live_vehicles.specs.Text.{refused_line}

-- On this course those that were added stand where they are to; and then moves have begun until none may begin
pub record HasTurned (o : Course) (before after : Out) (v : Vehicles) : Type 0 where
  pub on : AreOn o before.due.items after.due.items
  pub begun : HasBegun o (string_bytes before.told) (string_bytes after.told) v

-- a robot that is under way has reached its cell, and moves begin; any other is refused, and all stays
abbrev pub HasAnswered : Course → ℕ → Out → Out → Vehicles → Type 0
HasAnswered o robot before after v =
    ((c : ℕ → ℕ) × Reports o.run robot c × HasTurned (with_reached o c) before after v)
    ⊎ (IsIdle o robot × (string_bytes after.told ≡ string_bytes before.told ++ refused_line robot) × (after.due ≡ before.due) × Follows v o)
