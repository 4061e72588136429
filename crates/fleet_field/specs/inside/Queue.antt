-- Fields in a queue.
use Rattle.std.specs.Prelude.{ℕ, List}
use Rattle.fleet_field.specs.Field.{Aim}

-- the fields, the first one first, and for how many there is room
pub record Queue : Type 0 where
  pub items : List Aim
  pub room : ℕ

abbrev pub goal_of : Aim → ℕ
goal_of field = field.goal
