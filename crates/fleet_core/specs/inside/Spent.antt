-- What is left of farewells.
use Rattle.std.specs.Prelude.{ℕ, Bool, true, false, List, Option, None, slice_set}
use Rattle.fleet_hooks.specs.declared.law.StampLaw.{StampLaw}

-- where the robot is idle, its farewell is spent
abbrev pub spent_if : Bool → ℕ → List (Option StampLaw) → List (Option StampLaw)
spent_if true r spare = slice_set spare r None
spent_if false r spare = spare
