-- The robot that comes before all others.
use Rattle.std.specs.Prelude.{◌≡◌, ◌≢◌, ℕ, ◌<◌, Option, Some, List, length}
use Rattle.fleet_pibt.specs.Order.{wait_of, ComesBefore}

-- of n robots with these waits this one waits, and comes before each other one
pub record IsEldestOf (wait_of : ℕ → Option ℕ) (n eldest : ℕ) : Type 0 where
  pub known : eldest < n
  pub age : ℕ
  pub waits : wait_of eldest ≡ Some age
  pub first : (r : ℕ) → r < n → r ≢ eldest → ComesBefore (Some age) (wait_of r) eldest r

-- of the robots with a list of waits this one waits, and comes before each other one
abbrev pub IsEldest : List (Option ℕ) → ℕ → Type 0
IsEldest waits eldest = IsEldestOf (wait_of waits) (length waits) eldest
