-- What the first robot gets.
use Rattle.std.specs.Prelude.{◌≡◌, ℕ, ◌<◌, List, slice_index}
use Rattle.fleet_shield.specs.Wishes.{Wishes, robots, cell_of, preference}
use Rattle.fleet_shield.specs.Shielded.{KeepToPreferences}
use Rattle.fleet_shield.specs.inside.Board.{undecided}

-- no robot has chosen yet
abbrev pub IsBlank : Wishes → (to tried : List ℕ) → Type 0
IsBlank w to tried = (r : ℕ) → r < robots w → (slice_index to r ≡ undecided) × (slice_index tried r ≡ 0)

-- a step within the preferences, without conflicts, that gives the robot its first preference
pub record IsOther (w : Wishes) (e : ℕ) (other : List ℕ) : Type 0 where
  pub some : 0 < w.each
  pub keeps : KeepToPreferences w other
  pub apart : (r q : ℕ) → r < robots w → q < robots w → slice_index other r ≡ slice_index other q → r ≡ q
  pub swapless : (r q : ℕ) → r < robots w → q < robots w → slice_index other r ≡ cell_of w q → slice_index other q ≡ cell_of w r → r ≡ q
  pub first : slice_index other e ≡ preference w e 0

-- the robot has its first preference, if any such step would give it
abbrev pub HasFirst : Wishes → List ℕ → ℕ → Type 0
HasFirst w to e = (other : List ℕ) → IsOther w e other → slice_index to e ≡ preference w e 0
