-- What work makes of several goals.
use Rattle.std.specs.Prelude.{◌≡◌, ℕ, List, Result, Ok}
use Rattle.std.specs.Borrow.{Bor}
use Rattle.std.specs.List.{AllZip}

-- what work that answers so makes of a goal
abbrev pub IsMadeOf : {X E : Type 0} → (Bor ℕ → Result X E → Type 0) → ℕ → X → Type 0
IsMadeOf post goal one = (at : Bor ℕ) × (at.now ≡ goal) × post at (Ok one)

-- and of each goal in turn
abbrev pub AreMadeOf : {X E : Type 0} → (Bor ℕ → Result X E → Type 0) → List ℕ → List X → Type 0
AreMadeOf post goals made = AllZip (IsMadeOf post) goals made
