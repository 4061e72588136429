-- When what was said is written.
use Rattle.std.specs.Prelude.{◌≡◌, ◌==◌, ℕ, Bool, false, List, []}
use Rattle.std.specs.List.{list_any}

-- a whole line is among these bytes
abbrev pub has_line : List ℕ → Bool
has_line bytes = list_any (λ b. b == 10) bytes

-- where a reader has no whole line, nothing waits to be written
abbrev pub IsDone : List ℕ → List ℕ → Type 0
IsDone buffered waits = has_line buffered ≡ false → waits ≡ []
