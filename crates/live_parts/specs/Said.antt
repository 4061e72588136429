-- The lines of chapters that cannot be kept.
use Rattle.std.specs.Prelude.{ℕ, List, [], ◌∷◌, ◌++◌, codes, decimal}

-- a chapter could not be kept: what its sink says of it, where that says something
abbrev pub unkept_line : ℕ → List ℕ → List ℕ
unkept_line number [] = codes "fleet: file chapter-" ++ (decimal number ++ codes ".json cannot be written\n")
unkept_line number (c ∷ fault) = codes "fleet: file " ++ ((c ∷ fault) ++ codes "\n")

-- chapters are kept again, of which this was the first that waited
abbrev pub kept_line : ℕ → List ℕ
kept_line number = codes "fleet: file chapter-" ++ (decimal number ++ codes ".json is written, and those after it\n")
