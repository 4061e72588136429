-- A bundle: a map up to the first line that is exactly `script`, and the script after that line.
use Rattle.std.specs.Prelude.{◌≡◌, ◌≢◌, ℕ, List, ◌∷◌, ◌++◌, All, codes}
use Rattle.fleet_map.specs.Text.{lines_of}

-- no line is exactly `script`
abbrev pub HasNoScript : List (List ℕ) → Type 0
HasNoScript lines = All (λ line. line ≢ codes "script") lines

-- the bytes are a bundle of this map and this script
pub record IsBundle (bytes map script : List ℕ) : Type 0 where
  pub lines : lines_of bytes ≡ lines_of map ++ codes "script" ∷ lines_of script
  pub first : HasNoScript (lines_of map)
