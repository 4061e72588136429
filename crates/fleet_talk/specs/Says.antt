-- What is said: texts under their marks, and how they reach a writer.
use Rattle.std.specs.Prelude.{◌≡◌, ℕ, Bool, true, List, [], ◌∷◌, ◌++◌, Option, Some, None, ◌==◌, if◌then◌else◌, codes, decimal}
use Rattle.std.specs.Io.KnownBytes.{Appends}

-- a byte, with a mark and a blank before it where a line begins
abbrev pub opened : List ℕ → Bool → ℕ → List ℕ
opened mark begins byte = (if begins then mark ++ 32 ∷ [] else []) ++ byte ∷ []

-- the bytes of a text, with a mark and a blank before each of its lines; whether a line begins with the first byte
abbrev pub marked_from : List ℕ → Bool → List ℕ → List ℕ
marked_from mark begins [] = []
marked_from mark begins (byte ∷ bytes) = opened mark begins byte ++ marked_from mark (byte == 10) bytes

-- a text under its mark, if it has one
abbrev pub marked : Option (List ℕ) → List ℕ → List ℕ
marked None text = text
marked (Some mark) text = marked_from mark true text

-- the line that ends the answer to the line of this number
abbrev pub end_line : ℕ → List ℕ
end_line number = codes ". " ++ decimal number ++ codes "\n"

-- a text was said: what a writer took since, and what waits now, is what waited before and the text
pub record Says (before after : Option (List ℕ)) (waited waits text : List ℕ) : Type 0 where
  pub written : List ℕ
  pub taken : Appends before after written
  pub same : written ++ waits ≡ waited ++ text
