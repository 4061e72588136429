-- What a program finds in a second reader, and leaves on a writer.
use Rattle.std.specs.Prelude.{ℕ, ◌≤◌, List, [], length, take, Option, Some, None}
use Rattle.std.specs.Borrow.{MutBor}
use Rattle.std.specs.Io.KnownBytes.{Appends}

-- known bytes grow by a prefix of text
abbrev pub AppendsPrefix : Option (List ℕ) → Option (List ℕ) → List ℕ → Type 0
AppendsPrefix old new text = (n : ℕ) × (n ≤ length text) × Appends old new (take n text)

-- what a second reader has, and nothing where there is none
abbrev pub bytes_of : {I : Type 0} → (I → Option (List ℕ)) → Option (MutBor I) → Option (List ℕ)
bytes_of remaining None = Some []
bytes_of remaining (Some reader) = remaining reader.now
