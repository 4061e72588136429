-- The names of the chapters in a folder.
use Rattle.std.specs.Prelude.{⊤, ◌≡◌, ◌≢◌, ◌<◌, ◌≤◌, ◌+◌, ◌^◌, ℕ, List, [], ◌++◌, length, slice_index_or, take, codes, decimal}
use Rattle.std.specs.List.{Contains}
use Rattle.fleet_lib.specs.declared.names.Named.{Named}
use Rattle.fleet_lib.specs.declared.names.Named.TheVariants as named
use Rattle.fleet_lib.specs.declared.names.NamesFault.{NamesFault}
use Rattle.fleet_lib.specs.declared.names.NamesFault.TheVariants as fault

-- the name of the file of the chapter with this number
abbrev pub chapter_name : ℕ → List ℕ
chapter_name n = codes "chapter-" ++ (decimal n ++ codes ".json")

-- a name begins and ends as that of a chapter
abbrev pub IsLikeName : List ℕ → Type 0
IsLikeName name = (middle : List ℕ) × (name ≡ codes "chapter-" ++ (middle ++ codes ".json"))

-- a name is that of no chapter
abbrev pub IsNoName : List ℕ → Type 0
IsNoName name = (n : ℕ) → n < 2 ^ 32 → name ≢ chapter_name n

-- each name that begins and ends as that of a chapter is that of one
abbrev pub AreReadable : List (List ℕ) → Type 0
AreReadable names = (name : List ℕ) → Contains names name → IsLikeName name → IsNoName name → ⊥

-- what a name says
abbrev pub IsNamed : List ℕ → Named → Type 0
IsNamed name named.Other = IsLikeName name → ⊥
IsNamed name (named.Chapter n) = (n < 2 ^ 32) × (name ≡ chapter_name n)
IsNamed name named.Unreadable = IsLikeName name × IsNoName name

-- the numbers of the chapters that names name
pub record AreNumbers (names : List (List ℕ)) (numbers : List ℕ) : Type 0 where
  pub each : (n : ℕ) → Contains numbers n → (n < 2 ^ 32) × Contains names (chapter_name n)
  pub all : (n : ℕ) → n < 2 ^ 32 → Contains names (chapter_name n) → Contains numbers n

-- all numbers from the first to the last are there, and the one before the first is not
pub record IsRun (numbers : List ℕ) (first last : ℕ) : Type 0 where
  pub within : first ≤ last
  pub there : (n : ℕ) → first ≤ n → n ≤ last → Contains numbers n
  pub before : (n : ℕ) → n + 1 ≡ first → Contains numbers n → ⊥

-- the last chapter that names name, where no chapter is missing between two others
pub record IsLast (names : List (List ℕ)) (last : ℕ) : Type 0 where
  pub there : Contains names (chapter_name last)
  pub most : (n : ℕ) → n < 2 ^ 32 → Contains names (chapter_name n) → n ≤ last
  pub whole : (n m : ℕ) → n < 2 ^ 32 → Contains names (chapter_name n) → n ≤ m → m ≤ last → Contains names (chapter_name m)

-- a chapter is missing between two others
pub record IsMissing (names : List (List ℕ)) (number : ℕ) : Type 0 where
  pub absent : Contains names (chapter_name number) → ⊥
  pub earlier : (n : ℕ) × (n < number) × Contains names (chapter_name n)
  pub later : (n : ℕ) × (number < n) × Contains names (chapter_name n)

-- the first name that begins and ends as that of a chapter, and is that of none
pub record IsFirstUnreadable (names : List (List ℕ)) (at : ℕ) : Type 0 where
  pub inside : at < length names
  pub like : IsLikeName (slice_index_or names at [])
  pub none : IsNoName (slice_index_or names at [])
  pub before : AreReadable (take at names)

-- why names name no last chapter, out of memory apart: names that are none come first
abbrev pub IsNamesFault : List (List ℕ) → NamesFault → Type 0
IsNamesFault names (fault.Unreadable at) = IsFirstUnreadable names at
IsNamesFault names (fault.Missing number) = AreReadable names × IsMissing names number
IsNamesFault names fault.NoMemory = ⊤
