-- The chapters of a conversation, as a sink keeps them.
use Rattle.std.specs.Prelude.{⊤, ◌≡◌, ℕ, ◌+◌, List, [], ◌∷◌, ◌++◌, Option, Some, None}
use Rattle.fleet_grid.specs.Floor.{Floor}
use Rattle.fleet_history.specs.declared.history.Chapter.{Chapter}
use Rattle.fleet_history.specs.declared.history.Opening.{Opening}
use Rattle.fleet_history.specs.History.{History, history_of}
use Rattle.fleet_history.specs.Legal.{IsLegal}
use Rattle.fleet_history.specs.Next.{next_opening}
use Rattle.fleet_bound.specs.Roomy.{AdvancesIfRoomy}
use Rattle.turns_law.specs.Turns.{Turns}
use Rattle.fleet_core.specs.Core.{World, ServesInTurns}
use Rattle.fleet_world.specs.Talk.{Talk}

-- ---- one chapter

-- a chapter without where it lies in memory
pub record ChapterView (A : Type 0) : Type 0 where
  pub number : ℕ
  pub history : History A

-- a chapter of the program, without its memory
abbrev pub chapter_shown : {A : Type 0} → Chapter A → ChapterView A
chapter_shown c = record { number = c.number; history = history_of c }

-- the chapter that a world is in
abbrev pub chapter_in : {A : Type 0} → World A → ChapterView A
chapter_in w = record { number = w.number; history = w.history }

-- a history is legal. Without turns, each tick of it advances if all its errands go to roomy cells; in turns, waits for served errands are bounded
pub record IsSound {A : Type 0} (turns : Option Turns) (m : Floor) (h : History A) : Type 0 where
  pub legal : IsLegal m h
  pub advancing : turns ≡ None → AdvancesIfRoomy m h
  pub served : ServesInTurns turns m h

-- ---- one after another

-- what is known of a chapter before its first entry: the map, the turns, its number and its opening
pub record Beginning (A : Type 0) : Type 0 where
  pub floor : Floor
  pub turns : Option Turns
  pub number : ℕ
  pub opening : Opening A

-- how the chapter began that a world is in
abbrev pub beginning : {A : Type 0} → World A → Beginning A
beginning w = record { floor = w.floor; turns = w.turns; number = w.number; opening = w.history.opening }

-- how the next one begins
abbrev pub next_beginning : {A : Type 0} → Beginning A → History A → Beginning A
next_beginning b h = record { floor = b.floor; turns = b.turns; number = b.number + 1; opening = next_opening h }

-- a sound chapter began so
pub record IsFrom {A : Type 0} (b : Beginning A) (c : ChapterView A) : Type 0 where
  pub number : c.number ≡ b.number
  pub opening : c.history.opening ≡ b.opening
  pub sound : IsSound b.turns b.floor c.history

-- chapters, the first of which began so, each next one where the one before ended, and how the one after them begins
abbrev pub AreTurned : {A : Type 0} → Beginning A → List (ChapterView A) → Beginning A → Type 0
AreTurned b [] end = end ≡ b
AreTurned b (c ∷ cs) end = IsFrom b c × AreTurned (next_beginning b c.history) cs end

-- all chapters of a fleet that was opened so and ended so: those that were handed out, and the last with all its entries
pub record AreChapters {A : Type 0} (first last : World A) (chapters : List (ChapterView A)) : Type 0 where
  pub before : List (ChapterView A)
  pub turned : AreTurned (beginning first) before (beginning last)
  pub sound : IsSound last.turns last.floor last.history
  pub all : chapters ≡ before ++ chapter_in last ∷ []

-- ---- what is kept

-- a list, if it is known, grows by these
abbrev pub Adds : {X : Type 0} → Option (List X) → Option (List X) → List X → Type 0
Adds None after new = ⊤
Adds (Some before) None new = ⊥
Adds (Some before) (Some after) new = after ≡ before ++ new

-- between these two states exactly the chapters that were handed out were kept, in order
abbrev pub KeepsTurned : {A : Type 0} → Option (List (ChapterView A)) → Option (List (ChapterView A)) → Talk A → Talk A → Type 0
KeepsTurned {A} before after s t = (chapters : List (ChapterView A)) × AreTurned (beginning s.world) chapters (beginning t.world) × Adds before after chapters

-- the chapter that a world is in was kept, and it is sound
abbrev pub KeepsLast : {A : Type 0} → Option (List (ChapterView A)) → Option (List (ChapterView A)) → Talk A → Type 0
KeepsLast before after t = IsSound t.world.turns t.world.floor t.world.history × Adds before after (chapter_in t.world ∷ [])

-- between these two states all chapters of the fleet were kept, in order
abbrev pub KeepsAll : {A : Type 0} → Option (List (ChapterView A)) → Option (List (ChapterView A)) → Talk A → Talk A → Type 0
KeepsAll {A} before after s t = (chapters : List (ChapterView A)) × AreChapters s.world t.world chapters × Adds before after chapters
