-- The chapters of a fleet in real time, as a sink keeps them.
use Rattle.std.specs.Prelude.{◌≡◌, List, ◌++◌, Option}
use Rattle.std.specs.List.{AllByRecursion}
use Rattle.fleet_grid.specs.Floor.{Floor}
use Rattle.turns_law.specs.Turns.{Turns}
use Rattle.fleet_talk.specs.Chapters.{Adds, ChapterView, IsSound}

-- a chapter that may be kept
abbrev pub IsKeepable : {A : Type 0} → ChapterView A → Type 0
IsKeepable c = (turns : Option Turns) × (m : Floor) × IsSound turns m c.history

-- chapters that may be kept
abbrev pub AreSound : {A : Type 0} → List (ChapterView A) → Type 0
AreSound cs = AllByRecursion IsKeepable cs

-- the first of these were kept, in order, and the others are left
pub record KeepsFirst {X : Type 0} (all left : List X) (before after : Option (List X)) : Type 0 where
  pub kept : List X
  pub parts : all ≡ kept ++ left
  pub added : Adds before after kept
