-- How far the journal of a sink is.
use Rattle.std.specs.Prelude.{ℕ, List, Option, is_some, option_map}
use Rattle.std.specs.declared.alloc.Global.{Global}
use Rattle.fleet_talk.specs.Chapters.{ChapterView}
use Rattle.fleet_talk.specs.Journal.{JournalView}
use Rattle.fleet_talk.specs.declared.ends.SinkFault.{SinkFault}

-- what a journal has, if one is written, the number of the chapter that it was given last, how many entries of it it has, and why it failed
abbrev pub journal_view : {J : Type 0} → (J → List (ChapterView Global)) → Option J → ℕ → ℕ → Option SinkFault → JournalView
journal_view logged journal number entries fault = record { logged = option_map logged journal; number = number; entries = entries; failed = is_some fault }
