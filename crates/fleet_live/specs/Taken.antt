-- The events that were taken, and the bytes of readers.
use Rattle.std.specs.Prelude.{◌≡◌, ◌==◌, ℕ, Bool, List, ◌++◌, map}
use Rattle.std.specs.declared.alloc.Global.{Global}
use Rattle.rtrb.specs.Ring.{received}
use Rattle.rtrb.specs.declared.consumer.Consumer.{Consumer}
use Rattle.fleet_history.specs.declared.history.Chapter.{Chapter}
use Rattle.fleet_talk.specs.Chapters.{ChapterView, chapter_shown}
use Rattle.live_fleet.specs.Party.{Heard}
use Rattle.fleet_live.specs.declared.events.Noted.{Noted}
use Rattle.fleet_live.specs.declared.lines_in.LinesIn.{LinesIn}
use Rattle.fleet_live.specs.declared.shelf.SoundChapters.{SoundChapters}
use Rattle.fleet_live.specs.Loop.{heard_by}

-- what a fleet heard, by what was noted of it
abbrev pub noted : Noted → Heard
noted n = heard_by n.asked.value n.line.value.items

-- whether the byte is a line feed
abbrev pub is_line_feed : ℕ → Bool
is_line_feed byte = byte == 10

-- bytes came from the reader, and of those that were there and those these are gone: nothing is lost
pub record TakesBytes (old new : LinesIn) (gone : List ℕ) : Type 0 where
  pub more : List ℕ
  pub came : received new.ring ≡ received old.ring ++ more
  pub left : old.bytes.items ++ more ≡ gone ++ new.bytes.items

-- chapters came out of the ring, and wait to be kept after the others
pub record TakesChapters (old new : Consumer (Chapter Global) Global SoundChapters) (waiting new_waiting : List (ChapterView Global)) : Type 0 where
  pub more : List (Chapter Global)
  pub came : received new ≡ received old ++ more
  pub waits : new_waiting ≡ waiting ++ map chapter_shown more
