-- What was said to each conversation, and the chapters that were handed out.
use Rattle.std.specs.Prelude.{◌≡◌, ◌==◌, ℕ, ◌+◌, ◌≤◌, ◌<◌, ◌⊎◌, List, [], ◌∷◌, ◌++◌, length, map, slice_index_or, if◌then◌else◌}
use Rattle.std.specs.List.{flat_map}
use Rattle.std.specs.declared.alloc.Global.{Global}
use Rattle.fleet_text.specs.Output.{notice_line}
use Rattle.fleet_talk.specs.Chapters.{ChapterView, chapter_shown}
use Rattle.live_fleet.specs.declared.outboxes.Outboxes.{Outboxes}
use Rattle.live_fleet.specs.Act.{Act, did, full, handed, told, said, grew}

-- by conversation the text that waits for its reader, and the chapters in order
pub record Out : Type 0 where
  pub texts : List (List ℕ)
  pub chapters : List (ChapterView Global)

-- outboxes without where their lists lie in memory
abbrev pub out_of : Outboxes → Out
out_of o = record { texts = map (λ t. t.items) o.texts.items; chapters = map chapter_shown o.chapters.items }

-- the text that waits for the reader of a conversation; empty of one that there is not
abbrev pub text_at : Out → ℕ → List ℕ
text_at o to = slice_index_or o.texts to []

-- what an act says to conversation k
abbrev pub told_by : ℕ → Act → List ℕ
told_by k (told to client notice) = if to == k then notice_line client notice else []
told_by k (said to text) = if to == k then text else []
told_by k _ = []

-- what acts say to conversation k
abbrev pub told_to : ℕ → List Act → List ℕ
told_to k acts = flat_map (told_by k) acts

-- the chapter that an act hands out, if it hands one out
abbrev pub handed_by : Act → List (ChapterView Global)
handed_by (handed c) = c ∷ []
handed_by _ = []

-- the chapters that acts hand out
abbrev pub chapters_of : List Act → List (ChapterView Global)
chapters_of acts = flat_map handed_by acts

-- a text of this length may be said where this waits: with it that has at most 65,536 bytes, or nothing waits
abbrev pub Fits : List ℕ → ℕ → Type 0
Fits waits more = (length waits + more ≤ 65536) ⊎ (length waits ≡ 0)

-- no notice is told where this waits
abbrev pub IsFull : List ℕ → Type 0
IsFull waits = 65536 < length waits + 256

-- what waits has at most 65,536 bytes, or it grew from nothing, or not at all
abbrev pub IsWithin : List ℕ → List ℕ → Type 0
IsWithin old new = (length new ≤ 65536) ⊎ (length old ≡ 0) ⊎ (new ≡ old)
