-- The chapter that a journal tells, and why no fleet goes on from it.
use Rattle.std.specs.Prelude.{⊤, ◌≡◌, ◌≢◌, ℕ, ◌+◌, ◌-◌, ◌^◌, ◌==◌, Bool, List, [], ◌∷◌, ◌++◌, Option, Some, None, Ok, Err, codes, decimal, length, min, string_bytes, take}
use Rattle.std.specs.List.{position}
use Rattle.std.specs.declared.alloc.Global.{Global}
use Rattle.fleet_explain.specs.declared.explanation.Explanation.{Explanation}
use Rattle.fleet_explain.specs.Explained.{IsTraceExplained}
use Rattle.fleet_explain.specs.Sentences.{sentence}
use Rattle.fleet_grid.specs.Floor.{Floor, floor_of_map}
use Rattle.fleet_history.specs.History.{History}
use Rattle.fleet_history.specs.Legal.{IsLegal}
use Rattle.fleet_journal.specs.Journal.{IsJournal, IsJournalFault}
use Rattle.fleet_journal.specs.Lines.{bytes_of, whole_lines}
use Rattle.fleet_journal.specs.declared.fault.JournalFault.{JournalFault}
use Rattle.fleet_journal.specs.declared.fault.JournalFault.TheVariants as journal_fault
use Rattle.fleet_map.specs.Grammar.{Map, map_of}
use Rattle.fleet_map.specs.declared.fault.MapFault.{MapFault}
use Rattle.fleet_trace.specs.Chapters.{IsChaptersFault, TellChapters}
use Rattle.fleet_trace.specs.Judged.{IsFirstIllegal}
use Rattle.fleet_trace.specs.Text.{trace_text}
use Rattle.fleet_trace.specs.Trace.{Trace}
use Rattle.fleet_trace.specs.declared.fault.ChaptersFault.{ChaptersFault}
use Rattle.fleet_trace.specs.declared.fault.ChaptersFault.TheVariants as chapters_fault
use Rattle.fleet_lib.specs.declared.recovering.RecoverFault.{RecoverFault}
use Rattle.fleet_lib.specs.declared.recovering.RecoverFault.TheVariants as fault
use Rattle.fleet_lib.specs.declared.recovering.Recovered.{Recovered}

-- ---- what was written

-- whether the byte is zero
abbrev pub is_zero : ℕ → Bool
is_zero byte = byte == 0

-- the bytes before this place; all where there is none
abbrev pub until : Option ℕ → List ℕ → List ℕ
until None bytes = bytes
until (Some at) bytes = take at bytes

-- the bytes before the first that is zero: a disk shows zeros where a part of a write is missing
abbrev pub written : List ℕ → List ℕ
written bytes = until (position is_zero bytes) bytes

-- ---- the chapter

-- a chapter's trace as a file has it
abbrev pub trace_file : Trace Global → List ℕ
trace_file t = trace_text t ++ codes "\n"

-- the text tells a chapter that begins where that of the one before ends, if there is one
abbrev pub Follows : Floor → Option (List ℕ) → List ℕ → Type 0
Follows m None text = ⊤
Follows m (Some before) text = (ts : List (Trace Global)) × TellChapters m (before ∷ text ∷ []) ts

-- a line's number that stops at the greatest of 64 bits
abbrev pub line_after : ℕ → ℕ → ℕ
line_after lines more = min (lines + more) (2 ^ 64 - 1)

-- the whole lines of a journal tell a chapter that is legal on the map; this is its trace, and `cut` bytes after its lines tell nothing
pub record IsRecovered (map : List ℕ) (before : Option (List ℕ)) (journal : List ℕ) (number : ℕ) (r : Recovered) : Type 0 where
  pub floor : Map
  pub told : Trace Global
  pub reads : map_of map ≡ Ok floor
  pub tells : IsJournal (written journal) told
  pub same : told.number ≡ number
  pub legal : IsLegal (floor_of_map floor) told.history
  pub follows : Follows (floor_of_map floor) before (trace_file told)
  pub trace : string_bytes r.trace ≡ trace_file told
  pub lines : r.lines ≡ line_after (length told.history.entries) 1
  pub cut : length journal ≡ length (bytes_of (whole_lines (written journal))) + r.cut

-- ---- why none goes on

-- why the map cannot be read, unless memory ran out
abbrev pub IsUnreadMap : List ℕ → RecoverFault → Type 0
IsUnreadMap map fault.Map = (f : MapFault) × (map_of map ≡ Err f)
IsUnreadMap map fault.NoMemory = ⊤
IsUnreadMap map _ = ⊥

-- what is said of a journal that cannot be read
abbrev pub unread : JournalFault → RecoverFault
unread journal_fault.Empty = fault.Empty
unread journal_fault.Opening = fault.Opening
unread (journal_fault.Entry before) = fault.Entry (line_after before 2)
unread journal_fault.NoMemory = fault.NoMemory

-- the line of this number breaks a rule first, as `fleet explain` says of the trace
pub record IsIllegalLine (map : List ℕ) (m : Floor) (h : History Global) (trace : List ℕ) (line : ℕ) (e : Explanation) : Type 0 where
  pub at : ℕ
  pub rule : ℕ
  pub illegal : IsFirstIllegal m h at rule
  pub place : line ≡ line_after at 1
  pub explained : IsTraceExplained map trace e

-- why the chapter of a journal is not legal, unless memory ran out
abbrev pub IsUnlawful : List ℕ → Floor → History Global → List ℕ → RecoverFault → Type 0
IsUnlawful map m h trace (fault.Illegal line e) = IsIllegalLine map m h trace line e
IsUnlawful map m h trace fault.NoMemory = ⊤
IsUnlawful map m h trace _ = ⊥

-- the text does not follow the one before
abbrev pub IsAstray : Floor → List ℕ → List ℕ → Type 0
IsAstray m before text = (f : ChaptersFault) × IsChaptersFault m (before ∷ text ∷ []) f × (f ≢ chapters_fault.NoMemory)

-- the text does not follow the one before, if there is one
abbrev pub IsAstrayAfter : Floor → Option (List ℕ) → List ℕ → Type 0
IsAstrayAfter m None text = ⊥
IsAstrayAfter m (Some before) text = IsAstray m before text

-- why no fleet goes on from a journal: the first reason in this order, unless memory ran out
pub data IsRecoverFault (map : List ℕ) (before : Option (List ℕ)) (journal : List ℕ) (number : ℕ) (f : RecoverFault) : Type 0 where
  map_unread : IsUnreadMap map f → IsRecoverFault map before journal number f
  journal_unread : (m : Map) (why : JournalFault) → map_of map ≡ Ok m → IsJournalFault (whole_lines (written journal)) why → f ≡ unread why → IsRecoverFault map before journal number f
  other_number : (m : Map) (t : Trace Global) → map_of map ≡ Ok m → IsJournal (written journal) t → t.number ≢ number → f ≡ fault.Number t.number → IsRecoverFault map before journal number f
  unlawful : (m : Map) (t : Trace Global) → map_of map ≡ Ok m → IsJournal (written journal) t → t.number ≡ number → IsUnlawful map (floor_of_map m) t.history (trace_file t) f → IsRecoverFault map before journal number f
  astray : (m : Map) (t : Trace Global) → map_of map ≡ Ok m → IsJournal (written journal) t → t.number ≡ number → IsLegal (floor_of_map m) t.history → IsAstrayAfter (floor_of_map m) before (trace_file t) → f ≡ fault.Astray → IsRecoverFault map before journal number f
  no_memory : f ≡ fault.NoMemory → IsRecoverFault map before journal number f

-- ---- what is said of it

-- why no fleet goes on from a journal, in the words of the error writer
abbrev pub recover_text : RecoverFault → List ℕ
recover_text fault.Map = codes "its map is none"
recover_text fault.Empty = codes "it has no whole line"
recover_text fault.Opening = codes "line 1: it is no opening"
recover_text (fault.Entry line) = codes "line " ++ (decimal line ++ codes ": it is no entry")
recover_text (fault.Number number) = codes "line 1: it is chapter " ++ decimal number
recover_text (fault.Illegal line e) = codes "line " ++ (decimal line ++ (codes ": " ++ sentence e))
recover_text fault.Astray = codes "line 1: it does not begin with what is after the chapter before it"
recover_text fault.NoMemory = codes "out of memory"
