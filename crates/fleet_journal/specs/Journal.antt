-- What the bytes of a journal say.
use Rattle.std.specs.Prelude.{⊤, ◌≡◌, ℕ, List, [], ◌∷◌, ◌++◌, length, codes, Bool, false, ◌==◌, Option, Some, None, if◌then◌else◌, option_map, option_and_then}
use Rattle.std.specs.declared.alloc.Global.{Global}
use Rattle.serde_json.specs.Data.{Data}
use Rattle.serde_json.specs.Find.{get}
use Rattle.fleet_history.specs.declared.history.Entry.{Entry}
use Rattle.fleet_history.specs.declared.history.Opening.{Opening}
use Rattle.fleet_trace.specs.declared.version.Version.TheVariants.{Second}
use Rattle.fleet_trace.specs.Reads.{IsJson}
use Rattle.fleet_trace.specs.Told.{count_in, opening_in, entry_in}
use Rattle.fleet_trace.specs.Trace.{Trace}
use Rattle.fleet_journal.specs.Lines.{whole_lines}
use Rattle.fleet_journal.specs.declared.fault.JournalFault.{JournalFault}
use Rattle.fleet_journal.specs.declared.fault.JournalFault.TheVariants as fault

-- what a first line opens: the number of a chapter, and its opening
abbrev pub Head : Type 0 → Type 0
Head A = ℕ × Opening A

-- whether there is a number, and it is that of the second version
abbrev pub is_second : Option ℕ → Bool
is_second None = false
is_second (Some n) = n == 2

-- what a value with the second version's number tells; other members than these three say nothing
abbrev pub head_in : {A : Type 0} → Data → Option (Head A)
head_in d = if is_second (option_and_then count_in (get (codes "version") d)) then
    option_and_then (λ n. option_map (λ o. (n, o)) (option_and_then opening_in (get (codes "opening") d)))
    (option_and_then count_in (get (codes "chapter") d))
    else None

-- a first line: the text of a JSON value that tells the chapter's number and its opening
abbrev pub IsHeadLine : {A : Type 0} → List ℕ → Head A → Type 0
IsHeadLine line h = (d : Data) × IsJson line d × (head_in d ≡ Some h)

-- a line of an entry: the text of a JSON value that tells the entry
abbrev pub IsEntryLine : {A : Type 0} → List ℕ → Entry A → Type 0
IsEntryLine line e = (d : Data) × IsJson line d × (entry_in Second d ≡ Some e)

-- each line tells the entry at its place
pub data AreEntryLines {A : Type 0} : List (List ℕ) → List (Entry A) → Type 0 where
  none : AreEntryLines [] []
  more : {line : List ℕ} {e : Entry A} {lines : List (List ℕ)} {es : List (Entry A)} → IsEntryLine line e → AreEntryLines lines es → AreEntryLines (line ∷ lines) (e ∷ es)

-- the whole lines of the bytes tell this trace
pub record IsJournal {A : Type 0} (bytes : List ℕ) (t : Trace A) : Type 0 where
  pub first : List ℕ
  pub others : List (List ℕ)
  pub lines : whole_lines bytes ≡ first ∷ others
  pub opens : IsHeadLine first (t.number, t.history.opening)
  pub entries : AreEntryLines others t.history.entries

-- after this many lines that tell entries stands one that tells none
pub record IsBadAfter (lines : List (List ℕ)) (n : ℕ) : Type 0 where
  pub good : List (List ℕ)
  pub bad : List ℕ
  pub rest : List (List ℕ)
  pub entries : List (Entry Global)
  pub place : lines ≡ good ++ bad ∷ rest
  pub number : n ≡ length entries
  pub tell : AreEntryLines good entries
  pub untold : (e : Entry Global) → IsEntryLine bad e → ⊥

-- why lines do not all tell entries, unless memory ran out
abbrev pub AreFaulty : List (List ℕ) → JournalFault → Type 0
AreFaulty lines (fault.Entry n) = IsBadAfter lines n
AreFaulty lines fault.NoMemory = ⊤
AreFaulty lines _ = ⊥

-- why the whole lines of bytes are no journal, unless memory ran out
abbrev pub IsJournalFault : List (List ℕ) → JournalFault → Type 0
IsJournalFault lines fault.Empty = lines ≡ []
IsJournalFault lines fault.Opening = (first : List ℕ) × (others : List (List ℕ)) × (lines ≡ first ∷ others) × ((h : Head Global) → IsHeadLine first h → ⊥)
IsJournalFault lines (fault.Entry n) =
    (first : List ℕ) × (others : List (List ℕ)) × (h : Head Global) × (lines ≡ first ∷ others) × IsHeadLine first h × IsBadAfter others n
IsJournalFault lines fault.NoMemory = ⊤
