-- What a journal has of a fleet's chapters, and what is told over it.
use Rattle.std.specs.Prelude.{◌≡◌, ◌==◌, ◌⊎◌, ℕ, ◌≤◌, zero, suc, Bool, true, false, List, [], ◌∷◌, ◌++◌, Option, None, IfSome, length, take, if◌then◌else◌}
use Rattle.std.specs.declared.alloc.Global.{Global}
use Rattle.fleet_history.specs.History.{with_entries}
use Rattle.fleet_talk.specs.Chapters.{ChapterView}

-- a chapter as far as its first entries say
abbrev pub first_part : {A : Type 0} → ChapterView A → ℕ → ChapterView A
first_part c n = record { number = c.number; history = with_entries c.history (take n c.history.entries) }

-- these chapters, and then the first entries of one more; nothing of it where they are none
abbrev pub with_first : {A : Type 0} → List (ChapterView A) → ChapterView A → ℕ → List (ChapterView A)
with_first before c zero = before
with_first before c (suc n) = before ++ first_part c (suc n) ∷ []

-- these chapters, and then all entries of one more
abbrev pub with_whole : {A : Type 0} → List (ChapterView A) → ChapterView A → List (ChapterView A)
with_whole before c = with_first before c (length c.history.entries)

-- and of several more: those that have an entry
abbrev pub with_each : {A : Type 0} → List (ChapterView A) → List (ChapterView A) → List (ChapterView A)
with_each before [] = before
with_each before (c ∷ cs) = with_each (with_whole before c) cs

-- what a journal has, if one is written; the number of the chapter that it was given last, and how many entries of it it has; whether it failed
pub record JournalView : Type 0 where
  pub logged : Option (List (ChapterView Global))
  pub number : ℕ
  pub entries : ℕ
  pub failed : Bool

-- no journal is written
abbrev pub no_journal : JournalView
no_journal = record { logged = None; number = 0; entries = 0; failed = false }

-- how many entries of the chapter of this number it has
abbrev pub count_in : JournalView → ℕ → ℕ
count_in j n = if n == j.number then j.entries else 0

-- it has these chapters, and of the next one the entries that it was given
abbrev pub IsAt : JournalView → List (ChapterView Global) → ChapterView Global → Type 0
IsAt j before c = IfSome j.logged (λ logged. (count_in j c.number ≤ length c.history.entries) × (logged ≡ with_first before c (count_in j c.number)))

-- it has these chapters, and all entries of the next one
abbrev pub HasAll : JournalView → List (ChapterView Global) → ChapterView Global → Type 0
HasAll j before c = IfSome j.logged (λ logged. (j.number ≡ c.number) × (j.entries ≡ length c.history.entries) × (logged ≡ with_whole before c))

-- a chapter was brought down to it, after those before it; or it has what it had, and failed by now
abbrev pub Logs : JournalView → JournalView → ChapterView Global → Bool → Type 0
Logs old new c true = (old.failed ≡ false) × (new.failed ≡ false) × ((before : List (ChapterView Global)) → IsAt old before c → HasAll new before c)
Logs old new c false = (new.failed ≡ true) × (new.logged ≡ old.logged)
