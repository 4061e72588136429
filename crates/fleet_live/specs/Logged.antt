-- How far the journal of a fleet is, and what is told over it.
use Rattle.std.specs.Prelude.{⊤, ◌≡◌, ◌==◌, ◌||◌, ◌⊎◌, ℕ, ◌+◌, ◌≤◌, Bool, true, false, List, [], ◌∷◌, ◌++◌, Option, IfSome, IsErr, Result, length, nat_lt, option_map, if◌then◌else◌}
use Rattle.std.specs.declared.alloc.Global.{Global}
use Rattle.fleet_talk.specs.Chapters.{ChapterView, chapter_in}
use Rattle.fleet_talk.specs.declared.ends.SinkFault.{SinkFault}
use Rattle.fleet_talk.specs.declared.ends.SinkFault.TheVariants.{File, NoMemory}
use Rattle.live_fleet.specs.Act.{Act, Runs}
use Rattle.live_fleet.specs.Does.{Plays}
use Rattle.live_fleet.specs.Out.{chapters_of, text_at, told_to}
use Rattle.live_fleet.specs.Party.{Heard, Stage}
use Rattle.live_parts.specs.declared.stop.Stop.{Stop}
use Rattle.live_parts.specs.declared.stop.Stop.TheVariants as stop
use Rattle.fleet_talk.specs.Journal.{with_first}
use Rattle.fleet_live.specs.Loop.{told_in_all}

-- ---- how far it is

-- what the journal has, if one is written, the number of the chapter that it was given last, and how many entries of it it has
pub record LogView : Type 0 where
  pub logged : Option (List (ChapterView Global))
  pub number : ℕ
  pub entries : ℕ

-- how far a journal of the program is
abbrev pub log_view : {J : Type 0} → (J → List (ChapterView Global)) → Option J → ℕ → ℕ → LogView
log_view logged journal number entries = record { logged = option_map logged journal; number = number; entries = entries }

-- how many entries of the chapter of this number it has
abbrev pub count_at : LogView → ℕ → ℕ
count_at v n = if n == v.number then v.entries else 0

-- the journal has these chapters, and of the next one the entries that it was given
abbrev pub IsAt : LogView → List (ChapterView Global) → ChapterView Global → Type 0
IsAt v before c = IfSome v.logged (λ logged. (count_at v c.number ≤ length c.history.entries) × (logged ≡ with_first before c (count_at v c.number)))

-- a chapter is logged from this entry on, if it has more of them, or none and is handed out
abbrev pub is_due : (from count : ℕ) → Bool → Bool
is_due from count true = nat_lt from count || (from == 0)
is_due from count false = nat_lt from count

-- these chapters, and the next one whole; that has a journal without an entry too where it is handed out
abbrev pub with_all : List (ChapterView Global) → ChapterView Global → Bool → List (ChapterView Global)
with_all before c true = before ++ c ∷ []
with_all before c false = with_first before c (length c.history.entries)

-- the journal has these chapters, and all entries of the next one
abbrev pub HasAll : LogView → List (ChapterView Global) → ChapterView Global → Bool → Type 0
HasAll v before c handed_out = IfSome v.logged (λ logged. (v.number ≡ c.number) × (v.entries ≡ length c.history.entries) × (logged ≡ with_all before c handed_out))

-- ---- the chapters that wait to be handed on, and the one that goes on

-- the first of the chapters that wait, or else the one that goes on
abbrev pub first_of : List (ChapterView Global) → ChapterView Global → ChapterView Global
first_of [] c = c
first_of (x ∷ xs) c = x

-- the number of each is one more than that of the one before
abbrev pub AreNumbered : List (ChapterView Global) → ChapterView Global → Type 0
AreNumbered [] c = ⊤
AreNumbered (x ∷ xs) c = ((first_of xs c).number ≡ x.number + 1) × AreNumbered xs c

-- the journal has the chapters before those that wait, and the first entries of the first of them
pub record IsReady (v : LogView) (before waits : List (ChapterView Global)) (c : ChapterView Global) : Type 0 where
  pub numbered : AreNumbered waits c
  pub at : IsAt v before (first_of waits c)

-- ---- the loop

-- it has all entries of the chapters that wait and of the one that goes on; or the call failed, and nothing was handed on
abbrev pub HandsLogged : {T E : Type 0} → Result T E → (told new_told : ℕ → List ℕ) → (kept new_kept waits before : List (ChapterView Global)) → LogView → ChapterView Global → Type 0
HandsLogged result told new_told kept new_kept waits before v c = HasAll v (before ++ waits) c false ⊎ (IsErr result × ((k : ℕ) → new_told k ≡ told k) × (new_kept ≡ kept))

-- a text is the beginning of another
abbrev pub Begins : List ℕ → List ℕ → Type 0
Begins text all = (rest : List ℕ) × (text ++ rest ≡ all)

-- From s on these events were heard. What conversations were told follows from the first of them: up to there the journal has all entries, of the chapters that were handed out and of the one that goes on
pub record Follows (s : Stage) (events : List Heard) (said told : ℕ → List ℕ) (before : List (ChapterView Global)) (v : LogView) : Type 0 where
  pub heard : List Heard
  pub later : List Heard
  pub parts : events ≡ heard ++ later
  pub acts : List Act
  pub mid : Stage
  pub plays : Plays s heard acts mid
  pub runs : Runs s.at.fleet.talk acts mid.at.fleet.talk
  pub tells : (k : ℕ) → Begins (told k) (said k ++ told_to k acts)
  pub has : HasAll v (before ++ (s.at.out.chapters ++ chapters_of acts)) (chapter_in mid.at.fleet.talk.world) false

-- Since then nothing was told, and nothing logged; or what was told follows from entries that the journal has
abbrev pub IsBacked : Stage → List Heard → (said told new_told : ℕ → List ℕ) → List (ChapterView Global) → (v new_v : LogView) → Type 0
IsBacked s events said told new_told before v new_v = (((k : ℕ) → new_told k ≡ told k) × (new_v ≡ v)) ⊎ Follows s events said new_told before new_v

-- of a fleet that began with s: nothing was told, or what was told follows from entries that the journal has
abbrev pub IsToldLogged : Stage → List Heard → (told : ℕ → List ℕ) → List (ChapterView Global) → LogView → Type 0
IsToldLogged s events told before v = ((k : ℕ) → told k ≡ []) ⊎ Follows s events (λ k. []) told before v

-- all that each conversation was told
abbrev pub told_so_far : (ℕ → List ℕ) → (ℕ → ℕ) → Stage → ℕ → List ℕ
told_so_far told ahead s k = told_in_all (told k) (ahead k) (text_at s.at.out k)

-- the journal is ready for what this stage hands on
abbrev pub IsReadyAt : LogView → List (ChapterView Global) → Stage → Type 0
IsReadyAt v before s = IsReady v before s.at.out.chapters (chapter_in s.at.fleet.talk.world)

-- so it is while events are heard, and the journal is ready for what comes
pub record Logs (s t : Stage) (events : List Heard) (told new_told : ℕ → List ℕ) (ahead : ℕ → ℕ) (kept new_kept before : List (ChapterView Global)) (v new_v : LogView) : Type 0 where
  pub given : List (ChapterView Global)
  pub kept_more : new_kept ≡ kept ++ given
  pub ready : IsReadyAt new_v (before ++ given) t
  pub backed : IsBacked s events (told_so_far told ahead s) told new_told before v new_v

-- ---- why it could not be written

-- why a fleet stops whose journal could not be written
abbrev pub stop_for : SinkFault → Stop
stop_for File = stop.Sink
stop_for NoMemory = stop.NoMemory
