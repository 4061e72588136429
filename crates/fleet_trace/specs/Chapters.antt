-- Chapters of one run: texts that tell them, and whether they follow one another.
use Rattle.std.specs.Prelude.{⊤, ◌≡◌, ◌≢◌, ℕ, ◌+◌, ◌^◌, ◌<◌, List, [], ◌∷◌, ◌++◌, length, map}
use Rattle.std.specs.declared.alloc.Global.{Global}
use Rattle.fleet_grid.specs.Floor.{Floor}
use Rattle.fleet_history.specs.History.{History, clock, clients, place}
use Rattle.fleet_history.specs.Legal.{IsLegal}
use Rattle.fleet_history.specs.Next.{next_opening}
use Rattle.fleet_trace.specs.declared.fault.ChaptersFault.{ChaptersFault}
use Rattle.fleet_trace.specs.declared.fault.ChaptersFault.TheVariants as fault
use Rattle.fleet_trace.specs.declared.fault.TraceFault.{TraceFault}
use Rattle.fleet_trace.specs.declared.fault.TraceFault.TheVariants as trace_fault
use Rattle.fleet_trace.specs.Trace.{Trace}
use Rattle.fleet_trace.specs.Reads.{Tells, IsTraceFault}

-- ---- what texts tell

-- each text tells the trace in its place
abbrev pub TellEach : List (List ℕ) → List (Trace Global) → Type 0
TellEach [] [] = ⊤
TellEach (text ∷ texts) (t ∷ ts) = Tells text t × TellEach texts ts
TellEach [] (t ∷ ts) = ⊥
TellEach (text ∷ texts) [] = ⊥

-- the text of this number, counted from 1, is the first that tells no trace, for this reason
pub record IsUnread (texts : List (List ℕ)) (number : ℕ) (f : TraceFault) : Type 0 where
  pub before : List (List ℕ)
  pub text : List ℕ
  pub behind : List (List ℕ)
  pub splits : texts ≡ before ++ text ∷ behind
  pub place : number ≡ length before + 1
  pub traces : List (Trace Global)
  pub told : TellEach before traces
  pub why : IsTraceFault text f
  pub named : f ≢ trace_fault.NoMemory

-- ---- chapters that follow one another

-- the clock stays below 2^63
abbrev pub IsEarly : {A : Type 0} → History A → Type 0
IsEarly h = h.opening.tick + length h.entries < 2 ^ 63

-- the history is legal on the map, and its clock stays below 2^63
pub record IsSound {A : Type 0} (m : Floor) (h : History A) : Type 0 where
  pub early : IsEarly h
  pub legal : IsLegal m h

-- the second begins where the first ends. After a sound chapter that is its whole state; after another one the clock, the cells, the limits
-- and how many clients there are
pub record Continues {A : Type 0} (m : Floor) (t u : Trace A) : Type 0 where
  pub number : u.number ≡ t.number + 1
  pub clock : u.history.opening.tick ≡ clock t.history
  pub cells : map (λ x. x.cell) u.history.opening.robots ≡ place t.history
  pub clients : length u.history.opening.clients ≡ clients t.history
  pub queue : u.history.opening.queue ≡ t.history.opening.queue
  pub life : u.history.opening.life ≡ t.history.opening.life
  pub state : IsSound m t.history → u.history.opening ≡ next_opening t.history

-- each trace but the first continues the one before it
abbrev pub AreInTurn : {A : Type 0} → Floor → List (Trace A) → Type 0
AreInTurn m [] = ⊤
AreInTurn m (t ∷ []) = ⊤
AreInTurn m (t ∷ u ∷ us) = Continues m t u × AreInTurn m (u ∷ us)

-- the trace of this number, counted from 1, is the first that does not continue the one before it
pub record IsFirstUnfit {A : Type 0} (m : Floor) (ts : List (Trace A)) (number : ℕ) : Type 0 where
  pub before : List (Trace A)
  pub first : Trace A
  pub next : Trace A
  pub behind : List (Trace A)
  pub splits : ts ≡ before ++ first ∷ next ∷ behind
  pub place : number ≡ length before + 2
  pub in_turn : AreInTurn m (before ++ first ∷ [])
  pub unfit : Continues m first next → ⊥

-- ---- both

-- the texts tell these traces, each of which continues the one before it
pub record TellChapters (m : Floor) (texts : List (List ℕ)) (ts : List (Trace Global)) : Type 0 where
  pub told : TellEach texts ts
  pub in_turn : AreInTurn m ts

-- the texts tell traces of which the one with this number, counted from 1, is the first that does not continue the one before it
pub record IsOutOfTurn (m : Floor) (texts : List (List ℕ)) (number : ℕ) : Type 0 where
  pub traces : List (Trace Global)
  pub told : TellEach texts traces
  pub unfit : IsFirstUnfit m traces number

-- why the texts tell no chapters that follow one another, unless memory ran out
abbrev pub IsChaptersFault : Floor → List (List ℕ) → ChaptersFault → Type 0
IsChaptersFault m texts (fault.Trace number f) = IsUnread texts number f
IsChaptersFault m texts (fault.Chapter number) = IsOutOfTurn m texts number
IsChaptersFault m texts fault.NoMemory = ⊤
