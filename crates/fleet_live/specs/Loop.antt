-- What the loop keeps of the events that it took, and of what it handed on.
use Rattle.std.specs.Prelude.{⊤, ◌≡◌, ℕ, ◌≤◌, ◌||◌, List, [], ◌∷◌, ◌++◌, length, drop}
use Rattle.std.specs.declared.alloc.Global.{Global}
use Rattle.fleet_talk.specs.Chapters.{ChapterView}
use Rattle.live_fleet.specs.Act.{Act, Runs, met_by}
use Rattle.live_fleet.specs.Does.{CanHear, Plays}
use Rattle.live_fleet.specs.Out.{Out, chapters_of, text_at, told_to}
use Rattle.live_fleet.specs.Party.{Heard, Stage}
use Rattle.live_fleet.specs.Party as heard
use Rattle.fleet_live.specs.declared.ends.Asked.{Asked}
use Rattle.fleet_live.specs.declared.ends.Asked.TheVariants as asked
use Rattle.fleet_live.specs.declared.ends.Next.{Next}
use Rattle.fleet_live.specs.declared.ends.Next.TheVariants as next

-- what the fleet hears of, where the bytes of a line are these
abbrev pub heard_by : Asked → List ℕ → Heard
heard_by (asked.Line from) bytes = heard.line from bytes
heard_by (asked.Room to) bytes = heard.room to
heard_by (asked.Rest from) bytes = heard.rest from
heard_by (asked.Last from) bytes = heard.last from
heard_by asked.Turn bytes = heard.turn
heard_by asked.Due bytes = heard.due
heard_by (asked.Kept chapter) bytes = heard.kept chapter
heard_by asked.End bytes = heard.end

-- the event that is to be heard next, if it is one
abbrev pub next_heard : Next → List ℕ → List Heard
next_heard (next.Hear event) bytes = heard_by event bytes ∷ []
next_heard next.Hand bytes = []
next_heard next.Search bytes = []
next_heard next.Over bytes = []

-- the event that is to be heard next may be heard, if it is one
abbrev pub MayHear : Stage → Next → List ℕ → Type 0
MayHear s (next.Hear event) bytes = CanHear s (heard_by event bytes)
MayHear s next.Hand bytes = ⊤
MayHear s next.Search bytes = ⊤
MayHear s next.Over bytes = ⊤

-- all that a conversation was told: what was handed on, and then what still waits, without its first `ahead` bytes, which were handed on too
abbrev pub told_in_all : List ℕ → ℕ → List ℕ → List ℕ
told_in_all handed ahead waits = handed ++ drop ahead waits

-- what was said is handed on as far as there is room: nothing is lost, nothing is said twice, and chapters go in their order
pub record HandsOn (told new_told : ℕ → List ℕ) (ahead new_ahead : ℕ → ℕ) (kept new_kept : List (ChapterView Global)) (old new : Out) : Type 0 where
  pub count : length new.texts ≡ length old.texts
  pub texts : (k : ℕ) → told_in_all (new_told k) (new_ahead k) (text_at new k) ≡ told_in_all (told k) (ahead k) (text_at old k)
  pub within : (k : ℕ) → new_ahead k ≤ length (text_at new k)
  pub chapters : new_kept ++ new.chapters ≡ kept ++ old.chapters

-- these events were heard, and what each conversation was told of them, and the chapters, are what a core run says
pub record Keeps (s t : Stage) (events : List Heard) (told new_told : ℕ → List ℕ) (ahead new_ahead : ℕ → ℕ) (kept new_kept : List (ChapterView Global)) : Type 0 where
  pub acts : List Act
  pub plays : Plays s events acts t
  pub runs : Runs s.at.fleet.talk acts t.at.fleet.talk
  pub met : t.at.fleet.met ≡ (s.at.fleet.met || met_by acts)
  pub tells : (k : ℕ) → told_in_all (new_told k) (new_ahead k) (text_at t.at.out k) ≡ told_in_all (told k) (ahead k) (text_at s.at.out k) ++ told_to k acts
  pub within : (k : ℕ) → new_ahead k ≤ length (text_at t.at.out k)
  pub hands : new_kept ++ t.at.out.chapters ≡ (kept ++ s.at.out.chapters) ++ chapters_of acts
