-- One act of a line, in two parts where a chapter is to be kept in between.
use Rattle.std.specs.Prelude.{⊤, ◌≡◌, ℕ, ◌+◌, List, ◌++◌, length, Option, Some, None}
use Rattle.std.specs.declared.alloc.Global.{Global}
use Rattle.fleet_history.specs.declared.history.Chapter.{Chapter}
use Rattle.fleet_world.specs.Talk.{Talk, next_talk}
use Rattle.fleet_text.specs.Answers.{chapter_line}
use Rattle.fleet_talk.specs.declared.pen.Pen.{Pen}
use Rattle.fleet_talk.specs.Act.{Act, play, turn}
use Rattle.fleet_talk.specs.Acts.{Does, IsDue, Plays}
use Rattle.fleet_talk.specs.Chapters.{ChapterView, IsSound, beginning, chapter_in, chapter_shown}
use Rattle.fleet_talk.specs.Fleet.{Fleet}
use Rattle.fleet_talk.specs.Said.{IsAdded, IsKept}
use Rattle.fleet_talk.specs.Says.{marked}

-- this chapter was handed out, or it was the last
abbrev pub Hands : Talk Global → Option (Chapter Global) → Talk Global → Type 0
Hands s None t = (s.world.number + 1 ≡ s.world.limits.chapters) × (t ≡ s)
Hands s (Some chapter) t = (chapter_shown chapter ≡ chapter_in s.world) × IsSound s.world.turns s.world.floor s.world.history × (t ≡ next_talk s)

-- a chapter is handed out for this act: it asks for that, or that is due before its event
abbrev pub Wants : {A : Type 0} → Option ℕ → Fleet A → Act → Type 0
Wants roll s (turn mark) = ⊤
Wants roll s (play mark e) = IsDue roll s.talk e
Wants roll s _ = ⊥

-- an act was done, and this was said of it; or a chapter was handed out for it, which is to be kept first, and nothing was said
abbrev pub Comes : Option ℕ → Fleet Global → Act → Option (Chapter Global) → Pen → Pen → Fleet Global → Type 0
Comes roll s act None old new t = (text : List ℕ) × Does roll s act text t × IsAdded old new text × (beginning t.talk.world ≡ beginning s.talk.world)
Comes roll s act (Some chapter) old new t = Wants roll s act × Hands s.talk (Some chapter) t.talk × (t.met ≡ s.met) × IsKept old new

-- the line that a chapter was handed out, under the mark
abbrev pub handed_text : {A : Type 0} → Option (List ℕ) → ChapterView A → List ℕ
handed_text mark c = marked mark (chapter_line c.number (length c.history.entries))

-- once the chapter is kept: that it was handed out is said, and the event is done for which it was
abbrev pub GoesOn : {A : Type 0} → Fleet A → Act → ChapterView A → List ℕ → Fleet A → Type 0
GoesOn s (turn mark) c text t = (text ≡ handed_text mark c) × (t ≡ s)
GoesOn s (play mark e) c text t = (after : List ℕ) × Plays s mark e after t × (text ≡ handed_text mark c ++ after)
GoesOn s _ c text t = ⊤
