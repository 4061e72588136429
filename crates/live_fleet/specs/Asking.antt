-- What is asked of the keeper.
use Rattle.std.specs.Prelude.{◌≡◌, ℕ, true, List, [], ◌++◌, Option, Result, Ok, Err, length}
use Rattle.fleet_book.specs.declared.event.Event.TheVariants.{Shut}
use Rattle.fleet_core.specs.declared.faults.ShutFault.{ShutFault}
use Rattle.fleet_text.specs.Answers.{chapter_refused_line, shut_text}
use Rattle.fleet_talk.specs.Says.{marked}
use Rattle.fleet_world.specs.declared.reply.Reply.{Reply}
use Rattle.fleet_world.specs.declared.reply.Reply.TheVariants.{ShutDone, ShutRefused}
use Rattle.live_parts.specs.declared.demand.Wanted.{Wanted}
use Rattle.live_parts.specs.declared.demand.Wanted.TheVariants as wanted
use Rattle.live_fleet.specs.declared.rest.Rest.{Rest}
use Rattle.live_fleet.specs.declared.rest.Rest.TheVariants as rest
use Rattle.live_fleet.specs.declared.speaker.Speaker.{Speaker}
use Rattle.live_fleet.specs.Act.{Act}
use Rattle.live_fleet.specs.Answering.{Answers, mark_kept}
use Rattle.fleet_talk.specs.Look.{IsLook}
use Rattle.live_fleet.specs.Party.{Stage, with_at, with_rest}
use Rattle.live_fleet.specs.Stepping.{HandsOut, StepsOn, IsLast}
use Rattle.live_fleet.specs.Went.{At}

-- what a shut came to, by its reply
abbrev pub IsShutResult : Reply → Result (Option ℕ) ShutFault → Type 0
IsShutResult (ShutDone farewell) done = done ≡ Ok farewell
IsShutResult (ShutRefused fault) done = done ≡ Err fault
IsShutResult _ done = ⊥

-- a robot was shut, in the next chapter where this one was full, and this text says what that came to
pub record Shuts (robot : ℕ) (text : List ℕ) (a : At) (acts : List Act) (b : At) : Type 0 where
  pub reply : Reply
  pub done : Result (Option ℕ) ShutFault
  pub comes : IsShutResult reply done
  pub step : StepsOn (Shut robot) reply a acts b
  pub is : text ≡ shut_text robot done

-- a robot was shut, and what that came to is answered
pub record ShutsOne (k : ℕ) (sp : Speaker) (mark : Option (List ℕ)) (robot : ℕ) (s : Stage) (acts : List Act) (t : Stage) : Type 0 where
  pub text : List ℕ
  pub first : List Act
  pub mid : Stage
  pub shuts : Shuts robot text s.at first mid.at
  pub same : mid ≡ with_at s mid.at
  pub second : List Act
  pub answers : Answers k sp (marked mark text) mid second t
  pub parts : acts ≡ first ++ second

-- n turns are to be made, and the answer is the last one's
abbrev pub IsTicking : Option (List ℕ) → ℕ → Rest → Type 0
IsTicking shown times (rest.Ticking mark left) = (mark_kept mark ≡ shown) × (left ≡ times)
IsTicking shown times _ = ⊥

-- the answer comes once this chapter is kept
abbrev pub IsKeeping : Option (List ℕ) → (number entries : ℕ) → Rest → Type 0
IsKeeping shown number entries (rest.Keeping mark n e) = (mark_kept mark ≡ shown) × (n ≡ number) × (e ≡ entries)
IsKeeping shown number entries _ = ⊥

-- the chapter was handed out, and the answer waits until it is kept; or it was the last, and that is the answer
pub data TurnsChapter (k : ℕ) (sp : Speaker) (mark : Option (List ℕ)) (s : Stage) (acts : List Act) (t : Stage) : Type 0 where
  handed : HandsOut s.at true acts t.at → (left : Rest) → IsKeeping mark s.at.fleet.talk.world.number (length s.at.fleet.talk.world.history.entries) left → t ≡ with_rest (with_at s t.at) k sp left → TurnsChapter k sp mark s acts t
  last : IsLast s.at.fleet.talk.world → Answers k sp (marked mark chapter_refused_line) s acts t → TurnsChapter k sp mark s acts t

-- what is done at what a line wants of the keeper
abbrev pub Grants : ℕ → Speaker → Option (List ℕ) → Wanted → Stage → List Act → Stage → Type 0
Grants k sp mark (wanted.Shut robot) s acts t = ShutsOne k sp mark robot s acts t
Grants k sp mark wanted.Look s acts t = (text : List ℕ) × IsLook s.at.fleet.talk.world text × Answers k sp (marked mark text) s acts t
Grants k sp mark wanted.Chapter s acts t = TurnsChapter k sp mark s acts t
Grants k sp mark (wanted.Tick times) s acts t = (left : Rest) × IsTicking mark times left × (acts ≡ []) × (t ≡ with_rest s k sp left)
-- no line wants these of the keeper
Grants k sp mark (wanted.Open client) s acts t = (acts ≡ []) × (t ≡ s)
Grants k sp mark wanted.Settle s acts t = (acts ≡ []) × (t ≡ s)
