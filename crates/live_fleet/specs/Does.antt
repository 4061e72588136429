-- What a fleet of many conversations does at each event, and at many.
use Rattle.std.specs.Prelude.{◌≡◌, ◌==◌, ℕ, ◌<◌, Bool, true, false, List, [], ◌∷◌, ◌++◌, length, slice_get, MatchOption}
use Rattle.fleet_world.specs.declared.reply.Reply.{Reply}
use Rattle.live_fleet.specs.declared.speaker.Speaker.{Speaker}
use Rattle.live_fleet.specs.Act.{Act}
use Rattle.live_fleet.specs.Ending.{Ends}
use Rattle.live_fleet.specs.Hearing.{HearsLine}
use Rattle.live_fleet.specs.Open.{is_done}
use Rattle.live_fleet.specs.Out.{Out}
use Rattle.live_fleet.specs.Party.{Heard, IsWhole, Stage, line, room, rest, last, turn, due, kept, end, with_at, with_out}
use Rattle.live_fleet.specs.Resting.{GoesOn, Hastens, NotesKept}
use Rattle.live_fleet.specs.Stepping.{HandsOut}
use Rattle.live_fleet.specs.Telling.{TellsAt}
use Rattle.live_fleet.specs.Turning.{Shows, Turns, is_ticked}
use Rattle.live_fleet.specs.Went.{At}

-- a turn that was made is shown; after one that was not none follows
abbrev pub ShowsTurn : Bool → Stage → List Act → Stage → Type 0
ShowsTurn true s acts t = Shows s.speakers s.at acts t.at × (t ≡ with_at s t.at)
ShowsTurn false s acts t = (acts ≡ []) × (t ≡ record s { is_over = true })

-- a turn is made, and shown if it was
pub record MakesTurn (s : Stage) (acts : List Act) (t : Stage) : Type 0 where
  pub reply : Reply
  pub first : List Act
  pub mid : Stage
  pub turns : Turns s.speakers s.clients reply s.at first mid.at
  pub same : mid ≡ with_at s mid.at
  pub second : List Act
  pub shows : ShowsTurn (is_ticked reply) mid second t
  pub parts : acts ≡ first ++ second

-- the chapter is handed out if it has an entry and is not the last
abbrev pub HandsDue : (is_empty : Bool) → Stage → List Act → Stage → Type 0
HandsDue true s acts t = (acts ≡ []) × (t ≡ s)
HandsDue false s acts t = (is : Bool) × HandsOut s.at is acts t.at × (t ≡ with_at s t.at)

-- what is done at an event, in these acts
abbrev pub Does : Stage → Heard → List Act → Stage → Type 0
Does s (line from bytes) acts t = HearsLine from bytes s acts t
Does s (room to) acts t = TellsAt s.speakers to s.at acts t.at × (t ≡ with_at s t.at)
Does s (rest from) acts t = GoesOn from s acts t
Does s (last from) acts t = (acts ≡ []) × Hastens from s t
Does s turn acts t = MakesTurn s acts t
Does s due acts t = HandsDue (length s.at.fleet.talk.world.history.entries == 0) s acts t
Does s (kept chapter) acts t = NotesKept chapter s acts t
Does s end acts t = Ends s acts t

-- this conversation is there, and nothing is left of the answer to its last line
abbrev pub IsAnswered : List Speaker → ℕ → Type 0
IsAnswered who from = MatchOption (slice_get who from) ⊥ (λ sp. is_done sp.rest ≡ true)

-- the conversation of an event is there, and if it is a line, nothing is left of that one's last answer; a turn may follow, and the end did not come yet
abbrev pub IsOpenTo : List Speaker → (is_over has_ended : Bool) → Heard → Type 0
IsOpenTo who is_over has_ended (line from bytes) = IsAnswered who from
IsOpenTo who is_over has_ended (room to) = to < length who
IsOpenTo who is_over has_ended (rest from) = from < length who
IsOpenTo who is_over has_ended (last from) = from < length who
IsOpenTo who is_over has_ended turn = is_over ≡ false
IsOpenTo who is_over has_ended due = Unit {0}
IsOpenTo who is_over has_ended (kept chapter) = Unit {0}
IsOpenTo who is_over has_ended end = has_ended ≡ false

-- an event may be heard
abbrev pub CanHear : Stage → Heard → Type 0
CanHear s event = IsWhole s × IsOpenTo s.speakers s.is_over s.has_ended event

-- Events one after another, in these acts. Between two of them readers may take some of what waits: then other texts and chapters wait
pub data Plays : Stage → List Heard → List Act → Stage → Type 0 where
  hears : (s : Stage) → (event : Heard) → (acts : List Act) → (t : Stage) → Does s event acts t → Plays s (event ∷ []) acts t
  takes : (s : Stage) → (out : Out) → Plays s [] [] (with_out s out)
  then : (s m t : Stage) → (first second : List Heard) → (before after : List Act) → Plays s first before m → Plays m second after t → Plays s (first ++ second) (before ++ after) t

-- The same where readers take nothing. What each conversation was told, the chapters and the status follow by Went
abbrev pub PlaysUnread : Stage → List Heard → List Act → Stage → Type 0
PlaysUnread s [] acts t = (acts ≡ []) × (t ≡ s)
PlaysUnread s (event ∷ events) acts t = (mid : Stage) × (first : List Act) × (rest : List Act) × Does s event first mid × PlaysUnread mid events rest t × (acts ≡ first ++ rest)
