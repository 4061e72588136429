-- How an answer goes on.
use Rattle.std.specs.Prelude.{◌≡◌, ◌==◌, ℕ, ◌+◌, ◌-◌, nat_lt, Bool, true, false, ◌&&◌, List, [], ◌∷◌, ◌++◌, Option, Some, None, MatchBool, Vec, length, slice_get, if◌then◌else◌, min}
use Rattle.std.specs.List.{range_with_len}
use Rattle.std.specs.declared.alloc.Global.{Global}
use Rattle.fleet_core.specs.declared.open_errands.OpenErrand.{OpenErrand}
use Rattle.fleet_history.specs.History.{clock}
use Rattle.fleet_talk.specs.Says.{marked}
use Rattle.fleet_text.specs.Answers.{chapter_line, ended_line, open_end, open_line}
use Rattle.fleet_world.specs.declared.reply.Reply.{Reply}
use Rattle.live_fleet.specs.declared.rest.Listing.{Listing}
use Rattle.live_fleet.specs.declared.rest.Rest.{Rest}
use Rattle.live_fleet.specs.declared.rest.Rest.TheVariants as rest
use Rattle.live_fleet.specs.declared.rest.Rows.{Rows}
use Rattle.live_fleet.specs.declared.rest.Rows.TheVariants.{Errands, Robots}
use Rattle.live_fleet.specs.declared.speaker.Speaker.{Speaker}
use Rattle.live_fleet.specs.Act.{Act}
use Rattle.live_fleet.specs.Answering.{Answers, AnswersIn, mark_kept}
use Rattle.live_fleet.specs.Out.{Out, IsFull, text_at}
use Rattle.live_fleet.specs.Ending.{at_end}
use Rattle.live_fleet.specs.Party.{Stage, with_at, with_rest, with_speaker}
use Rattle.live_fleet.specs.RobotLines.{robot_listed}
use Rattle.live_fleet.specs.Telling.{TellsClients, TellsWhole}
use Rattle.live_fleet.specs.Turning.{SaysOrNot, SaysThat, Shows, Turns, is_ticked, tick_answer}
use Rattle.live_fleet.specs.Went.{At, Each}

-- ---- turns

-- a turn is shown, and this number of others is left to be made
abbrev pub ShowsOn : ℕ → Speaker → Option (Vec ℕ Global) → ℕ → Stage → List Act → Stage → Type 0
ShowsOn k sp mark left s acts t = Shows s.speakers s.at acts t.at × (t ≡ with_rest (with_at s t.at) k sp (rest.Ticking mark left))

-- the turn is shown, and the others are left to be made; or it was the last, and is the answer
abbrev pub TicksThen : Bool → ℕ → Speaker → Option (Vec ℕ Global) → ℕ → Reply → Stage → List Act → Stage → Type 0
TicksThen true k sp mark left reply s acts t = ShowsOn k sp mark (left - 1) s acts t
TicksThen false k sp mark left reply s acts t = Answers k sp (marked (mark_kept mark) (tick_answer s.at.fleet.talk reply)) s acts t

-- whether a turn was made, and others are to follow
abbrev pub goes_on : Reply → ℕ → Bool
goes_on reply left = is_ticked reply && nat_lt 1 left

-- one of the turns is made for which a conversation asked
pub record TicksOnce (k : ℕ) (sp : Speaker) (mark : Option (Vec ℕ Global)) (left : ℕ) (s : Stage) (acts : List Act) (t : Stage) : Type 0 where
  pub reply : Reply
  pub first : List Act
  pub mid : Stage
  pub turns : Turns s.speakers s.clients reply s.at first mid.at
  pub same : mid ≡ with_at s mid.at
  pub second : List Act
  pub goes : TicksThen (goes_on reply left) k sp mark left reply mid second t
  pub parts : acts ≡ first ++ second

-- no more than one is left
abbrev pub last_turn : Rest → Rest
last_turn (rest.Ticking mark left) = rest.Ticking mark (min left 1)
last_turn before = before

-- of the turns that are left for a conversation no more than one is to be made
abbrev pub Hastens : ℕ → Stage → Stage → Type 0
Hastens k s t = (sp : Speaker) × (slice_get s.speakers k ≡ Some sp) × (t ≡ with_rest s k sp (last_turn sp.rest))

-- ---- a list

-- the line after the first n: an errand's, or how many they are
abbrev pub listed_line : ℕ → List OpenErrand → Option OpenErrand → List ℕ
listed_line client errands (Some e) = open_line client e
listed_line client errands None = open_end client (length errands)

-- the line of a list of errands after the first n
abbrev pub line_listed : ℕ → List OpenErrand → ℕ → List ℕ
line_listed client errands listed = listed_line client errands (slice_get errands listed)

-- the line after the first n: a row's, or how many they are
abbrev pub row_line : Rows → ℕ → List ℕ
row_line (Errands client errands) listed = line_listed client errands.items listed
row_line (Robots robots) listed = robot_listed robots.items listed

-- how many rows there are
abbrev pub count_in : Rows → ℕ
count_in (Errands client errands) = length errands.items
count_in (Robots robots) = length robots.items

-- the next line of a list, under its mark
abbrev pub line_of : Listing → List ℕ
line_of list = marked (mark_kept list.mark) (row_line list.rows list.listed)

-- what is left of a list after its next line, if that was said
abbrev pub ListsThen : Listing → Rest → Bool → Type 0
ListsThen list left false = left ≡ rest.Listing list
ListsThen list left true = MatchBool (nat_lt list.listed (count_in list.rows)) (left ≡ rest.Listing (record list { listed = list.listed + 1 })) (left ≡ rest.Nothing)

-- ---- the end

-- a conversation is told what is left, as much as there is room for, and once that was all, that the fleet ended
pub data TellsRest (k : ℕ) (sp : Speaker) (s : Stage) (acts : List Act) (t : Stage) : Type 0 where
  full : TellsClients k sp.clients s.at acts t.at → IsFull (text_at t.at.out k) → t ≡ with_at s t.at → TellsRest k sp s acts t
  all : (mid : At) → (first last : List Act) → (is : Bool) → TellsWhole k sp.clients s.at first mid → SaysThat is k (ended_line (clock mid.fleet.talk.world.history)) mid last t.at → acts ≡ first ++ last
      → t ≡ (if is then with_rest (with_at s t.at) k sp rest.Ended else with_at s t.at) → TellsRest k sp s acts t

-- ---- what is left of an answer

-- how an answer goes on, by what is left of it
abbrev pub Continues : Rest → ℕ → Speaker → Stage → List Act → Stage → Type 0
Continues rest.Nothing k sp s acts t = (acts ≡ []) × (t ≡ s)
Continues (rest.Line line) k sp s acts t = Answers k sp line.items s acts t
Continues (rest.Ticking mark left) k sp s acts t = TicksOnce k sp mark left s acts t
Continues (rest.Listing list) k sp s acts t = (is : Bool) × (left : Rest) × ListsThen list left is × (t ≡ with_rest (with_at s t.at) k sp left) × SaysThat is k (line_of list) s.at acts t.at
Continues (rest.Keeping mark chapter entries) k sp s acts t = (acts ≡ []) × (t ≡ s)
Continues rest.Ending k sp s acts t = TellsRest k sp s acts t
Continues rest.Ended k sp s acts t = (acts ≡ []) × (t ≡ s)

-- one turn is made for a conversation, or one line of its answer is said
abbrev pub GoesOnce : ℕ → Stage → List Act → Stage → Type 0
GoesOnce k s acts t = (sp : Speaker) × (slice_get s.speakers k ≡ Some sp) × Continues sp.rest k sp s acts t

-- once the fleet has ended, a conversation whose answer is said is told what is left
abbrev pub EndsAnswer : (has_ended : Bool) → ℕ → Stage → Stage → Type 0
EndsAnswer true k s t = (sp : Speaker) × (slice_get s.speakers k ≡ Some sp) × (t ≡ with_speaker s k (at_end sp))
EndsAnswer false k s t = t ≡ s

-- what is left of a conversation's answer goes on, and once the fleet has ended it is told what is left
abbrev pub GoesOn : ℕ → Stage → List Act → Stage → Type 0
GoesOn k s acts t = (mid : Stage) × GoesOnce k s acts mid × EndsAnswer mid.has_ended k mid t

-- the next line of a list is said if there is room
abbrev pub ListsOn : ℕ → Listing → Out → Out → Rest → Type 0
ListsOn k list old new left = (is : Bool) × ListsThen list left is × SaysOrNot k (line_of list) is old new

-- how an answer goes on of which nothing but text is left
abbrev pub SaysOn : ℕ → Rest → Out → Out → Rest → Type 0
SaysOn k (rest.Line line) old new left = AnswersIn k line.items old new left
SaysOn k (rest.Listing list) old new left = ListsOn k list old new left
SaysOn k before old new left = (new ≡ old) × (left ≡ before)

-- ---- chapters that were kept

-- a conversation that waits for this chapter is answered
abbrev pub KeptFor : Rest → ℕ → ℕ → Speaker → Stage → List Act → Stage → Type 0
KeptFor (rest.Keeping mark n entries) number k sp s acts t =
    MatchBool (n == number) (Answers k sp (marked (mark_kept mark) (chapter_line n entries)) s acts t) ((acts ≡ []) × (t ≡ s))
KeptFor _ number k sp s acts t = (acts ≡ []) × (t ≡ s)

-- a conversation is answered if it waits for the chapter of this number
abbrev pub KeptAt : ℕ → ℕ → Stage → List Act → Stage → Type 0
KeptAt number k s acts t = (sp : Speaker) × (slice_get s.speakers k ≡ Some sp) × KeptFor sp.rest number k sp s acts t

-- each conversation that waits for the chapter of this number is answered
abbrev pub NotesKept : ℕ → Stage → List Act → Stage → Type 0
NotesKept number s acts t = Each (KeptAt number) (range_with_len 0 (length s.speakers)) s acts t

-- the answer of a conversation that waits for this chapter is said
abbrev pub KeptIn : Rest → ℕ → ℕ → Out → Out → Rest → Type 0
KeptIn (rest.Keeping mark n entries) number k old new left =
    MatchBool (n == number) (AnswersIn k (marked (mark_kept mark) (chapter_line n entries)) old new left) ((new ≡ old) × (left ≡ rest.Keeping mark n entries))
KeptIn before number k old new left = (new ≡ old) × (left ≡ before)
