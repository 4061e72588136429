-- Turns.
use Rattle.std.specs.Prelude.{◌≡◌, ℕ, Bool, true, false, ◌&&◌, List, [], ◌∷◌, ◌++◌, length, MatchOption, slice_get, slice_set}
use Rattle.std.specs.List.{range_with_len}
use Rattle.std.specs.declared.alloc.Global.{Global}
use Rattle.fleet_book.specs.declared.event.Event.TheVariants.{Tick}
use Rattle.fleet_history.specs.History.{clock, place}
use Rattle.fleet_text.specs.Output.{tick_line, tick_refused_line}
use Rattle.fleet_world.specs.declared.reply.Reply.{Reply}
use Rattle.fleet_world.specs.declared.reply.Reply.TheVariants.{Ticked, TickRefused}
use Rattle.fleet_world.specs.Talk.{Talk}
use Rattle.live_fleet.specs.declared.speaker.Speaker.{Speaker}
use Rattle.live_fleet.specs.Act.{Act, said}
use Rattle.live_fleet.specs.Open.{is_open}
use Rattle.live_fleet.specs.Out.{Out, Fits, text_at}
use Rattle.live_fleet.specs.Stepping.{StepsOn}
use Rattle.live_fleet.specs.Taking.{Takes}
use Rattle.live_fleet.specs.Telling.{TellsAll}
use Rattle.live_fleet.specs.Went.{At, Both, Each, Went}

-- all is told, the orders that wait are judged, and all is told
abbrev pub Settles : List Speaker → ℕ → At → List Act → At → Type 0
Settles who count a acts b = Both (TellsAll who) (Both (Takes count) (TellsAll who)) a acts b

-- all is told, the orders that wait are judged, a tick is made, and all is told
abbrev pub Turns : List Speaker → ℕ → Reply → At → List Act → At → Type 0
Turns who count reply a acts b = Both (TellsAll who) (Both (Takes count) (Both (StepsOn Tick reply) (TellsAll who))) a acts b

-- whether a turn was made
abbrev pub is_ticked : Reply → Bool
is_ticked (Ticked report) = true
is_ticked _ = false

-- the line of where the robots stand
abbrev pub place_line : Talk Global → List ℕ
place_line s = tick_line (clock s.world.history) (place s.world.history)

-- what is answered to who asked for a turn: why there was none, or where the robots stand
abbrev pub tick_answer : Talk Global → Reply → List ℕ
tick_answer s (TickRefused fault) = tick_refused_line fault
tick_answer s reply = place_line s

-- a text was said to a conversation, which had room for it
abbrev pub IsSaid : Out → ℕ → List ℕ → Out → Type 0
IsSaid old to text new = (new.texts ≡ slice_set old.texts to (text_at old to ++ text)) × (new.chapters ≡ old.chapters)

-- a text was said to a conversation if it had room, and else not
abbrev pub SaysOrNot : ℕ → List ℕ → Bool → Out → Out → Type 0
SaysOrNot to text true old new = Fits (text_at old to) (length text) × IsSaid old to text new
SaysOrNot to text false old new = (Fits (text_at old to) (length text) → ⊥) × (new ≡ old)

-- a text was said by a fleet to a conversation if it had room, and else not
abbrev pub SaysThat : Bool → ℕ → List ℕ → At → List Act → At → Type 0
SaysThat true to text a acts b = Fits (text_at a.out to) (length text) × (acts ≡ said to text ∷ []) × Went a acts b
SaysThat false to text a acts b = (Fits (text_at a.out to) (length text) → ⊥) × (acts ≡ []) × (b ≡ a)

-- a text was said to a conversation if it had room
abbrev pub SaysIfRoom : ℕ → List ℕ → At → List Act → At → Type 0
SaysIfRoom to text a acts b = (is : Bool) × SaysThat is to text a acts b

-- a text was shown to this conversation if it watches
abbrev pub ShowsWhere : Bool → List ℕ → ℕ → At → List Act → At → Type 0
ShowsWhere true text to a acts b = SaysIfRoom to text a acts b
ShowsWhere false text to a acts b = (acts ≡ []) × (b ≡ a)

-- a text was shown to this conversation if it watches and may be told more now
abbrev pub ShowsTo : List ℕ → Speaker → ℕ → At → List Act → At → Type 0
ShowsTo text sp to a acts b = ShowsWhere (sp.watching && is_open sp.rest) text to a acts b

-- a text was shown to the conversation with this number, if it is there
abbrev pub ShowsAt : List ℕ → List Speaker → ℕ → At → List Act → At → Type 0
ShowsAt text who to a acts b = MatchOption (slice_get who to) ((acts ≡ []) × (b ≡ a)) (λ sp. ShowsTo text sp to a acts b)

-- the line of a tick was shown to each conversation that watches and has room
abbrev pub Shows : List Speaker → At → List Act → At → Type 0
Shows who a acts b = Each (ShowsAt (place_line a.fleet.talk) who) (range_with_len 0 (length who)) a acts b
