-- What a line asks of a fleet in real time.
use Rattle.std.specs.Prelude.{ℕ, ◌^◌, Bool, true, false, List, [], ◌∷◌, Option, None, Some, if◌then◌else◌, codes, min, nat_lt}
use Rattle.std.specs.Option.{option_map}
use Rattle.std.specs.Str.{bytes_eq}
use Rattle.fleet_map.specs.Text.{number_of, words_of}
use Rattle.fleet_script.specs.Event.{Said, said_in}
use Rattle.fleet_script.specs.Event as said
use Rattle.fleet_book.specs.declared.event.Event.{Event}
use Rattle.fleet_book.specs.declared.event.Event.TheVariants.{Post, Tick, Shut}
use Rattle.fleet_talk.specs.declared.ask.Asked.{Asked}
use Rattle.fleet_talk.specs.declared.ask.Asked.TheVariants as asked
use Rattle.live_parts.specs.declared.demand.Demand.{Demand}
use Rattle.live_parts.specs.declared.demand.Demand.TheVariants as demand
use Rattle.live_parts.specs.declared.demand.Rights.{Rights}
use Rattle.live_parts.specs.declared.demand.Wanted.TheVariants as wanted

-- where it is granted
abbrev pub where_granted : Bool → Demand → Demand
where_granted granted asked = if granted then asked else demand.Bad

-- what an event line asks: turns come by themselves where there is a period
abbrev pub event_asked : Rights → Event → ℕ → Demand
event_asked rights (Post client order) times = demand.Post client order
event_asked rights Tick times = where_granted rights.ticks (demand.Ask (wanted.Tick times))
event_asked rights (Shut robot) times = where_granted rights.is_operator (demand.Ask (wanted.Shut robot))
event_asked rights event times = demand.Bad

-- `watch on` and `watch off`
abbrev pub watch_asked : List (List ℕ) → Demand
watch_asked (word ∷ state ∷ []) =
    if bytes_eq word (codes "watch")
    then (if bytes_eq state (codes "on") then demand.Watch true else if bytes_eq state (codes "off") then demand.Watch false else demand.Bad)
    else demand.Bad
watch_asked words = demand.Bad

-- the number, where it is below 2^32
abbrev pub small : ℕ → Option ℕ
small n = if nat_lt n (2 ^ 32) then Some n else None

-- the client of a number, if there is one
abbrev pub client_of : Option ℕ → Option ℕ
client_of None = None
client_of (Some n) = small n

-- the client that a word numbers
abbrev pub client_in : List ℕ → Option ℕ
client_in word = client_of (number_of word)

-- the number of a notice or of an order that a word says; none has so great a number as 2 ^ 58
abbrev pub seq_in : List ℕ → Option ℕ
seq_in word = option_map (λ n. min n (2 ^ 58)) (number_of word)

-- what `session` asks, by its client
abbrev pub session_of : Option ℕ → Demand
session_of None = demand.Bad
session_of (Some client) = demand.Session client

-- what `since` asks, by its client and the number of a notice
abbrev pub since_of : Option ℕ → Option ℕ → Demand
since_of (Some client) (Some seq) = demand.Since client seq
since_of client seq = demand.Bad

-- `session C`, by the words after the first
abbrev pub session_asked : List (List ℕ) → Demand
session_asked (client ∷ []) = session_of (client_in client)
session_asked words = demand.Bad

-- `since C SEQ`, by the words after the first
abbrev pub since_asked : List (List ℕ) → Demand
since_asked (client ∷ seq ∷ []) = since_of (client_in client) (seq_in seq)
since_asked words = demand.Bad

-- a post that counts only as the order of this number of its client
abbrev pub post_as : ℕ → Event → Demand
post_as number (Post client order) = demand.PostAs (record { number = number; client = client; order = order })
post_as number event = demand.Bad

-- the same by what the line says after the number
abbrev pub as_said : ℕ → Said → Demand
as_said number (said.events more) = post_as number more.event
as_said number line = demand.Bad

-- what `as` asks, by the number and the words after it
abbrev pub as_of : Option ℕ → List (List ℕ) → Demand
as_of (Some number) words = as_said number (said_in words)
as_of None words = demand.Bad

-- `as N post C ..`, by the words after the first
abbrev pub as_asked : List (List ℕ) → Demand
as_asked (number ∷ words) = as_of (seq_in number) words
as_asked [] = demand.Bad

-- `hello` and `robots`, by the words after the first: there are none
abbrev pub lone_asked : List (List ℕ) → Demand → Demand
lone_asked [] asked = asked
lone_asked words asked = demand.Bad

-- what a line asks that asks nothing of a fleet that stands still
abbrev pub other_asked : Rights → List (List ℕ) → Demand
other_asked rights [] = demand.Bad
other_asked rights (word ∷ words) =
    if bytes_eq word (codes "session") then session_asked words
    else (if bytes_eq word (codes "since") then since_asked words
    else (if bytes_eq word (codes "as") then as_asked words
    else (if bytes_eq word (codes "hello") then lone_asked words demand.Hello
    else (if bytes_eq word (codes "robots") then lone_asked words demand.Robots
    else where_granted rights.is_operator (watch_asked (word ∷ words))))))

-- what a line asks, by what it would ask of a fleet that stands still
abbrev pub demand_of : Rights → Asked → List ℕ → Demand
demand_of rights asked.Nothing told = demand.Nothing
demand_of rights (asked.Events more) told = event_asked rights more.event more.times
demand_of rights asked.Look told = demand.Ask wanted.Look
demand_of rights (asked.Open client) told = demand.Open client
demand_of rights asked.Chapter told = where_granted rights.is_operator (demand.Ask wanted.Chapter)
demand_of rights asked.Quit told = where_granted rights.is_operator demand.Quit
demand_of rights asked.Other told = other_asked rights (words_of told)
demand_of rights asked.Long told = demand.Bad
demand_of rights (asked.NoRoom client) told = demand.NoRoom client
