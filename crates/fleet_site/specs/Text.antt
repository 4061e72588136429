-- The text of a record: one JSON value in compact form, its keys in byte order.
use Rattle.std.specs.Prelude.{ℕ, List, [], ◌∷◌, ◌++◌, map, codes}
use Rattle.serde_json.specs.Data.{Data, member, no_members, object}
use Rattle.serde_json.specs.Written.{compact_text}
use Rattle.fleet_refit.specs.declared.change.Change.{Change}
use Rattle.fleet_refit.specs.declared.change.Change.TheVariants as change
use Rattle.fleet_refit.specs.declared.change.Dropped.{Dropped}
use Rattle.fleet_refit.specs.declared.seat.Standing.{Standing}
use Rattle.fleet_refit.specs.declared.seat.Standing.TheVariants as standing
use Rattle.fleet_trace.specs.Text.{counted, law_data, listed, opening_data, word}
use Rattle.fleet_site.specs.Record.{Record}

-- a word and a number
abbrev pub numbered : List ℕ → ℕ → Data
numbered letters n = listed (word letters ∷ counted n ∷ [])

-- a change: its word and its numbers
abbrev pub change_data : Change → Data
change_data (change.Block cell) = numbered (codes "block") cell
change_data (change.Open cell) = numbered (codes "open") cell
change_data (change.Join cell arrivals farewells) = listed (word (codes "join") ∷ counted cell ∷ law_data arrivals ∷ law_data farewells ∷ [])
change_data (change.Leave robot) = numbered (codes "leave") robot
change_data (change.Hold robot) = numbered (codes "hold") robot
change_data (change.Free robot) = numbered (codes "free") robot
change_data (change.Move robot cell) = listed (word (codes "move") ∷ counted robot ∷ counted cell ∷ [])
change_data (change.Cancel client number) = listed (word (codes "cancel") ∷ counted client ∷ counted number ∷ [])

-- an errand that was dropped: the robot, the client, its number, its cell
abbrev pub dropped_data : Dropped → Data
dropped_data d = listed (counted d.robot ∷ counted d.client ∷ counted d.number ∷ counted d.cell ∷ [])

-- how a robot takes part, as one word
abbrev pub standing_data : Standing → Data
standing_data standing.Moving = word (codes "moving")
standing_data standing.Held = word (codes "held")
standing_data standing.Gone = word (codes "gone")

-- a record, as an object of seven members
abbrev pub record_data : {A : Type 0} → Record A → Data
record_data r =
    object (member (codes "changes") (listed (map change_data r.changes))
    (member (codes "chapter") (counted r.chapter)
    (member (codes "dropped") (listed (map dropped_data r.dropped))
    (member (codes "everyone") (opening_data r.everyone)
    (member (codes "map") (counted r.map)
    (member (codes "standings") (listed (map standing_data r.standings))
    (member (codes "version") (counted 1) no_members)))))))

-- the first piece of that text: up to what was dropped
abbrev pub lists_text : {A : Type 0} → Record A → List ℕ
lists_text r =
    (codes "{\"changes\":" ++ compact_text (listed (map change_data r.changes))) ++ ((codes ",\"chapter\":" ++ compact_text (counted r.chapter))
    ++ (codes ",\"dropped\":" ++ compact_text (listed (map dropped_data r.dropped))))

-- the last piece of that text: after what is known of all robots
abbrev pub rest_text : {A : Type 0} → Record A → List ℕ
rest_text r =
    (codes ",\"map\":" ++ compact_text (counted r.map)) ++ ((codes ",\"standings\":" ++ compact_text (listed (map standing_data r.standings))) ++ codes ",\"version\":1}")

-- the one text of a record
abbrev pub record_text : {A : Type 0} → Record A → List ℕ
record_text r = compact_text (record_data r)
