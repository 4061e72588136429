-- The text of a trace: one JSON value in compact form, its keys in byte order.
use Rattle.std.specs.Prelude.{ℕ, List, [], ◌∷◌, map, codes, Option, Some, None}
use Rattle.serde_json.specs.Data.{unsigned, Data, null, boolean, number, string, array, object, member, no_members}
use Rattle.serde_json.specs.View.{items_of}
use Rattle.serde_json.specs.Written.{compact_text}
use Rattle.fleet_queue.specs.declared.errand.Errand.{Errand}
use Rattle.fleet_book.specs.declared.order.Order.{Order}
use Rattle.fleet_book.specs.declared.order.Order.TheVariants.{Go, Close, Withdraw}
use Rattle.fleet_book.specs.declared.verdict.Verdict.{Verdict}
use Rattle.fleet_book.specs.declared.verdict.Verdict.TheVariants as verdict
use Rattle.fleet_book.specs.Refusals.{refusal_code}
use Rattle.fleet_hooks.specs.declared.law.StampLaw.{StampLaw}
use Rattle.fleet_history.specs.declared.history.Arrival.{Arrival}
use Rattle.fleet_history.specs.declared.history.Bye.{Bye}
use Rattle.fleet_history.specs.declared.history.ClientState.{ClientState}
use Rattle.fleet_history.specs.declared.history.RobotState.{RobotState}
use Rattle.fleet_history.specs.declared.history.Opening.{Opening}
use Rattle.fleet_history.specs.declared.history.Entry.{Entry}
use Rattle.fleet_history.specs.declared.history.Entry.TheVariants.{Take, Tick, Shut}
use Rattle.fleet_trace.specs.Trace.{Trace}

-- the JSON number of a count
abbrev pub counted : ℕ → Data
counted n = number (unsigned n)

-- the JSON string of these bytes
abbrev pub word : List ℕ → Data
word letters = string letters

-- the JSON array of these values
abbrev pub listed : List Data → Data
listed ds = array (items_of ds)

-- ---- the opening

-- what is known of a client: orders taken, errands accepted, notices made, and whether it is closed
abbrev pub client_data : ClientState → Data
client_data s = listed (counted s.taken ∷ counted s.accepted ∷ counted s.noticed ∷ boolean s.closed ∷ [])

-- an errand: its client, its number, its cell
abbrev pub errand_data : Errand → Data
errand_data e = listed (counted e.client ∷ counted e.number ∷ counted e.cell ∷ [])

-- a law of stamps: its least and its greatest stamp
abbrev pub law_data : StampLaw → Data
law_data law = listed (counted law.low ∷ counted law.high ∷ [])

-- a wait, in ticks; null where there is none
abbrev pub wait_data : Option ℕ → Data
wait_data None = null
wait_data (Some wait) = counted wait

-- what is known of a robot: cell, whether it is shut, wait, errands, and the laws of arrivals and of the farewell
abbrev pub robot_data : {A : Type 0} → RobotState A → Data
robot_data x =
    listed (counted x.cell ∷ boolean x.shut ∷ wait_data x.wait ∷ listed (map errand_data x.errands) ∷ law_data x.arrival_law ∷ law_data x.farewell_law ∷ [])

-- an opening, as an object of five members
abbrev pub opening_data : {A : Type 0} → Opening A → Data
opening_data o =
    object (member (codes "clients") (listed (map client_data o.clients))
    (member (codes "life") (counted o.life)
    (member (codes "queue") (counted o.queue)
    (member (codes "robots") (listed (map robot_data o.robots))
    (member (codes "tick") (counted o.tick) no_members)))))

-- ---- entries

-- an order: its word, then the robot and the cell, or the number of the errand
abbrev pub order_data : Order → Data
order_data (Go robot cell) = listed (word (codes "go") ∷ counted robot ∷ counted cell ∷ [])
order_data Close = listed (word (codes "close") ∷ [])
order_data (Withdraw errand) = listed (word (codes "withdraw") ∷ counted errand ∷ [])

-- a refusal, by its code
abbrev pub refused : ℕ → Data
refused code = listed (word (codes "refused") ∷ counted code ∷ [])

-- a verdict that refuses nothing
abbrev pub done_data : Verdict → Data
done_data (verdict.Accepted errand) = listed (word (codes "accepted") ∷ counted errand ∷ [])
done_data verdict.Withdrawn = listed (word (codes "withdrawn") ∷ [])
done_data _ = listed (word (codes "closed") ∷ [])

-- a verdict, by the number of the refusal if it is one
abbrev pub answer_data : Option ℕ → Verdict → Data
answer_data (Some code) v = refused code
answer_data None v = done_data v

-- a verdict: a word, and the number of the accepted errand or the code of the refusal
abbrev pub verdict_data : Verdict → Data
verdict_data v = answer_data (refusal_code v) v

-- an arrival: the robot, the client, the errand's number, the stamp
abbrev pub arrival_data : Arrival → Data
arrival_data a = listed (counted a.robot ∷ counted a.client ∷ counted a.number ∷ counted a.stamp ∷ [])

-- a farewell in a tick: the robot and the stamp
abbrev pub bye_data : Bye → Data
bye_data b = listed (counted b.robot ∷ counted b.stamp ∷ [])

-- a take: its word, the client, the order, the verdict
abbrev pub take_data : ℕ → Order → Verdict → Data
take_data client order v = listed (word (codes "take") ∷ counted client ∷ order_data order ∷ verdict_data v ∷ [])

-- a tick: its word, the robots' cells, the arrivals, the farewells
abbrev pub tick_data : List ℕ → List Arrival → List Bye → Data
tick_data to arrived farewells =
    listed (word (codes "tick") ∷ listed (map counted to) ∷ listed (map arrival_data arrived) ∷ listed (map bye_data farewells) ∷ [])

-- a shut: its word, the robot, and the stamp of the farewell if there is one
abbrev pub shut_data : ℕ → Option ℕ → Data
shut_data robot None = listed (word (codes "shut") ∷ counted robot ∷ [])
shut_data robot (Some stamp) = listed (word (codes "shut") ∷ counted robot ∷ counted stamp ∷ [])

-- an entry, as an array that begins with its word
abbrev pub entry_data : {A : Type 0} → Entry A → Data
entry_data (Take client order v) = take_data client order v
entry_data (Tick to arrived farewells) = tick_data to arrived farewells
entry_data (Shut robot farewell) = shut_data robot farewell

-- ---- the trace

-- a trace as a JSON value, in the second version of the form
abbrev pub trace_data : {A : Type 0} → Trace A → Data
trace_data t =
    object (member (codes "chapter") (counted t.number)
    (member (codes "entries") (listed (map entry_data t.history.entries))
    (member (codes "opening") (opening_data t.history.opening)
    (member (codes "version") (counted 2) no_members))))

-- the one text of a trace
abbrev pub trace_text : {A : Type 0} → Trace A → List ℕ
trace_text t = compact_text (trace_data t)
