-- What the program prints of a run: the lines of each event, by its reply and by the entry that it made.
use Rattle.fleet_map.specs.declared.fault.MapFault.{MapFault}
use Rattle.fleet_map.specs.declared.fault.MapFault.TheVariants as map_fault
use Rattle.fleet_core.specs.declared.faults.OpenFault.{OpenFault}
use Rattle.fleet_core.specs.declared.faults.OpenFault.TheVariants as open_fault
use Rattle.std.specs.Prelude.{Bool, true, false, ℕ, List, [], ◌∷◌, ◌++◌, Option, Some, None, codes, decimal, slice_index, drop, slice_get}
use Rattle.std.specs.List.{flat_map}
use Rattle.fleet_book.specs.declared.verdict.Verdict.{Verdict}
use Rattle.fleet_book.specs.declared.verdict.Verdict.TheVariants as verdict
use Rattle.fleet_book.specs.Refusals.{refusal_code, verdict_name}
use Rattle.fleet_book.specs.declared.notice.Notice.{Notice}
use Rattle.fleet_book.specs.declared.notice.Notice.TheVariants as notice
use Rattle.fleet_history.specs.declared.history.Entry.{Entry}
use Rattle.fleet_history.specs.declared.history.Entry.TheVariants as entry
use Rattle.fleet_history.specs.declared.history.Arrival.{Arrival}
use Rattle.fleet_book.specs.declared.event.Event.{Event}
use Rattle.fleet_book.specs.declared.event.Event.TheVariants.{Post, Take, Tick, Give, Collect, Shut}
use Rattle.fleet_world.specs.declared.reply.Reply.{Reply}
use Rattle.fleet_world.specs.declared.reply.Reply.TheVariants.{Posted, LaneFull, Took, LaneEmpty, TakeRefused, Ticked, TickRefused, Gave, NothingPending, OutletFull, Collected, NothingThere, ShutDone, ShutRefused, NoClient}
use Rattle.fleet_core.specs.declared.faults.TakeFault.{TakeFault}
use Rattle.fleet_core.specs.declared.faults.TakeFault.TheVariants as take_fault
use Rattle.fleet_core.specs.declared.faults.TickFault.{TickFault}
use Rattle.fleet_core.specs.declared.faults.TickFault.TheVariants as tick_fault
use Rattle.fleet_core.specs.declared.faults.ShutFault.{ShutFault}
use Rattle.fleet_core.specs.declared.faults.ShutFault.TheVariants as shut_fault
use Rattle.fleet_trace.specs.declared.fault.TraceFault.{TraceFault}
use Rattle.fleet_trace.specs.declared.fault.TraceFault.TheVariants as trace_fault

-- an order that was carried out
abbrev pub done_text : Verdict → List ℕ
done_text (verdict.Accepted number) = codes "accepted " ++ decimal number
done_text v = verdict_name v

-- a verdict, by the number of the refusal if it is one
abbrev pub answer_text : Option ℕ → Verdict → List ℕ
answer_text (Some code) v = codes "refused " ++ decimal code ++ codes " " ++ verdict_name v
answer_text None v = done_text v

-- a verdict: that the order was carried out, or the number and the name of the refusal
abbrev pub verdict_text : Verdict → List ℕ
verdict_text v = answer_text (refusal_code v) v

-- why no order was taken, by number and name
abbrev pub take_fault_text : TakeFault → List ℕ
take_fault_text take_fault.MailboxFull = codes "1 mailbox-full"
take_fault_text take_fault.ChapterFull = codes "2 chapter-full"
take_fault_text take_fault.NoMemory = codes "3 no-memory"

-- why there was no tick, by number and name
abbrev pub tick_fault_text : TickFault → List ℕ
tick_fault_text tick_fault.ClockSpent = codes "1 clock-spent"
tick_fault_text tick_fault.ChapterFull = codes "2 chapter-full"
tick_fault_text tick_fault.NoMemory = codes "3 no-memory"

-- why a robot was not shut, by number and name
abbrev pub shut_fault_text : ShutFault → List ℕ
shut_fault_text shut_fault.NoRobot = codes "1 no-robot"
shut_fault_text shut_fault.Already = codes "2 already"
shut_fault_text shut_fault.ChapterFull = codes "3 chapter-full"
shut_fault_text shut_fault.NoMemory = codes "4 no-memory"

-- what a collected notice tells
abbrev pub notice_text : Notice → List ℕ
notice_text (notice.Verdict seq order_no v) = decimal seq ++ codes " verdict " ++ decimal order_no ++ codes " " ++ verdict_text v
notice_text (notice.Arrived seq number robot cell tick stamp) =
    decimal seq ++ codes " arrived " ++ decimal number ++ codes " robot " ++ decimal robot ++ codes " cell " ++ decimal cell ++ codes " tick " ++ decimal tick ++ codes " stamp " ++ decimal stamp

-- the cells of a placement, each after a blank
abbrev pub place_text : List ℕ → List ℕ
place_text cells = flat_map (λ cell. codes " " ++ decimal cell) cells

-- the line of an arrival on the cell
abbrev pub arrival_line : Arrival → ℕ → List ℕ
arrival_line a cell =
    codes "arrived robot " ++ decimal a.robot ++ codes " client " ++ decimal a.client ++ codes " number " ++ decimal a.number ++ codes " cell " ++ decimal cell ++ codes " stamp " ++ decimal a.stamp ++ codes "\n"

-- the line of an arrival in a tick to these cells
abbrev pub arrival_text : List ℕ → Arrival → List ℕ
arrival_text to a = arrival_line a (slice_index to a.robot)

-- the line of a robot's farewell
abbrev pub farewell_text : ℕ → ℕ → List ℕ
farewell_text robot stamp = codes "farewell robot " ++ decimal robot ++ codes " stamp " ++ decimal stamp ++ codes "\n"

-- where the robots stand after a tick
abbrev pub tick_line : ℕ → List ℕ → List ℕ
tick_line tick cells = codes "tick " ++ decimal tick ++ codes ":" ++ place_text cells ++ codes "\n"

-- the lines of a tick: where the robots stand after it, who arrived and who said farewell
abbrev pub tick_text : {A : Type 0} → ℕ → Option (Entry A) → List ℕ
tick_text tick (Some (entry.Tick to arrived farewells)) =
    tick_line tick to ++ flat_map (arrival_text to) arrived ++ flat_map (λ bye. farewell_text bye.robot bye.stamp) farewells
tick_text tick _ = []

-- the line of the farewell that a shut makes at once; nothing where the robot still has errands
abbrev pub parting_text : ℕ → Option ℕ → List ℕ
parting_text robot None = []
parting_text robot (Some stamp) = farewell_text robot stamp

-- an order lies in client c's lane under this number
abbrev pub posted_line : ℕ → ℕ → List ℕ
posted_line c number = codes "posted " ++ decimal c ++ codes " " ++ decimal number ++ codes "\n"

-- client c's lane has no room for an order
abbrev pub lane_full_line : ℕ → List ℕ
lane_full_line c = codes "lane-full " ++ decimal c ++ codes "\n"

-- there is no client c
abbrev pub no_client_line : ℕ → List ℕ
no_client_line c = codes "no-client " ++ decimal c ++ codes "\n"

-- a notice that client c collected
abbrev pub notice_line : ℕ → Notice → List ℕ
notice_line c notice = codes "collected " ++ decimal c ++ codes " " ++ notice_text notice ++ codes "\n"

-- there was no tick
abbrev pub tick_refused_line : TickFault → List ℕ
tick_refused_line fault = codes "tick-refused " ++ tick_fault_text fault ++ codes "\n"

-- the robot was not shut
abbrev pub shut_refused_line : ℕ → ShutFault → List ℕ
shut_refused_line robot fault = codes "shut-refused " ++ decimal robot ++ codes " " ++ shut_fault_text fault ++ codes "\n"

-- the lines of an event with its reply, where the entry is the one that it made
abbrev pub event_text : {A : Type 0} → Event → Reply → Option (Entry A) → List ℕ
event_text (Post c order) (Posted n) e = posted_line c n
event_text (Post c order) LaneFull e = lane_full_line c
event_text (Post c order) NoClient e = no_client_line c
event_text (Take c) (Took n v) e = codes "took " ++ decimal c ++ codes " " ++ decimal n ++ codes " " ++ verdict_text v ++ codes "\n"
event_text (Take c) LaneEmpty e = codes "lane-empty " ++ decimal c ++ codes "\n"
event_text (Take c) (TakeRefused fault) e = codes "take-refused " ++ decimal c ++ codes " " ++ take_fault_text fault ++ codes "\n"
event_text (Take c) NoClient e = no_client_line c
event_text Tick (Ticked report) e = tick_text report.tick e
event_text Tick (TickRefused fault) e = tick_refused_line fault
event_text (Give c) (Gave seq) e = codes "gave " ++ decimal c ++ codes " " ++ decimal seq ++ codes "\n"
event_text (Give c) NothingPending e = codes "nothing " ++ decimal c ++ codes "\n"
event_text (Give c) OutletFull e = codes "outlet-full " ++ decimal c ++ codes "\n"
event_text (Give c) NoClient e = no_client_line c
event_text (Collect c) (Collected n) e = notice_line c n
event_text (Collect c) NothingThere e = codes "none " ++ decimal c ++ codes "\n"
event_text (Collect c) NoClient e = no_client_line c
event_text (Shut r) (ShutDone parting) e = codes "shut " ++ decimal r ++ codes "\n" ++ parting_text r parting
event_text (Shut r) (ShutRefused fault) e = shut_refused_line r fault
-- the core gives no other reply to an event
event_text event reply e = []

-- how many entries an event made
abbrev pub entries_made : Reply → ℕ
entries_made (Took n v) = 1
entries_made (Ticked report) = 1
entries_made (ShutDone parting) = 1
entries_made reply = 0

-- the lines of all events, by their replies and the entries that they made
abbrev pub run_text : {A : Type 0} → List Event → List Reply → List (Entry A) → List ℕ
run_text [] replies entries = []
run_text (event ∷ events) [] entries = []
run_text (event ∷ events) (reply ∷ replies) entries = event_text event reply (slice_get entries 0) ++ run_text events replies (drop (entries_made reply) entries)

-- ---- faults, as the error writer names them

-- what is wrong with a map: lines are counted from 1, rows and columns from 0
abbrev pub map_fault_text : MapFault → List ℕ
map_fault_text (map_fault.Header line) = codes "header " ++ decimal line
map_fault_text map_fault.Size = codes "size"
map_fault_text (map_fault.Row row) = codes "row " ++ decimal row
map_fault_text (map_fault.Cell row col) = codes "cell " ++ decimal row ++ codes " " ++ decimal col
map_fault_text (map_fault.Trailing line) = codes "trailing " ++ decimal line
map_fault_text map_fault.NoMemory = codes "memory"

-- why a fleet is not opened, by number and name, without the robots at fault
abbrev pub open_fault_text : OpenFault → List ℕ
open_fault_text open_fault.Limits = codes "1 limits"
open_fault_text open_fault.NoRobots = codes "2 no-robots"
open_fault_text (open_fault.Start robot) = codes "3 start"
open_fault_text (open_fault.Shared i j) = codes "4 shared"
open_fault_text open_fault.Hooks = codes "5 hooks"
open_fault_text open_fault.NoMemory = codes "6 no-memory"

-- why a text is no trace, by number and name
abbrev pub trace_fault_text : TraceFault → List ℕ
trace_fault_text trace_fault.NotJson = codes "1 not-json"
trace_fault_text trace_fault.Version = codes "2 version"
trace_fault_text trace_fault.Shape = codes "3 shape"
trace_fault_text trace_fault.NoMemory = codes "4 no-memory"

-- whether a limit was met
abbrev pub is_limit_met : Reply → Bool
is_limit_met (TakeRefused take_fault.ChapterFull) = true
is_limit_met (TickRefused tick_fault.ClockSpent) = true
is_limit_met (TickRefused tick_fault.ChapterFull) = true
is_limit_met (ShutRefused shut_fault.ChapterFull) = true
is_limit_met reply = false
