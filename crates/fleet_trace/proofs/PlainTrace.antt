-- The value of a trace is plain, and nests no deeper than a reader follows.
use Rattle.std.proofs.Common.{ℕ, ◌^◌, ◌<◌, ◌≤◌, refl, Option, Some, None, arith}
use Rattle.serde_json.specs.Data.{depth}
use Rattle.serde_json.specs.Read.{max_depth}
use Rattle.fleet_queue.specs.declared.errand.Errand.{Errand}
use Rattle.fleet_book.specs.declared.order.Order.{Order}
use Rattle.fleet_book.specs.declared.order.Order.TheVariants.{Go, Close, Withdraw}
use Rattle.fleet_book.specs.declared.verdict.Verdict.{Verdict}
use Rattle.fleet_book.specs.declared.verdict.Verdict.TheVariants as verdict
use Rattle.fleet_hooks.specs.declared.law.StampLaw.{StampLaw}
use Rattle.fleet_history.specs.declared.history.Arrival.{Arrival}
use Rattle.fleet_history.specs.declared.history.Bye.{Bye}
use Rattle.fleet_history.specs.declared.history.ClientState.{ClientState}
use Rattle.fleet_history.specs.declared.history.RobotState.{RobotState}
use Rattle.fleet_history.specs.declared.history.Opening.{Opening}
use Rattle.fleet_history.specs.declared.history.Entry.{Entry}
use Rattle.fleet_history.specs.declared.history.Entry.TheVariants.{Take, Tick, Shut}
use Rattle.fleet_trace.specs.Trace.{Trace}
use Rattle.fleet_trace.specs.inside.Plain.{IsPlain}
use Rattle.fleet_trace.specs.Fits.{Fits32, ClientFits, ErrandFits, LawFits, WaitFits, RobotFits, OpeningFits, OrderFits, VerdictFits, ArrivalFits, ByeFits, EntryFits, TraceFits}
use Rattle.fleet_trace.specs.Text.{counted, client_data, errand_data, law_data, wait_data, robot_data, opening_data, order_data, verdict_data, arrival_data, bye_data, entry_data, trace_data}
use Rattle.fleet_trace.proofs.Lists.{list_plain, list_shallow}

wide : (n : ℕ) → Fits32 n → n < 2 ^ 64
wide n h = omega (arith, h)

client_plain : (s : ClientState) → ClientFits s → IsPlain (client_data s)
client_plain s h = (h.taken, (h.accepted, (h.noticed, (tt, tt))))

errand_plain : (e : Errand) → ErrandFits e → IsPlain (errand_data e)
errand_plain e h = (wide e.client h.client, (h.number, (wide e.cell h.cell, tt)))

law_plain : (law : StampLaw) → LawFits law → IsPlain (law_data law)
law_plain law h = (wide law.low h.low, (wide law.high h.high, tt))

wait_plain : (w : Option ℕ) → WaitFits w → IsPlain (wait_data w)
wait_plain None h = tt
wait_plain (Some w) h = h

robot_plain : {A : Type 0} (x : RobotState A) → RobotFits x → IsPlain (robot_data x)
robot_plain x h =
    (wide x.cell h.cell, (tt, (wait_plain x.wait h.wait, (list_plain errand_data ErrandFits errand_plain x.errands h.errands, (law_plain x.arrival_law h.arrival_law, (law_plain x.farewell_law h.farewell_law, tt))))))

pub opening_plain : {A : Type 0} (o : Opening A) → OpeningFits o → IsPlain (opening_data o)
opening_plain o h =
    ((list_plain client_data ClientFits client_plain o.clients h.clients, (h.life, (wide o.queue h.queue, (list_plain robot_data RobotFits robot_plain o.robots h.robots, (h.tick, tt))))), refl)

order_plain : (x : Order) → OrderFits x → IsPlain (order_data x)
order_plain (Go robot cell) h = (tt, (wide robot h.0, (wide cell h.1, tt)))
order_plain Close h = (tt, tt)
order_plain (Withdraw number) h = (tt, (h, tt))

verdict_plain : (v : Verdict) → VerdictFits v → IsPlain (verdict_data v)
verdict_plain (verdict.Accepted number) h = (tt, (h, tt))
verdict_plain verdict.Closed h = (tt, tt)
verdict_plain verdict.Withdrawn h = (tt, tt)
verdict_plain _ h = (tt, (omega arith, tt))

arrival_plain : (a : Arrival) → ArrivalFits a → IsPlain (arrival_data a)
arrival_plain a h = (wide a.robot h.robot, (wide a.client h.client, (h.number, (wide a.stamp h.stamp, tt))))

bye_plain : (b : Bye) → ByeFits b → IsPlain (bye_data b)
bye_plain b h = (wide b.robot h.robot, (wide b.stamp h.stamp, tt))

number_plain : (n : ℕ) → Fits32 n → IsPlain (counted n)
number_plain n h = wide n h

pub entry_plain : {A : Type 0} (e : Entry A) → EntryFits e → IsPlain (entry_data e)
entry_plain (Take client o v) h = (tt, (wide client h.0, (order_plain o h.1, (verdict_plain v h.2, tt))))
entry_plain (Tick to arrived farewells) h =
    (tt, (list_plain counted Fits32 number_plain to h.0, (list_plain arrival_data ArrivalFits arrival_plain arrived h.1, (list_plain bye_data ByeFits bye_plain farewells h.2, tt))))
entry_plain (Shut robot None) h = (tt, (wide robot h.0, tt))
entry_plain (Shut robot (Some stamp)) h = (tt, (wide robot h.0, (wide stamp h.1, tt)))

pub trace_plain : {A : Type 0} (t : Trace A) → TraceFits t → IsPlain (trace_data t)
trace_plain t h =
    ((wide t.number h.number, (list_plain entry_data EntryFits entry_plain t.history.entries h.entries, (opening_plain t.history.opening h.opening, (omega arith, tt)))), refl)

-- ---- depth

wait_flat : (w : Option ℕ) → depth (wait_data w) ≤ 0
wait_flat None = omega arith
wait_flat (Some w) = omega arith

robot_shallow : {A : Type 0} (x : RobotState A) → depth (robot_data x) ≤ 3
robot_shallow x = omega (arith, wait_flat x.wait, list_shallow errand_data 1 (λ e. omega arith) x.errands)

pub opening_shallow : {A : Type 0} (o : Opening A) → depth (opening_data o) ≤ 5
opening_shallow o = omega (arith, list_shallow client_data 1 (λ s. omega arith) o.clients, list_shallow robot_data 3 robot_shallow o.robots)

order_shallow : (x : Order) → depth (order_data x) ≤ 1
order_shallow (Go robot cell) = omega arith
order_shallow Close = omega arith
order_shallow (Withdraw number) = omega arith

verdict_shallow : (v : Verdict) → depth (verdict_data v) ≤ 1
verdict_shallow (verdict.Accepted number) = omega arith
verdict_shallow verdict.Closed = omega arith
verdict_shallow verdict.Withdrawn = omega arith
verdict_shallow _ = omega arith

pub entry_shallow : {A : Type 0} (e : Entry A) → depth (entry_data e) ≤ 3
entry_shallow (Take client o v) = omega (arith, order_shallow o, verdict_shallow v)
entry_shallow (Tick to arrived farewells) =
    omega (arith, list_shallow counted 0 (λ n. omega arith) to, list_shallow arrival_data 1 (λ a. omega arith) arrived, list_shallow bye_data 1 (λ b. omega arith) farewells)
entry_shallow (Shut robot None) = omega arith
entry_shallow (Shut robot (Some stamp)) = omega arith

pub trace_shallow : {A : Type 0} (t : Trace A) → depth (trace_data t) ≤ max_depth
trace_shallow t = omega (arith, list_shallow entry_data 3 entry_shallow t.history.entries, opening_shallow t.history.opening)
