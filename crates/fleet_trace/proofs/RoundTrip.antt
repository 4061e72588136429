-- The value of a trace tells that trace, and so does its text.
use Rattle.std.proofs.Common.{◌≡◌, ℕ, ◌^◌, List, refl, sym, ap, ◌∙◌, Option, Some, None, option_and_then, Global}
use Rattle.std.specs.Prelude.{IsUtf8, unwrap_or}
use Rattle.std.proofs.lemmas.Bool.{lt-ltb}
use Rattle.serde_json.specs.Read.{read}
use Rattle.fleet_queue.specs.declared.errand.Errand.{Errand}
use Rattle.fleet_book.specs.declared.order.Order.{Order}
use Rattle.fleet_book.specs.declared.order.Order.TheVariants.{Go, Close, Withdraw}
use Rattle.fleet_book.specs.declared.verdict.Verdict.{Verdict}
use Rattle.fleet_book.specs.declared.verdict.Verdict.TheVariants as verdict
use Rattle.fleet_hooks.specs.declared.law.StampLaw.{StampLaw}
use Rattle.fleet_history.specs.declared.history.Arrival.{Arrival}
use Rattle.fleet_history.specs.declared.history.Bye.{Bye}
use Rattle.fleet_history.specs.declared.history.ClientState.{ClientState}
use Rattle.fleet_history.specs.declared.history.RobotState.{RobotState}
use Rattle.fleet_history.specs.declared.history.Opening.{Opening}
use Rattle.fleet_history.specs.declared.history.Entry.{Entry}
use Rattle.fleet_history.specs.declared.history.Entry.TheVariants.{Take, Tick, Shut}
use Rattle.fleet_trace.specs.declared.version.Version.TheVariants.{Second}
use Rattle.fleet_trace.specs.Trace.{Trace}
use Rattle.fleet_trace.specs.Fits.{Fits32, ClientFits, ErrandFits, LawFits, RobotFits, OpeningFits, OrderFits, ArrivalFits, ByeFits, EntryFits, TraceFits}
use Rattle.fleet_trace.specs.Text.{counted, client_data, errand_data, law_data, wait_data, robot_data, opening_data, order_data, verdict_data, arrival_data, bye_data, entry_data, trace_data, trace_text}
use Rattle.fleet_trace.specs.Reads.{Tells}
use Rattle.fleet_trace.specs.Told.{count_in, client_in, errand_in, law_in, wait_in, robot_in, opening_in, order_in, verdict_in, arrival_in, bye_in, entry_in, trace_in}
use Rattle.fleet_trace.proofs.Lists.{list_again}
use Rattle.fleet_trace.proofs.PlainTrace.{trace_plain, trace_shallow}
use Rattle.fleet_trace.proofs.TextLaws.{reads_back}

pub number_again : (n : ℕ) → Fits32 n → count_in (counted n) ≡ Some n
number_again n h = rw (lt-ltb n (2 ^ 32) h) refl

client_again : (s : ClientState) → ClientFits s → client_in (client_data s) ≡ Some s
client_again s h = refl

errand_again : (e : Errand) → ErrandFits e → errand_in (errand_data e) ≡ Some e
errand_again e h = rw (number_again e.client h.client, number_again e.cell h.cell) refl

law_again : (law : StampLaw) → LawFits law → law_in (law_data law) ≡ Some law
law_again law h = rw (number_again law.low h.low, number_again law.high h.high) refl

wait_again : (w : Option ℕ) → wait_in (wait_data w) ≡ Some w
wait_again None = refl
wait_again (Some w) = refl

robot_again : {A : Type 0} (x : RobotState A) → RobotFits x → robot_in (robot_data x) ≡ Some x
robot_again x h =
    rw (number_again x.cell h.cell, wait_again x.wait, list_again errand_data ErrandFits errand_in errand_again x.errands h.errands, law_again x.arrival_law h.arrival_law, law_again x.farewell_law h.farewell_law) refl

pub opening_again : {A : Type 0} (o : Opening A) → OpeningFits o → opening_in (opening_data o) ≡ Some o
opening_again o h =
    rw (number_again o.queue h.queue, list_again client_data ClientFits client_in client_again o.clients h.clients, list_again robot_data RobotFits robot_in robot_again o.robots h.robots) refl

order_again : (x : Order) → OrderFits x → order_in Second (order_data x) ≡ Some x
order_again (Go robot cell) h = rw (number_again robot h.0, number_again cell h.1) refl
order_again Close h = refl
order_again (Withdraw number) h = refl

verdict_again : (v : Verdict) → verdict_in Second (verdict_data v) ≡ Some v
verdict_again (verdict.Accepted number) = refl
verdict_again verdict.Closed = refl
verdict_again verdict.Withdrawn = refl
verdict_again _ = refl

arrival_again : (a : Arrival) → ArrivalFits a → arrival_in (arrival_data a) ≡ Some a
arrival_again a h = rw (number_again a.robot h.robot, number_again a.client h.client, number_again a.stamp h.stamp) refl

bye_again : (b : Bye) → ByeFits b → bye_in (bye_data b) ≡ Some b
bye_again b h = rw (number_again b.robot h.robot, number_again b.stamp h.stamp) refl

pub entry_again : {A : Type 0} (e : Entry A) → EntryFits e → entry_in Second (entry_data e) ≡ Some e
entry_again (Take client o v) h = rw (number_again client h.0, order_again o h.1, verdict_again v) refl
entry_again (Tick to arrived farewells) h =
    rw (list_again counted Fits32 count_in number_again to h.0, list_again arrival_data ArrivalFits arrival_in arrival_again arrived h.1, list_again bye_data ByeFits bye_in bye_again farewells h.2) refl
entry_again (Shut robot None) h = rw (number_again robot h.0) refl
entry_again (Shut robot (Some stamp)) h = rw (number_again stamp h.1, number_again robot h.0) refl

pub trace_again : {A : Type 0} (t : Trace A) → TraceFits t → trace_in (trace_data t) ≡ Some t
trace_again t h =
    rw (number_again t.number h.number, opening_again t.history.opening h.opening, list_again entry_data EntryFits (entry_in Second) entry_again t.history.entries h.entries) refl

pub reads_again : {A : Type 0} (t : Trace A) → TraceFits t → option_and_then trace_in (read (trace_text t)) ≡ Some t
reads_again t h = ap (option_and_then trace_in) (reads_back (trace_data t) (trace_plain t h) (trace_shallow t)) ∙ trace_again t h

-- ---- bytes that are the text

pub tells_itself : (bytes : List ℕ) (t : Trace Global) → bytes ≡ trace_text t → TraceFits t → IsUtf8 bytes → Tells bytes t
tells_itself bytes t e fits text = (trace_data t, ((text, ap read e ∙ reads_back (trace_data t) (trace_plain t fits) (trace_shallow t)), trace_again t fits))

pub tells_only : (bytes : List ℕ) (t u : Trace Global) → bytes ≡ trace_text t → TraceFits t → Tells bytes u → u ≡ t
tells_only bytes t u e fits h =
    let same : Some u ≡ Some t = sym h.1.1 ∙ ap (option_and_then trace_in) (sym h.1.0.1 ∙ ap read e) ∙ reads_again t fits in
    ap (λ (o : Option (Trace Global)). unwrap_or o t) same
