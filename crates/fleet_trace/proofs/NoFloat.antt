-- The value of an opening, and that of an entry, has no float.
use Rattle.std.proofs.Common.{◌≡◌, ℕ, List, [], ◌∷◌, map, false, refl, Option, Some, None}
use Rattle.serde_json.specs.Data.{Data}
use Rattle.serde_json.specs.View.{items_of}
use Rattle.serde_json.specs.Written.{has_float, items_have_float}
use Rattle.fleet_book.specs.declared.order.Order.{Order}
use Rattle.fleet_book.specs.declared.order.Order.TheVariants.{Go, Close, Withdraw}
use Rattle.fleet_book.specs.declared.verdict.Verdict.{Verdict}
use Rattle.fleet_book.specs.declared.verdict.Verdict.TheVariants as verdict
use Rattle.fleet_history.specs.declared.history.RobotState.{RobotState}
use Rattle.fleet_history.specs.declared.history.Opening.{Opening}
use Rattle.fleet_history.specs.declared.history.Entry.{Entry}
use Rattle.fleet_history.specs.declared.history.Entry.TheVariants.{Take, Tick, Shut}
use Rattle.fleet_trace.specs.Text.{counted, client_data, errand_data, wait_data, robot_data, opening_data, order_data, verdict_data, arrival_data, bye_data, entry_data}

list : {X : Type 0} (data_of : X → Data) → ((x : X) → has_float (data_of x) ≡ false) → (xs : List X) → items_have_float (items_of (map data_of xs)) ≡ false
list data_of none [] = refl
list data_of none (x ∷ xs) = rw (none x) (list data_of none xs)

wait : (w : Option ℕ) → has_float (wait_data w) ≡ false
wait None = refl
wait (Some w) = refl

robot : {A : Type 0} (x : RobotState A) → has_float (robot_data x) ≡ false
robot x = rw (wait x.wait, list errand_data (λ e. refl) x.errands) refl

pub opening : {A : Type 0} (o : Opening A) → has_float (opening_data o) ≡ false
opening o = rw (list client_data (λ s. refl) o.clients, list robot_data robot o.robots) refl

order : (x : Order) → has_float (order_data x) ≡ false
order (Go robot cell) = refl
order Close = refl
order (Withdraw number) = refl

answer : (v : Verdict) → has_float (verdict_data v) ≡ false
answer (verdict.Accepted number) = refl
answer verdict.Closed = refl
answer verdict.Withdrawn = refl
answer _ = refl

pub entry : {A : Type 0} (e : Entry A) → has_float (entry_data e) ≡ false
entry (Take client o v) = rw (order o, answer v) refl
entry (Tick to arrived farewells) = rw (list counted (λ n. refl) to, list arrival_data (λ a. refl) arrived, list bye_data (λ b. refl) farewells) refl
entry (Shut robot None) = refl
entry (Shut robot (Some stamp)) = refl
