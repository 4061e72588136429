-- What a JSON value tells, if it has the form of a trace.
use Rattle.std.specs.Prelude.{ℕ, ◌+◌, ◌^◌, List, [], ◌∷◌, Bool, false, ◌==◌, ◌&&◌, ◌||◌, nat_lt, codes, Option, Some, None, if◌then◌else◌, option_map, option_and_then, unwrap_or}
use Rattle.std.specs.Str.{bytes_eq}
use Rattle.serde_json.specs.Data.{Data, null, boolean, number, string, array, object, Items, no_items, item, Members, no_members, member}
use Rattle.serde_json.specs.Find.{get, as_bool, as_u64, as_number, as_str, as_object}
use Rattle.fleet_queue.specs.declared.errand.Errand.{Errand}
use Rattle.fleet_book.specs.declared.order.Order.{Order}
use Rattle.fleet_book.specs.declared.order.Order.TheVariants.{Go, Close, Withdraw}
use Rattle.fleet_book.specs.declared.verdict.Verdict.{Verdict}
use Rattle.fleet_book.specs.declared.verdict.Verdict.TheVariants as verdict
use Rattle.fleet_book.specs.Refusals.{refusal_of}
use Rattle.fleet_hooks.specs.declared.law.StampLaw.{StampLaw}
use Rattle.fleet_history.specs.declared.history.Arrival.{Arrival}
use Rattle.fleet_history.specs.declared.history.Bye.{Bye}
use Rattle.fleet_history.specs.declared.history.ClientState.{ClientState}
use Rattle.fleet_history.specs.declared.history.RobotState.{RobotState}
use Rattle.fleet_history.specs.declared.history.Opening.{Opening}
use Rattle.fleet_history.specs.declared.history.Entry.{Entry}
use Rattle.fleet_history.specs.declared.history.Entry.TheVariants.{Take, Tick, Shut}
use Rattle.fleet_trace.specs.declared.version.Version.{Version}
use Rattle.fleet_trace.specs.Version.{version_number, version_of, has_withdrawal}
use Rattle.fleet_trace.specs.Trace.{Trace}

-- ---- lists, words, numbers

-- the items of an array, in order
abbrev pub list_of : Items → List Data
list_of no_items = []
list_of (item d ds) = d ∷ list_of ds

-- the items of an array; `None` of a value that is none
abbrev pub items_in : Data → Option (List Data)
items_in (array ds) = Some (list_of ds)
items_in null = None
items_in (boolean b) = None
items_in (number n) = None
items_in (string s) = None
items_in (object ms) = None

-- what the values tell one after the other, if each tells something
abbrev pub all_in : {X : Type 0} → (Data → Option X) → List Data → Option (List X)
all_in f [] = Some []
all_in f (d ∷ ds) = option_and_then (λ x. option_map (λ xs. x ∷ xs) (all_in f ds)) (f d)

-- what the items of an array tell
abbrev pub list_in : {X : Type 0} → (Data → Option X) → Data → Option (List X)
list_in f d = option_and_then (all_in f) (items_in d)

-- a number below 2^64
abbrev pub long_in : Data → Option ℕ
long_in d = option_and_then as_u64 (as_number d)

-- a number below 2^32
abbrev pub count_in : Data → Option ℕ
count_in d = option_and_then (λ n. if nat_lt n (2 ^ 32) then Some n else None) (long_in d)

-- whether there is a text, and it is this one
abbrev pub is_text : List ℕ → Option (List ℕ) → Bool
is_text letters None = false
is_text letters (Some text) = bytes_eq text letters

-- whether the value is the word
abbrev pub is_word : List ℕ → Data → Bool
is_word letters d = is_text letters (as_str d)

-- how many members there are
abbrev pub count_members : Members → ℕ
count_members no_members = 0
count_members (member k d ms) = count_members ms + 1

-- whether the value is an object of this many members
abbrev pub has_members : ℕ → Data → Bool
has_members n d = unwrap_or (option_map (λ ms. count_members ms == n) (as_object d)) false

-- ---- the opening

-- what is known of a client, as four items tell it
abbrev pub client_from : List Data → Option ClientState
client_from (taken ∷ accepted ∷ noticed ∷ closed ∷ []) =
    option_and_then (λ t. option_and_then (λ a. option_and_then (λ n. option_map (λ b. record { taken = t; accepted = a; noticed = n; closed = b }) (as_bool closed)) (long_in noticed)) (long_in accepted)) (long_in taken)
client_from _ = None

-- what is known of a client, as an array tells it
abbrev pub client_in : Data → Option ClientState
client_in d = option_and_then client_from (items_in d)

-- the errand that three items tell
abbrev pub errand_from : List Data → Option Errand
errand_from (client ∷ errand ∷ cell ∷ []) =
    option_and_then (λ c. option_and_then (λ n. option_map (λ x. record { client = c; number = n; cell = x }) (count_in cell)) (long_in errand)) (count_in client)
errand_from _ = None

-- the errand that an array tells
abbrev pub errand_in : Data → Option Errand
errand_in d = option_and_then errand_from (items_in d)

-- the law of stamps that two items tell
abbrev pub law_from : List Data → Option StampLaw
law_from (low ∷ high ∷ []) = option_and_then (λ l. option_map (λ h. record { low = l; high = h }) (count_in high)) (count_in low)
law_from _ = None

-- the law of stamps that an array tells
abbrev pub law_in : Data → Option StampLaw
law_in d = option_and_then law_from (items_in d)

-- the wait that a value tells: null tells that there is none; `None` of a value that tells nothing
abbrev pub wait_in : Data → Option (Option ℕ)
wait_in null = Some None
wait_in (boolean b) = None
wait_in (number n) = option_map (λ w. Some w) (as_u64 n)
wait_in (string s) = None
wait_in (array ds) = None
wait_in (object ms) = None

-- what is known of a robot, as six items tell it
abbrev pub robot_from : {A : Type 0} → List Data → Option (RobotState A)
robot_from (cell ∷ shut ∷ wait ∷ errands ∷ arrivals ∷ farewell ∷ []) =
    option_and_then (λ c. option_and_then (λ s. option_and_then (λ w. option_and_then (λ a. option_and_then (λ f.
    option_map (λ es. record { cell = c; shut = s; wait = w; errands = es; arrival_law = a; farewell_law = f }) (list_in errand_in errands))
    (law_in farewell)) (law_in arrivals)) (wait_in wait)) (as_bool shut)) (count_in cell)
robot_from _ = None

-- what is known of a robot, as an array tells it
abbrev pub robot_in : {A : Type 0} → Data → Option (RobotState A)
robot_in d = option_and_then robot_from (items_in d)

-- the opening that an object of exactly five members tells
abbrev pub opening_in : {A : Type 0} → Data → Option (Opening A)
opening_in d = if has_members 5 d then
    option_and_then (λ t. option_and_then (λ q. option_and_then (λ l. option_and_then (λ cs.
    option_map (λ rs. record { tick = t; queue = q; life = l; clients = cs; robots = rs }) (option_and_then (list_in robot_in) (get (codes "robots") d)))
    (option_and_then (list_in client_in) (get (codes "clients") d))) (option_and_then long_in (get (codes "life") d)))
    (option_and_then count_in (get (codes "queue") d))) (option_and_then long_in (get (codes "tick") d))
    else None

-- ---- entries

-- the order to close, where this is its word
abbrev pub close_in : Data → Option Order
close_in name = if is_word (codes "close") name then Some Close else None

-- the withdrawal of an errand, where this is its word and the version has it
abbrev pub withdraw_in : Version → Data → Data → Option Order
withdraw_in v name errand = if has_withdrawal v && is_word (codes "withdraw") name then option_map (λ n. Withdraw n) (long_in errand) else None

-- the order to go to a cell, where this is its word
abbrev pub go_in : Data → Data → Data → Option Order
go_in name robot cell =
    if is_word (codes "go") name then option_and_then (λ r. option_map (λ x. Go r x) (count_in cell)) (count_in robot) else None

-- the order that one, two or three items tell
abbrev pub order_from : Version → List Data → Option Order
order_from v (name ∷ []) = close_in name
order_from v (name ∷ a ∷ []) = withdraw_in v name a
order_from v (name ∷ a ∷ b ∷ []) = go_in name a b
order_from v _ = None

-- the order that an array tells
abbrev pub order_in : Version → Data → Option Order
order_in v d = option_and_then (order_from v) (items_in d)

-- the refusal that has a code: those above 8 came with withdrawal
abbrev pub refusal_in : Version → ℕ → Option Verdict
refusal_in v code = if has_withdrawal v || nat_lt code 9 then refusal_of code else None

-- the verdict that one or two items tell
abbrev pub verdict_from : Version → List Data → Option Verdict
verdict_from v (name ∷ []) =
    if is_word (codes "closed") name then Some verdict.Closed
    else if has_withdrawal v && is_word (codes "withdrawn") name then Some verdict.Withdrawn else None
verdict_from v (name ∷ a ∷ []) =
    if is_word (codes "accepted") name then option_map (λ n. verdict.Accepted n) (long_in a)
    else if is_word (codes "refused") name then option_and_then (refusal_in v) (long_in a) else None
verdict_from v _ = None

-- the verdict that an array tells
abbrev pub verdict_in : Version → Data → Option Verdict
verdict_in v d = option_and_then (verdict_from v) (items_in d)

-- the arrival that four items tell
abbrev pub arrival_from : List Data → Option Arrival
arrival_from (robot ∷ client ∷ errand ∷ stamp ∷ []) =
    option_and_then (λ r. option_and_then (λ c. option_and_then (λ n. option_map (λ s. record { robot = r; client = c; number = n; stamp = s }) (count_in stamp)) (long_in errand)) (count_in client)) (count_in robot)
arrival_from _ = None

-- the arrival that an array tells
abbrev pub arrival_in : Data → Option Arrival
arrival_in d = option_and_then arrival_from (items_in d)

-- the farewell that two items tell
abbrev pub bye_from : List Data → Option Bye
bye_from (robot ∷ stamp ∷ []) = option_and_then (λ r. option_map (λ s. record { robot = r; stamp = s }) (count_in stamp)) (count_in robot)
bye_from _ = None

-- the farewell that an array tells
abbrev pub bye_in : Data → Option Bye
bye_in d = option_and_then bye_from (items_in d)

-- the take that the values of its client, its order and its verdict tell
abbrev pub take_in : {A : Type 0} → Version → Data → Data → Data → Option (Entry A)
take_in v client order answer =
    option_and_then (λ c. option_and_then (λ o. option_map (λ a. Take c o a) (verdict_in v answer)) (order_in v order)) (count_in client)

-- the tick that the values of its cells, its arrivals and its farewells tell
abbrev pub tick_in : {A : Type 0} → Data → Data → Data → Option (Entry A)
tick_in to arrived farewells =
    option_and_then (λ cells. option_and_then (λ arrivals. option_map (λ leaving. Tick cells arrivals leaving) (list_in bye_in farewells)) (list_in arrival_in arrived)) (list_in count_in to)

-- the shut of the robot that a value tells, with the farewell's stamp if there is one, where this is its word
abbrev pub shut_in : {A : Type 0} → Data → Data → Option ℕ → Option (Entry A)
shut_in name robot farewell = if is_word (codes "shut") name then option_map (λ r. Shut r farewell) (count_in robot) else None

-- the entry that two, three or four items tell
abbrev pub entry_from : {A : Type 0} → Version → List Data → Option (Entry A)
entry_from v (name ∷ a ∷ []) = shut_in name a None
entry_from v (name ∷ a ∷ b ∷ []) = option_and_then (λ stamp. shut_in name a (Some stamp)) (count_in b)
entry_from v (name ∷ a ∷ b ∷ c ∷ []) =
    if is_word (codes "take") name then take_in v a b c
    else if is_word (codes "tick") name then tick_in a b c else None
entry_from v _ = None

-- the entry that an array tells
abbrev pub entry_in : {A : Type 0} → Version → Data → Option (Entry A)
entry_in v d = option_and_then (entry_from v) (items_in d)

-- ---- the trace

-- the trace of a number that the values of its opening and its entries tell
abbrev pub chapter_from : {A : Type 0} → Version → ℕ → Data → List Data → Option (Trace A)
chapter_from v n opening entries =
    option_and_then (λ o. option_map (λ es. record { number = n; history = record { opening = o; entries = es } }) (all_in (entry_in v) entries)) (opening_in opening)

-- the trace that a value of a version's form tells. A value has each key once, so four members with these four keys
-- have no other
abbrev pub told_in : {A : Type 0} → Version → Data → Option (Trace A)
told_in v d = if has_members 4 d then
    option_and_then (λ n. option_and_then (λ o. option_map (λ es. record { number = n; history = record { opening = o; entries = es } })
    (option_and_then (list_in (entry_in v)) (get (codes "entries") d)))
    (option_and_then opening_in (get (codes "opening") d))) (option_and_then count_in (get (codes "chapter") d))
    else None

-- the trace that a value tells, by the version that it names
abbrev pub trace_in : {A : Type 0} → Data → Option (Trace A)
trace_in d = option_and_then (λ v. told_in v d) (option_and_then version_of (version_number d))
