-- The core run: what each event does to a world and to the lists of its clients.
use Rattle.std.specs.Prelude.{ℕ, ◌+◌, false, true, ◌≡◌, ◌<◌, ◌≤◌, List, [], ◌∷◌, ◌++◌, Some, drop, length, slice_get, slice_index_or, slice_set, replicate}
use Rattle.fleet_grid.specs.Floor.{Floor}
use Rattle.fleet_book.specs.declared.event.Event.{Event}
use Rattle.fleet_book.specs.declared.event.Event.TheVariants.{Post, Take, Tick, Give, Collect, Shut}
use Rattle.fleet_book.specs.declared.limits.Limits.{Limits}
use Rattle.fleet_book.specs.declared.notice.Notice.{Notice}
use Rattle.fleet_book.specs.declared.order.Order.{Order}
use Rattle.fleet_history.specs.History.{robots, clients, clock, is_shut}
use Rattle.fleet_history.specs.Notices.{seq_of}
use Rattle.fleet_world.specs.declared.faults.RunFault.{RunFault}
use Rattle.fleet_world.specs.declared.faults.RunFault.TheVariants as run_fault
use Rattle.fleet_core.specs.declared.faults.TakeFault.TheVariants as take_fault
use Rattle.fleet_core.specs.declared.faults.TickFault.TheVariants as tick_fault
use Rattle.fleet_core.specs.declared.faults.ShutFault.TheVariants as shut_fault
use Rattle.fleet_world.specs.declared.reply.Reply.{Reply}
use Rattle.fleet_world.specs.declared.reply.Reply.TheVariants.{Posted, LaneFull, Took, LaneEmpty, TakeRefused, Ticked, TickRefused, Gave, NothingPending, OutletFull, Collected, NothingThere, ShutDone, ShutRefused, NoClient}
use Rattle.fleet_core.specs.Core.{World, pending, without_first, HasRoom, HasNoRoom, HasEntries, HasNoEntries, Takes, Ticks, Shuts, opened_world}
use Rattle.fleet_core.specs.Hooks.{HookLaws}

-- ---- the lists of the clients

-- what a client sent and was given, and how much of it was taken and collected
pub record Lists : Type 0 where
  pub sent : List Order
  pub taken : List Order
  pub given : List Notice
  pub collected : List Notice

-- the lists of a client that did nothing yet
abbrev pub no_lists : Lists
no_lists = record { sent = []; taken = []; given = []; collected = [] }

-- what a client sent and nobody took yet
abbrev pub lane : Lists → List Order
lane l = drop (length l.taken) l.sent

-- what a client was given and did not collect yet
abbrev pub outlet : Lists → List Notice
outlet l = drop (length l.collected) l.given

-- the lists once the client sent one more order
abbrev pub with_sent : Lists → Order → Lists
with_sent l order = record l { sent = l.sent ++ order ∷ [] }

-- the lists once one more of the client's orders was taken
abbrev pub with_taken : Lists → Order → Lists
with_taken l order = record l { taken = l.taken ++ order ∷ [] }

-- the lists once the client was given one more notice
abbrev pub with_given : Lists → Notice → Lists
with_given l notice = record l { given = l.given ++ notice ∷ [] }

-- the lists once the client collected one more notice
abbrev pub with_collected : Lists → Notice → Lists
with_collected l notice = record l { collected = l.collected ++ notice ∷ [] }

-- a world, and the lists of its clients
pub record State (A : Type 0) : Type 0 where
  pub world : World A
  -- by client
  pub clients : List Lists

-- the state of a world and its clients' lists
abbrev pub state_of : {A : Type 0} → World A → List Lists → State A
state_of w l = record { world = w; clients = l }

-- the client's lists
abbrev pub lists : {A : Type 0} → State A → ℕ → Lists
lists s c = slice_index_or s.clients c no_lists

-- the notices that wait in the client's mailbox, the oldest first
abbrev pub mailbox : {A : Type 0} → State A → ℕ → List Notice
mailbox s c = (pending s.world c).notices

-- the state with another world and other lists of one client
abbrev pub with_lists : {A : Type 0} → World A → State A → ℕ → Lists → State A
with_lists w s c l = record { world = w; clients = slice_set s.clients c l }

-- ---- steps

-- there is a client of this number
abbrev pub InRange : {A : Type 0} → State A → ℕ → Type 0
InRange s c = c < clients s.world.history

-- there is no client of this number
abbrev pub IsNoClient : {A : Type 0} → State A → ℕ → Type 0
IsNoClient s c = clients s.world.history ≤ c

-- From s, the core may give this reply to the event and go on to t.
abbrev pub Step : {A : Type 0} → State A → Event → Reply → State A → Type 0
Step s (Post c order) NoClient t = IsNoClient s c × (t ≡ s)
Step s (Post c order) LaneFull t = InRange s c × (s.world.limits.lane ≤ length (lane (lists s c))) × (t ≡ s)
Step s (Post c order) (Posted n) t =
    InRange s c × (length (lane (lists s c)) < s.world.limits.lane) × (n ≡ length (lists s c).sent + 1)
    × (t ≡ with_lists s.world s c (with_sent (lists s c) order))
Step s (Take c) NoClient t = IsNoClient s c × (t ≡ s)
Step s (Take c) LaneEmpty t = InRange s c × (lane (lists s c) ≡ []) × (t ≡ s)
Step s (Take c) (TakeRefused take_fault.MailboxFull) t =
    InRange s c × (0 < length (lane (lists s c))) × HasNoRoom s.world c × (t ≡ s)
Step s (Take c) (TakeRefused take_fault.ChapterFull) t =
    InRange s c × (0 < length (lane (lists s c))) × HasRoom s.world c × HasNoEntries s.world × (t ≡ s)
Step s (Take c) (Took order_no v) t =
    InRange s c × HasRoom s.world c × HasEntries s.world
    × (order : Order) × (slice_get (lane (lists s c)) 0 ≡ Some order)
    × Takes s.world c order v t.world × (order_no ≡ length (lists s c).taken + 1)
    × (t.clients ≡ slice_set s.clients c (with_taken (lists s c) order))
Step s Tick (TickRefused tick_fault.ClockSpent) t = (clock s.world.history ≡ s.world.limits.clock) × (t ≡ s)
Step s Tick (TickRefused tick_fault.ChapterFull) t =
    (clock s.world.history < s.world.limits.clock) × HasNoEntries s.world × (t ≡ s)
Step s Tick (Ticked report) t =
    (clock s.world.history < s.world.limits.clock) × HasEntries s.world
    × Ticks s.world report t.world × (t.clients ≡ s.clients)
Step s (Shut r) (ShutRefused shut_fault.NoRobot) t = (robots s.world.history ≤ r) × (t ≡ s)
Step s (Shut r) (ShutRefused shut_fault.Already) t =
    (r < robots s.world.history) × (is_shut s.world.history r ≡ true) × (t ≡ s)
Step s (Shut r) (ShutRefused shut_fault.ChapterFull) t =
    (r < robots s.world.history) × (is_shut s.world.history r ≡ false) × HasNoEntries s.world × (t ≡ s)
Step s (Shut r) (ShutDone farewell) t = HasEntries s.world × Shuts s.world r farewell t.world × (t.clients ≡ s.clients)
Step s (Give c) NoClient t = IsNoClient s c × (t ≡ s)
Step s (Give c) NothingPending t = InRange s c × (mailbox s c ≡ []) × (t ≡ s)
Step s (Give c) OutletFull t =
    InRange s c × (0 < length (mailbox s c)) × (s.world.limits.outlet ≤ length (outlet (lists s c))) × (t ≡ s)
Step s (Give c) (Gave seq) t =
    InRange s c × (length (outlet (lists s c)) < s.world.limits.outlet)
    × (notice : Notice) × (slice_get (mailbox s c) 0 ≡ Some notice) × (seq ≡ seq_of notice)
    × (t ≡ with_lists (without_first s.world c) s c (with_given (lists s c) notice))
Step s (Collect c) NoClient t = IsNoClient s c × (t ≡ s)
Step s (Collect c) NothingThere t = InRange s c × (outlet (lists s c) ≡ []) × (t ≡ s)
Step s (Collect c) (Collected notice) t =
    InRange s c × (slice_get (outlet (lists s c)) 0 ≡ Some notice)
    × (t ≡ with_lists s.world s c (with_collected (lists s c) notice))
-- no other reply is given
Step s _ _ t = ⊥

-- the core may give these replies to these events, one step after another
abbrev pub Run : {A : Type 0} → State A → List Event → List Reply → State A → Type 0
Run s [] [] t = t ≡ s
Run {A} s (event ∷ events) (reply ∷ replies) t = (mid : State A) × Step s event reply mid × Run mid events replies t
Run s [] (reply ∷ replies) t = ⊥
Run s (event ∷ events) [] t = ⊥

-- memory was refused at one of n events, counted from 0
abbrev pub IsAtEvent : ℕ → RunFault → Type 0
IsAtEvent n (run_fault.NoMemory i) = i < n
IsAtEvent n (run_fault.Opening fault) = ⊥

-- the state of a world that was just opened, before its clients did anything
abbrev pub opened_state : {A : Type 0} → Floor → List ℕ → ℕ → Limits → HookLaws → State A
opened_state m starts n limits laws = record { world = opened_world m starts n limits laws; clients = replicate n no_lists }
