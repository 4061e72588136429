-- A world and what waits of its clients, as a session keeps them: what each event does to them.
use Rattle.std.specs.Prelude.{ℕ, ◌+◌, false, true, ◌≡◌, ◌<◌, ◌≤◌, List, [], ◌∷◌, ◌++◌, Some, drop, length, map, slice_get, slice_index_or, slice_set, replicate}
use Rattle.fleet_grid.specs.Floor.{Floor}
use Rattle.fleet_book.specs.declared.event.Event.{Event}
use Rattle.fleet_book.specs.declared.event.Event.TheVariants.{Post, Take, Tick, Give, Collect, Shut}
use Rattle.fleet_book.specs.declared.limits.Limits.{Limits}
use Rattle.fleet_book.specs.declared.notice.Notice.{Notice}
use Rattle.fleet_book.specs.declared.order.Order.{Order}
use Rattle.fleet_history.specs.History.{robots, clients, clock, is_shut, taken_count}
use Rattle.fleet_history.specs.Notices.{seq_of}
use Rattle.fleet_core.specs.declared.faults.TakeFault.TheVariants as take_fault
use Rattle.fleet_core.specs.declared.faults.TickFault.TheVariants as tick_fault
use Rattle.fleet_core.specs.declared.faults.ShutFault.TheVariants as shut_fault
use Rattle.fleet_world.specs.declared.reply.Reply.{Reply}
use Rattle.fleet_world.specs.declared.reply.Reply.TheVariants.{Posted, LaneFull, Took, LaneEmpty, TakeRefused, Ticked, TickRefused, Gave, NothingPending, OutletFull, Collected, NothingThere, ShutDone, ShutRefused, NoClient}
use Rattle.fleet_core.specs.Core.{World, pending, without_first, next_world, HasRoom, HasNoRoom, HasEntries, HasNoEntries, Takes, Ticks, Shuts, opened_world}
use Rattle.fleet_core.specs.Hooks.{HookLaws}
use Rattle.fleet_world.specs.Run.{State, Lists, lane, outlet}

-- ---- what waits of a client

-- the orders that it sent and nobody took, and the notices that it was given and did not collect
pub record Waiting : Type 0 where
  pub lane : List Order
  pub outlet : List Notice

-- of a client nothing waits
abbrev pub none_waiting : Waiting
none_waiting = record { lane = []; outlet = [] }

-- what waits once the client sent one more order
abbrev pub with_order : Waiting → Order → Waiting
with_order w order = record { lane = w.lane ++ order ∷ []; outlet = w.outlet }

-- what waits once the first order was taken
abbrev pub without_order : Waiting → Waiting
without_order w = record { lane = drop 1 w.lane; outlet = w.outlet }

-- what waits once the client was given one more notice
abbrev pub with_notice : Waiting → Notice → Waiting
with_notice w notice = record { lane = w.lane; outlet = w.outlet ++ notice ∷ [] }

-- what waits once the client collected the first notice
abbrev pub without_notice : Waiting → Waiting
without_notice w = record { lane = w.lane; outlet = drop 1 w.outlet }

-- ---- a world and what waits of its clients

-- a world, and what waits of its clients
pub record Talk (A : Type 0) : Type 0 where
  pub world : World A
  -- by client
  pub clients : List Waiting

-- the talk of a world and what waits of its clients
abbrev pub talk_of : {A : Type 0} → World A → List Waiting → Talk A
talk_of w l = record { world = w; clients = l }

-- what waits of the client
abbrev pub waiting : {A : Type 0} → Talk A → ℕ → Waiting
waiting s c = slice_index_or s.clients c none_waiting

-- the notices that wait in the client's mailbox, the oldest first
abbrev pub mailbox : {A : Type 0} → Talk A → ℕ → List Notice
mailbox s c = (pending s.world c).notices

-- the talk with another world, and with this waiting of one client
abbrev pub with_waiting : {A : Type 0} → World A → Talk A → ℕ → Waiting → Talk A
with_waiting w s c l = record { world = w; clients = slice_set s.clients c l }

-- a world that was just opened, before its clients did anything
abbrev pub opened_talk : {A : Type 0} → Floor → List ℕ → ℕ → Limits → HookLaws → Talk A
opened_talk m starts n limits laws = record { world = opened_world m starts n limits laws; clients = replicate n none_waiting }

-- a world whose clients did nothing yet
abbrev pub quiet_talk : {A : Type 0} → World A → Talk A
quiet_talk w = talk_of w (replicate (clients w.history) none_waiting)

-- a talk in its world's next chapter
abbrev pub next_talk : {A : Type 0} → Talk A → Talk A
next_talk s = record { world = next_world s.world; clients = s.clients }

-- ---- steps

-- there is a client of this number
abbrev pub InRange : {A : Type 0} → Talk A → ℕ → Type 0
InRange s c = c < clients s.world.history

-- there is no client of this number
abbrev pub IsNoClient : {A : Type 0} → Talk A → ℕ → Type 0
IsNoClient s c = clients s.world.history ≤ c

-- From s, this reply may be given to the event, and t is what follows. An order's number is counted over all chapters.
abbrev pub TalkStep : {A : Type 0} → Talk A → Event → Reply → Talk A → Type 0
TalkStep s (Post c order) NoClient t = IsNoClient s c × (t ≡ s)
TalkStep s (Post c order) LaneFull t = InRange s c × (s.world.limits.lane ≤ length (waiting s c).lane) × (t ≡ s)
TalkStep s (Post c order) (Posted n) t =
    InRange s c × (length (waiting s c).lane < s.world.limits.lane)
    × (n ≡ taken_count s.world.history c + length (waiting s c).lane + 1)
    × (t ≡ with_waiting s.world s c (with_order (waiting s c) order))
TalkStep s (Take c) NoClient t = IsNoClient s c × (t ≡ s)
TalkStep s (Take c) LaneEmpty t = InRange s c × ((waiting s c).lane ≡ []) × (t ≡ s)
TalkStep s (Take c) (TakeRefused take_fault.MailboxFull) t =
    InRange s c × (0 < length (waiting s c).lane) × HasNoRoom s.world c × (t ≡ s)
TalkStep s (Take c) (TakeRefused take_fault.ChapterFull) t =
    InRange s c × (0 < length (waiting s c).lane) × HasRoom s.world c × HasNoEntries s.world × (t ≡ s)
TalkStep s (Take c) (Took order_no v) t =
    InRange s c × HasRoom s.world c × HasEntries s.world
    × (order : Order) × (slice_get (waiting s c).lane 0 ≡ Some order)
    × Takes s.world c order v t.world × (order_no ≡ taken_count s.world.history c + 1)
    × (t.clients ≡ slice_set s.clients c (without_order (waiting s c)))
TalkStep s Tick (TickRefused tick_fault.ClockSpent) t = (clock s.world.history ≡ s.world.limits.clock) × (t ≡ s)
TalkStep s Tick (TickRefused tick_fault.ChapterFull) t =
    (clock s.world.history < s.world.limits.clock) × HasNoEntries s.world × (t ≡ s)
TalkStep s Tick (Ticked report) t =
    (clock s.world.history < s.world.limits.clock) × HasEntries s.world
    × Ticks s.world report t.world × (t.clients ≡ s.clients)
TalkStep s (Shut r) (ShutRefused shut_fault.NoRobot) t = (robots s.world.history ≤ r) × (t ≡ s)
TalkStep s (Shut r) (ShutRefused shut_fault.Already) t =
    (r < robots s.world.history) × (is_shut s.world.history r ≡ true) × (t ≡ s)
TalkStep s (Shut r) (ShutRefused shut_fault.ChapterFull) t =
    (r < robots s.world.history) × (is_shut s.world.history r ≡ false) × HasNoEntries s.world × (t ≡ s)
TalkStep s (Shut r) (ShutDone farewell) t = HasEntries s.world × Shuts s.world r farewell t.world × (t.clients ≡ s.clients)
TalkStep s (Give c) NoClient t = IsNoClient s c × (t ≡ s)
TalkStep s (Give c) NothingPending t = InRange s c × (mailbox s c ≡ []) × (t ≡ s)
TalkStep s (Give c) OutletFull t =
    InRange s c × (0 < length (mailbox s c)) × (s.world.limits.outlet ≤ length (waiting s c).outlet) × (t ≡ s)
TalkStep s (Give c) (Gave seq) t =
    InRange s c × (length (waiting s c).outlet < s.world.limits.outlet)
    × (notice : Notice) × (slice_get (mailbox s c) 0 ≡ Some notice) × (seq ≡ seq_of notice)
    × (t ≡ with_waiting (without_first s.world c) s c (with_notice (waiting s c) notice))
TalkStep s (Collect c) NoClient t = IsNoClient s c × (t ≡ s)
TalkStep s (Collect c) NothingThere t = InRange s c × ((waiting s c).outlet ≡ []) × (t ≡ s)
TalkStep s (Collect c) (Collected notice) t =
    InRange s c × (slice_get (waiting s c).outlet 0 ≡ Some notice)
    × (t ≡ with_waiting s.world s c (without_notice (waiting s c)))
-- no other reply is given
TalkStep s _ _ t = ⊥

-- ---- what a session keeps of a run

-- what waits of a client that has these lists
abbrev pub forget_lists : Lists → Waiting
forget_lists l = record { lane = lane l; outlet = outlet l }

-- a run's state without what is over
abbrev pub forget : {A : Type 0} → State A → Talk A
forget s = record { world = s.world; clients = map forget_lists s.clients }
