-- What lies under the lock, what always holds of it, and what its calls do.
use Rattle.std.specs.Prelude.{ℕ, zero, suc, ◌+◌, ◌≡◌, ◌<◌, ◌≤◌, ◌⊎◌, Bool, true, false, if◌then◌else◌, List, [], ◌∷◌, ◌++◌, Option, Some, None, length, slice_get, slice_set, map}
use Rattle.std.specs.List.{sum_by}
use Rattle.fleet_book.specs.declared.order.Order.{Order}
use Rattle.fleet_book.specs.declared.verdict.Verdict.{Verdict}
use Rattle.fleet_book.specs.declared.notice.Notice.{Notice}
use Rattle.fleet_book.specs.Limits.{AreValid}
use Rattle.fleet_history.specs.History.{clients, clock}
use Rattle.fleet_history.specs.Legal.{IsLegal}
use Rattle.fleet_core.specs.Core.{World, pending, next_world, Takes, Ticks, HasRoom, HasNoRoom, HasEntries, HasNoEntries}
use Rattle.fleet_core.specs.declared.faults.TickReport.{TickReport}
use Rattle.fleet_office.specs.declared.report.TurnCause.{TurnCause}
use Rattle.fleet_office.specs.declared.report.TurnCause.TheVariants as cause
use Rattle.fleet_office.specs.declared.report.TurnReport.{TurnReport}
use Rattle.fleet_office.specs.declared.report.TurnFault.{TurnFault}
use Rattle.fleet_lanes.specs.Names.{LaneName}
use Rattle.fleet_lanes.specs.Ends.{EndView}
use Rattle.fleet_office.specs.Since.{GoesOn, IsSince}

-- what lies under the lock: the world, the hall's ends of the rings, and how many ticks the ledger counts
pub record HallView (A : Type 0) : Type 0 where
  pub world : World A
  -- by client
  pub ends : List (EndView A)
  -- the ledger's
  pub total : ℕ

-- a client's hall end and the world belong together: the end is on the client's rings, and what was taken, and what was given and
-- then the mailbox, go on from what the office began with
pub record RingLaw {A : Type 0} (rings : List (LaneName A)) (began w : World A) (c : ℕ) (e : EndView A) : Type 0 where
  pub lane : slice_get rings c ≡ Some e.lane
  pub keeps : GoesOn began.history w.history c e.taken (e.given ++ (pending w c).notices)

-- each client's hall end and the world belong together
abbrev pub RingLaws : {A : Type 0} → List (LaneName A) → World A → World A → List (EndView A) → Type 0
RingLaws {A} rings began w ends = (c : ℕ) (e : EndView A) → slice_get ends c ≡ Some e → RingLaw rings began w c e

-- what always holds under the lock of an office of these rings, which began with this world
pub record IsLawful {A : Type 0} (rings : List (LaneName A)) (began w : World A) (ends : List (EndView A)) (total : ℕ) : Type 0 where
  pub laws : RingLaws rings began w ends
  pub since : IsSince began w
  pub legal : IsLegal w.floor w.history
  -- the ledger's total is the clock
  pub clock : total ≡ clock w.history
  pub box_count : length w.mailboxes ≡ clients w.history
  pub end_count : length ends ≡ clients w.history
  pub ring_count : length ends ≡ length rings
  pub few : length ends ≤ 64
  pub valid : AreValid w.limits

-- an end that looked at its rings, and did no more
abbrev pub StaysBut : {A : Type 0} → EndView A → EndView A → Type 0
StaysBut e d = d ≡ record { lane = e.lane; taken = e.taken; given = e.given; free = e.free; known = d.known }

-- an end that took an order
abbrev pub took : {A : Type 0} → EndView A → Order → List Order → EndView A
took e o known = record { lane = e.lane; taken = e.taken ++ o ∷ []; given = e.given; free = e.free; known = known }

-- an end and the world took an order of the client, or none
abbrev pub TakesFrom : {A : Type 0} → World A → EndView A → ℕ → Option Verdict → World A → EndView A → Type 0
TakesFrom w e c None v d = (v ≡ w) × (d ≡ e) × (length e.known ≡ 0)
TakesFrom w e c (Some verdict) v d =
    (o : Order) × Takes w c o verdict v × HasRoom w c × HasEntries w × (d ≡ took e o d.known)

-- the ring, and the two lists of its hall end
pub record Lists (A : Type 0) : Type 0 where
  pub lane : LaneName A
  pub taken : List Order
  pub given : List Notice

-- the ring and the lists of a hall end
abbrev pub lists : {A : Type 0} → EndView A → Lists A
lists e = record { lane = e.lane; taken = e.taken; given = e.given }

-- the rings and the lists of all hall ends
abbrev pub lists_of : {A : Type 0} → List (EndView A) → List (Lists A)
lists_of ends = map lists ends

-- the hall looked at its rings, and did no more
pub record Looks {A : Type 0} (h g : HallView A) : Type 0 where
  pub world : g.world ≡ h.world
  pub lists : lists_of g.ends ≡ lists_of h.ends
  pub total : g.total ≡ h.total

-- the client's end knows of an order in the lane
abbrev pub ShowsOrder : {A : Type 0} → HallView A → ℕ → Type 0
ShowsOrder {A} h c = (e : EndView A) × (slice_get h.ends c ≡ Some e) × (0 < length e.known)

-- one order of the client's lane was taken into the world
pub record TakesOrder {A : Type 0} (h : HallView A) (c : ℕ) (verdict : Verdict) (g : HallView A) : Type 0 where
  pub order : Order
  pub end : EndView A
  pub there : slice_get h.ends c ≡ Some end
  pub takes : Takes h.world c order verdict g.world
  pub room : HasRoom h.world c
  pub entries : HasEntries h.world
  pub lists : lists_of g.ends ≡ slice_set (lists_of h.ends) c (record { lane = end.lane; taken = end.taken ++ order ∷ []; given = end.given })
  pub total : g.total ≡ h.total

-- no order was found in the client's lane, and none was known to be there
pub record TakesNone {A : Type 0} (h : HallView A) (c : ℕ) (g : HallView A) : Type 0 where
  pub looks : Looks h g
  pub none : (e : EndView A) → slice_get h.ends c ≡ Some e → length e.known ≡ 0

-- an order of the client got this verdict, or none was there
abbrev pub TakesOne : {A : Type 0} → HallView A → ℕ → Option Verdict → HallView A → Type 0
TakesOne h c None g = TakesNone h c g
TakesOne h c (Some verdict) g = TakesOrder h c verdict g

-- ---- gives

-- the world with this left in a mailbox
abbrev pub handed : {A : Type 0} → World A → ℕ → List Notice → World A
handed w c left = record {
  floor = w.floor;
  limits = w.limits;
  ties = w.ties;
  turns = w.turns;
  number = w.number;
  history = w.history;
  mailboxes = slice_set w.mailboxes c (record { notices = left; limit = (pending w c).limit });
}

-- this many notices went from the client's mailbox to its outlet
pub record Gives {A : Type 0} (w v : World A) (e d : EndView A) (c n : ℕ) : Type 0 where
  pub moved : List Notice
  pub count : n ≡ length moved
  pub box : (pending w c).notices ≡ moved ++ (pending v c).notices
  pub world : v ≡ handed w c (pending v c).notices
  pub end : d ≡ record { lane = e.lane; taken = e.taken; given = e.given ++ moved; free = d.free; known = e.known }

-- this many notices were given to the client, until its mailbox was empty or its outlet knew no free slot
pub record GivesOne {A : Type 0} (h : HallView A) (c n : ℕ) (g : HallView A) : Type 0 where
  pub before : EndView A
  pub after : EndView A
  pub there : slice_get h.ends c ≡ Some before
  pub gives : Gives h.world g.world before after c n
  pub ends : g.ends ≡ slice_set h.ends c after
  pub until : ((pending g.world c).notices ≡ []) ⊎ (after.free ≡ 0)
  pub total : g.total ≡ h.total

-- how many notices were given, to all clients
abbrev pub given_count : {A : Type 0} → HallView A → ℕ
given_count h = sum_by (λ e. length e.given) h.ends

-- the first k clients were given to, one after another; the count is the number of notices
abbrev pub GivesFrom : {A : Type 0} → ℕ → HallView A → ℕ → HallView A → Type 0
GivesFrom zero h n g = (g ≡ h) × (n ≡ 0)
GivesFrom {A} (suc k) h n g = (mid : HallView A) × (m : ℕ) × (j : ℕ) × GivesFrom k h m mid × GivesOne mid k j g × (n ≡ m + j)

-- all clients were given to, by number
abbrev pub GivesAll : {A : Type 0} → HallView A → ℕ → HallView A → Type 0
GivesAll h n g = GivesFrom (length h.ends) h n g

-- ---- a turn

-- this many orders of the client were taken, one after another
abbrev pub TakesMany : {A : Type 0} → ℕ → HallView A → ℕ → HallView A → Type 0
TakesMany zero h c g = g ≡ h
TakesMany {A} (suc n) h c g = (mid : HallView A) × (v : Verdict) × TakesMany n h c mid × TakesOrder mid c v g

-- n orders of the client were taken, and one more that its lane shows has no room in its mailbox
pub record IsHeld {A : Type 0} (h : HallView A) (c n : ℕ) (g : HallView A) : Type 0 where
  pub fewer : n < h.world.limits.lane
  pub shows : ShowsOrder g c
  pub full : HasNoRoom h.world c
  pub looks : Looks h g

-- why no further order of the client was taken, of n: its mailbox is full, or n is the limit, or none was found
abbrev pub IsEnough : {A : Type 0} → HallView A → ℕ → ℕ → Bool → HallView A → Type 0
IsEnough h c n true g = IsHeld h c n g
IsEnough h c n false g = ((n ≡ h.world.limits.lane) × (g ≡ h)) ⊎ TakesNone h c g

-- n orders of the client were taken, at most `lane`, and whether it met a full mailbox
pub record TakesSome {A : Type 0} (h : HallView A) (c n : ℕ) (held : Bool) (g : HallView A) : Type 0 where
  pub most : n ≤ h.world.limits.lane
  pub mid : HallView A
  pub takes : TakesMany n h c mid
  pub enough : IsEnough mid c n held g

-- 1 for a client that met a full mailbox, 0 for another
abbrev pub held_count : Bool → ℕ
held_count held = if held then 1 else 0

-- the orders of the first k clients were taken
abbrev pub TakesFirst : {A : Type 0} → ℕ → HallView A → ℕ → ℕ → HallView A → Type 0
TakesFirst zero h taken held g = (g ≡ h) × (taken ≡ 0) × (held ≡ 0)
TakesFirst {A} (suc k) h taken held g =
    (mid : HallView A) × (m : ℕ) × (j : ℕ) × (n : ℕ) × (full : Bool)
    × TakesFirst k h m j mid × TakesSome mid k n full g × (taken ≡ m + n) × (held ≡ j + held_count full)

-- why a take ends a turn: the lane shows an order that has room in the mailbox and none in the chapter, or memory was refused
abbrev pub IsTakeCause : {A : Type 0} → HallView A → ℕ → TurnCause → HallView A → Type 0
IsTakeCause h c cause.ClockSpent g = ⊥
IsTakeCause h c cause.ChapterFull g = ShowsOrder g c × HasRoom h.world c × HasNoEntries h.world
IsTakeCause h c cause.NoMemory g = Unit {0}

-- why a tick ends a turn, the clock before the chapter
abbrev pub IsTickCause : {A : Type 0} → HallView A → TurnCause → Type 0
IsTickCause h cause.ClockSpent = clock h.world.history ≡ h.world.limits.clock
IsTickCause h cause.ChapterFull = (clock h.world.history < h.world.limits.clock) × HasNoEntries h.world
IsTickCause h cause.NoMemory = Unit {0}

-- n orders of the client were taken, fewer than `lane`, and then one was refused
pub record TakesUntil {A : Type 0} (h : HallView A) (c n : ℕ) (why : TurnCause) (g : HallView A) : Type 0 where
  pub fewer : n < h.world.limits.lane
  pub mid : HallView A
  pub takes : TakesMany n h c mid
  pub cause : IsTakeCause mid c why g
  pub looks : Looks mid g

-- the orders of the first clients were taken, until one was refused
pub record StopsTaking {A : Type 0} (h : HallView A) (taken held : ℕ) (why : TurnCause) (g : HallView A) : Type 0 where
  pub client : ℕ
  pub known : client < length h.ends
  pub mid : HallView A
  pub before : ℕ
  pub more : ℕ
  pub takes : TakesFirst client h before held mid
  pub last : TakesUntil mid client more why g
  pub count : taken ≡ before + more

-- one tick was made and counted
pub record TicksOnce {A : Type 0} (h : HallView A) (report : TickReport) (g : HallView A) : Type 0 where
  pub ticks : Ticks h.world report g.world
  pub ends : g.ends ≡ h.ends
  pub total : g.total ≡ h.total + 1

-- a whole turn: gives, takes client by client, one tick, gives
pub record Turns {A : Type 0} (h : HallView A) (report : TurnReport) (g : HallView A) : Type 0 where
  pub given : HallView A
  pub first : ℕ
  pub gives : GivesAll h first given
  pub taken : HallView A
  pub takes : TakesFirst (length h.ends) given report.taken report.held taken
  pub ticked : HallView A
  pub tick : TickReport
  pub ticks : TicksOnce taken tick ticked
  pub last : ℕ
  pub gives_again : GivesAll ticked last g
  pub count : report.given ≡ first + last
  pub arrived : report.arrived ≡ tick.arrived
  pub shown : report.tick ≡ Some tick.tick

-- a turn that ended early, and what it did before
pub record StopsTurn {A : Type 0} (h : HallView A) (fault : TurnFault) (g : HallView A) : Type 0 where
  pub given : HallView A
  pub gives : GivesAll h fault.report.given given
  pub stops : StopsTaking given fault.report.taken fault.report.held fault.cause g
      ⊎ (TakesFirst (length h.ends) given fault.report.taken fault.report.held g × IsTickCause g fault.cause)
  pub none_arrived : fault.report.arrived ≡ 0
  pub no_tick : fault.report.tick ≡ None

-- a turn without its tick: gives, takes client by client, gives
pub record Settles {A : Type 0} (h : HallView A) (report : TurnReport) (g : HallView A) : Type 0 where
  pub given : HallView A
  pub first : ℕ
  pub gives : GivesAll h first given
  pub taken : HallView A
  pub takes : TakesFirst (length h.ends) given report.taken report.held taken
  pub last : ℕ
  pub gives_again : GivesAll taken last g
  pub count : report.given ≡ first + last
  pub none_arrived : report.arrived ≡ 0
  pub no_tick : report.tick ≡ None

-- the same that ended in its takes, and what it did before
pub record StopsSettling {A : Type 0} (h : HallView A) (fault : TurnFault) (g : HallView A) : Type 0 where
  pub given : HallView A
  pub gives : GivesAll h fault.report.given given
  pub stops : StopsTaking given fault.report.taken fault.report.held fault.cause g
  pub none_arrived : fault.report.arrived ≡ 0
  pub no_tick : fault.report.tick ≡ None

-- ---- chapters

-- the hall in its next chapter
abbrev pub next_hall : {A : Type 0} → HallView A → HallView A
next_hall h = record { world = next_world h.world; ends = h.ends; total = h.total }
