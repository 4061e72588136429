-- Numbers that fit their types, as those of every chapter do.
use Rattle.std.specs.Prelude.{ℕ, ◌^◌, ◌<◌, ⊤, Option, Some, None}
use Rattle.std.specs.List.{AllByRecursion}
use Rattle.fleet_queue.specs.declared.errand.Errand.{Errand}
use Rattle.fleet_book.specs.declared.order.Order.{Order}
use Rattle.fleet_book.specs.declared.order.Order.TheVariants.{Go, Close, Withdraw}
use Rattle.fleet_book.specs.declared.verdict.Verdict.{Verdict}
use Rattle.fleet_book.specs.declared.verdict.Verdict.TheVariants.{Accepted}
use Rattle.fleet_hooks.specs.declared.law.StampLaw.{StampLaw}
use Rattle.fleet_history.specs.declared.history.Arrival.{Arrival}
use Rattle.fleet_history.specs.declared.history.Bye.{Bye}
use Rattle.fleet_history.specs.declared.history.ClientState.{ClientState}
use Rattle.fleet_history.specs.declared.history.RobotState.{RobotState}
use Rattle.fleet_history.specs.declared.history.Opening.{Opening}
use Rattle.fleet_history.specs.declared.history.Entry.{Entry}
use Rattle.fleet_history.specs.declared.history.Entry.TheVariants.{Take, Tick, Shut}
use Rattle.fleet_trace.specs.Trace.{Trace}

-- the number is below 2^32
abbrev pub Fits32 : ℕ → Type 0
Fits32 n = n < 2 ^ 32

-- the number is below 2^64
abbrev pub Fits64 : ℕ → Type 0
Fits64 n = n < 2 ^ 64

-- the numbers that are known of a client fit their types
pub record ClientFits (s : ClientState) : Type 0 where
  pub taken : Fits64 s.taken
  pub accepted : Fits64 s.accepted
  pub noticed : Fits64 s.noticed

-- the numbers of an errand fit their types
pub record ErrandFits (e : Errand) : Type 0 where
  pub client : Fits32 e.client
  pub number : Fits64 e.number
  pub cell : Fits32 e.cell

-- the bounds of a law of stamps fit their types
pub record LawFits (law : StampLaw) : Type 0 where
  pub low : Fits32 law.low
  pub high : Fits32 law.high

-- the wait fits its type, where there is one
abbrev pub WaitFits : Option ℕ → Type 0
WaitFits None = ⊤
WaitFits (Some wait) = Fits64 wait

-- the numbers that are known of a robot fit their types
pub record RobotFits {A : Type 0} (x : RobotState A) : Type 0 where
  pub cell : Fits32 x.cell
  pub wait : WaitFits x.wait
  pub errands : AllByRecursion ErrandFits x.errands
  pub arrival_law : LawFits x.arrival_law
  pub farewell_law : LawFits x.farewell_law

-- the numbers of an opening fit their types
pub record OpeningFits {A : Type 0} (o : Opening A) : Type 0 where
  pub tick : Fits64 o.tick
  pub queue : Fits32 o.queue
  pub life : Fits64 o.life
  pub clients : AllByRecursion ClientFits o.clients
  pub robots : AllByRecursion RobotFits o.robots

-- the numbers of an order fit their types
abbrev pub OrderFits : Order → Type 0
OrderFits (Go robot cell) = Fits32 robot × Fits32 cell
OrderFits Close = ⊤
OrderFits (Withdraw number) = Fits64 number

-- the number of an accepted errand fits its type; other verdicts have none
abbrev pub VerdictFits : Verdict → Type 0
VerdictFits (Accepted number) = Fits64 number
VerdictFits _ = ⊤

-- the numbers of an arrival fit their types
pub record ArrivalFits (a : Arrival) : Type 0 where
  pub robot : Fits32 a.robot
  pub client : Fits32 a.client
  pub number : Fits64 a.number
  pub stamp : Fits32 a.stamp

-- the numbers of a farewell fit their types
pub record ByeFits (b : Bye) : Type 0 where
  pub robot : Fits32 b.robot
  pub stamp : Fits32 b.stamp

-- the stamp of a farewell fits its type, where there is one
abbrev pub StampFits : Option ℕ → Type 0
StampFits None = ⊤
StampFits (Some stamp) = Fits32 stamp

-- the numbers of an entry fit their types
abbrev pub EntryFits : {A : Type 0} → Entry A → Type 0
EntryFits (Take client order v) = Fits32 client × OrderFits order × VerdictFits v
EntryFits (Tick to arrived farewells) = AllByRecursion Fits32 to × AllByRecursion ArrivalFits arrived × AllByRecursion ByeFits farewells
EntryFits (Shut robot farewell) = Fits32 robot × StampFits farewell

-- each number of a trace fits its type
pub record TraceFits {A : Type 0} (t : Trace A) : Type 0 where
  pub number : Fits32 t.number
  pub opening : OpeningFits t.history.opening
  pub entries : AllByRecursion EntryFits t.history.entries
