-- What each call answers C, for the world before and after it.
use Rattle.std.specs.Prelude.{ℕ, ◌+◌, ◌^◌, ◌≡◌, ◌≢◌, ◌<◌, ◌≤◌, ◌↔◌, [], Bool, true, Option, is_some, Result, Err, IfOk, OnErr, MatchOption, slice_get}
use Rattle.fleet_book.specs.declared.order.Order.{Order}
use Rattle.fleet_book.specs.declared.verdict.Verdict.{Verdict}
use Rattle.fleet_bound.specs.Arriving.{ArrivesInTurn}
use Rattle.fleet_history.specs.History.{clients, robots, clock, is_shut}
use Rattle.fleet_planner.specs.Aimed.{IsIdle}
use Rattle.fleet_core.specs.declared.faults.TickReport.{TickReport}
use Rattle.fleet_core.specs.declared.faults.TakeFault.{TakeFault}
use Rattle.fleet_core.specs.declared.faults.TakeFault.TheVariants as take
use Rattle.fleet_core.specs.declared.faults.TickFault.{TickFault}
use Rattle.fleet_core.specs.declared.faults.TickFault.TheVariants as tick
use Rattle.fleet_core.specs.declared.faults.ShutFault.{ShutFault}
use Rattle.fleet_core.specs.declared.faults.ShutFault.TheVariants as shut
use Rattle.fleet_core.specs.Core.{World, Takes, TakesTurns, Ticks, Shuts, pending, without_first, widened, next_world, HasRoom, HasNoRoom, HasNoEntries}
use Rattle.fleet_c.specs.Forms.{report_of, judgement_of, note_of}
use Rattle.fleet_c.specs.Codes.{take_code, tick_code, shut_code}
use Rattle.fleet_c.specs.declared.codes.TheConstants.{DONE, NO_MEMORY, NO_CLIENT, BOOK_SPENT, CHAPTER_BEGUN, NO_NOTICE, NO_TURNS, TOO_WIDE}
use Rattle.fleet_c.specs.declared.judgement.Judgement.{Judgement}
use Rattle.fleet_c.specs.declared.note.Note.{Note}
use Rattle.fleet_c.specs.declared.report.Report.{Report}

-- a client or robot of a number that is not below the count is refused with this code, and nothing changes
abbrev pub OfKnown : {A : Type 0} → ℕ → ℕ → ℕ → World A → ℕ → World A → Type 0 → Type 0
OfKnown count number refusal w code n Says = (count ≤ number → (code ≡ refusal) × (n ≡ w)) × (number < count → Says)

-- ---- orders

-- an order was judged, or is refused, as by the world
pub record IsTaken {A : Type 0} (w : World A) (client : ℕ) (order : Order) (code : ℕ) (told : Judgement) (n : World A) : Type 0 where
  pub answer : Result Verdict TakeFault
  pub code_is : code ≡ take_code answer
  pub mailbox_full : (answer ≡ Err take.MailboxFull) ↔ HasNoRoom w client
  pub chapter_full : (answer ≡ Err take.ChapterFull) ↔ (HasRoom w client × HasNoEntries w)
  pub takes : IfOk answer (λ v. Takes w client order v n × (told ≡ judgement_of v))
  pub arrives : IfOk answer (λ v. ArrivesInTurn w.floor w.history client order v)
  pub same : OnErr answer (n ≡ w)

-- the client's order, where there is such a client
abbrev pub Orders : {A : Type 0} → World A → ℕ → Order → ℕ → Judgement → World A → Type 0
Orders w client order code told n = OfKnown (clients w.history) client NO_CLIENT w code n (IsTaken w client order code told n)

-- ---- ticks and shuts

-- all robots made a step, or it is refused, as by the world
pub record IsTicked {A : Type 0} (w : World A) (code : ℕ) (report : Report) (n : World A) : Type 0 where
  pub answer : Result TickReport TickFault
  pub code_is : code ≡ tick_code answer
  pub clock_spent : (answer ≡ Err tick.ClockSpent) ↔ (clock w.history ≡ w.limits.clock)
  pub chapter_full : (answer ≡ Err tick.ChapterFull) ↔ ((clock w.history < w.limits.clock) × HasNoEntries w)
  pub ticks : IfOk answer (λ did. Ticks w did n × (report ≡ report_of did))
  pub same : OnErr answer (n ≡ w)

-- the robot was shut, or it is refused, as by the world
pub record IsShut {A : Type 0} (w : World A) (robot code : ℕ) (left : Bool) (n : World A) : Type 0 where
  pub answer : Result (Option ℕ) ShutFault
  pub code_is : code ≡ shut_code answer
  pub no_robot : (answer ≡ Err shut.NoRobot) ↔ (robots w.history ≤ robot)
  pub already : (answer ≡ Err shut.Already) ↔ ((robot < robots w.history) × (is_shut w.history robot ≡ true))
  pub shuts : IfOk answer (λ farewell. Shuts w robot farewell n × (left ≡ is_some farewell))
  pub same : OnErr answer (n ≡ w)

-- ---- mailboxes

-- the client's first notice is given and leaves its mailbox
abbrev pub IsGiven : {A : Type 0} → World A → ℕ → ℕ → Note → World A → Type 0
IsGiven w client code note n = MatchOption (slice_get (pending w client).notices 0)
    ((code ≡ NO_NOTICE) × (n ≡ w))
    (λ notice. (code ≡ DONE) × (note ≡ note_of notice) × (n ≡ without_first w client))

-- the client's first notice is given, where there is such a client
abbrev pub Gives : {A : Type 0} → World A → ℕ → ℕ → Note → World A → Type 0
Gives w client code note n = OfKnown (clients w.history) client NO_CLIENT w code n (IsGiven w client code note n)

-- the mailbox may hold this much more, at most 2^60 in all
pub record IsWidened {A : Type 0} (w : World A) (client extra code : ℕ) (n : World A) : Type 0 where
  pub too_wide : (code ≡ TOO_WIDE) ↔ (2 ^ 60 < (pending w client).limit + extra)
  pub widens : code ≡ DONE → n ≡ widened w client extra
  pub same : code ≢ DONE → n ≡ w
  pub refused : code ≢ DONE → code ≢ TOO_WIDE → code ≡ NO_MEMORY

-- the client's mailbox may hold this much more, where there is such a client
abbrev pub Widens : {A : Type 0} → World A → ℕ → ℕ → ℕ → World A → Type 0
Widens w client extra code n = OfKnown (clients w.history) client NO_CLIENT w code n (IsWidened w client extra code n)

-- ---- chapters

-- the next chapter has begun
pub record IsTurned {A : Type 0} (w : World A) (code : ℕ) (n : World A) : Type 0 where
  pub book_spent : (code ≡ BOOK_SPENT) ↔ (w.number + 1 ≡ w.limits.chapters)
  pub turns : code ≡ DONE → n ≡ next_world w
  pub same : code ≢ DONE → n ≡ w
  pub refused : code ≢ DONE → code ≢ BOOK_SPENT → code ≡ NO_MEMORY

-- ---- turns

-- the robots take turns from now on, if the chapter has no entry yet
pub record IsTakingTurns {A : Type 0} (w : World A) (code : ℕ) (n : World A) : Type 0 where
  pub begun : (code ≡ CHAPTER_BEGUN) ↔ (w.history.entries ≢ [])
  pub taken : code ≡ DONE → TakesTurns w n
  pub same : code ≢ DONE → n ≡ w
  pub refused : code ≢ DONE → code ≢ CHAPTER_BEGUN → code ≢ NO_TURNS → code ≡ NO_MEMORY

-- ---- searches before a tick

-- how many robots' fields are still to be searched: none if no robot has an errand
pub record CountsMissing {A : Type 0} (w : World A) (missing : ℕ) : Type 0 where
  pub idle : IsIdle w.history → missing ≡ 0
  pub few : missing ≤ robots w.history

-- a field was searched, or memory ran out, and the world is as it was
pub record IsSearched {A : Type 0} (w : World A) (code missing : ℕ) (n : World A) : Type 0 where
  pub same : n ≡ w
  pub counts : code ≡ DONE → CountsMissing n missing
  pub refused : code ≢ DONE → code ≡ NO_MEMORY
