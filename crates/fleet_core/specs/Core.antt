-- What a world holds, and what its calls do to it.
use Rattle.std.specs.Prelude.{ℕ, ◌+◌, ◌*◌, false, ◌≡◌, ◌<◌, ◌≤◌, List, [], ◌∷◌, ◌++◌, Option, Some, None, drop, length, slice_index_or, slice_set, map, replicate, slice_index}
use Rattle.std.specs.List.{range_with_len}
use Rattle.fleet_grid.specs.Floor.{Floor}
use Rattle.fleet_hooks.specs.declared.law.StampLaw.{StampLaw}
use Rattle.fleet_hooks.specs.declared.law.TieLaw.{TieLaw}
use Rattle.fleet_book.specs.declared.order.Order.{Order}
use Rattle.fleet_book.specs.declared.limits.Limits.{Limits}
use Rattle.fleet_book.specs.declared.verdict.Verdict.{Verdict}
use Rattle.fleet_history.specs.declared.history.Arrival.{Arrival}
use Rattle.fleet_history.specs.declared.history.Bye.{Bye}
use Rattle.fleet_history.specs.declared.history.RobotState.{RobotState}
use Rattle.fleet_history.specs.declared.history.Opening.{Opening}
use Rattle.fleet_history.specs.declared.history.Entry.{Entry}
use Rattle.fleet_history.specs.declared.history.Entry.TheVariants as entry
use Rattle.fleet_history.specs.History.{History, after, start, robots, clock, owed, unknown_client}
use Rattle.fleet_history.specs.Verdicts.{IsVerdict}
use Rattle.fleet_history.specs.Legal.{Fits}
use Rattle.fleet_history.specs.Next.{next_opening}
use Rattle.fleet_history.specs.Notices.{told}
use Rattle.fleet_planner.specs.Planned.{IsAdvancingTick}
use Rattle.turns_law.specs.Turns.{Turns}
use Rattle.turns_history.specs.Fleets.{TurnLimits, AreTurnsFor}
use Rattle.turns_history.specs.Kept.{AreServedBelow, KeepsTurnsAfter}
use Rattle.mover.specs.declared.manner.Manner.TheVariants as manner
use Rattle.mover.specs.Moving.{HasTurns, IsManner, IsPlannedAs}
use Rattle.fleet_bound.specs.Roomy.{EldestIsRoomy}
use Rattle.fleet_core.specs.declared.faults.TickReport.{TickReport}
use Rattle.fleet_core.specs.Hooks.{HookLaws, law_at}
use Rattle.fleet_core.specs.Pending.{Pending, no_pending}

-- ---- what a world holds

-- a world: its map and limits, how its ticks are planned, its chapter so far, and its clients' mailboxes
pub record World (A : Type 0) : Type 0 where
  pub floor : Floor
  pub limits : Limits
  -- the laws of the robots' tie closures
  pub ties : List TieLaw
  -- the turns that the robots take; none where they are planned plainly
  pub turns : Option Turns
  -- the chapter's number, and its history
  pub number : ℕ
  pub history : History A
  -- by client
  pub mailboxes : List Pending

-- a client's mailbox
abbrev pub pending : {A : Type 0} → World A → ℕ → Pending
pending w c = slice_index_or w.mailboxes c no_pending

-- each client's mailbox grows by what the entry tells it
abbrev pub delivered : {A : Type 0} → History A → Entry A → ℕ → List Pending → List Pending
delivered h e c [] = []
delivered h e c (box ∷ boxes) = record box { notices = box.notices ++ told h c e } ∷ delivered h e (c + 1) boxes

-- a world with one more entry
abbrev pub grown : {A : Type 0} → World A → Entry A → World A
grown w e = record w { history = after w.history e; mailboxes = delivered w.history e 0 w.mailboxes }

-- the world without the first notice of a mailbox
abbrev pub without_first : {A : Type 0} → World A → ℕ → World A
without_first w c = record w { mailboxes = slice_set w.mailboxes c (record (pending w c) { notices = drop 1 (pending w c).notices }) }

-- the world whose mailbox of this client may hold this much more
abbrev pub widened : {A : Type 0} → World A → ℕ → ℕ → World A
widened w c extra = record w { mailboxes = slice_set w.mailboxes c (record (pending w c) { limit = (pending w c).limit + extra }) }

-- the world in its next chapter
abbrev pub next_world : {A : Type 0} → World A → World A
next_world w = record w { number = w.number + 1; history = start (next_opening w.history) }

-- a client's notices and unfinished errands leave room for two more
abbrev pub HasRoom : {A : Type 0} → World A → ℕ → Type 0
HasRoom w c = length (pending w c).notices + owed w.history c + 2 ≤ (pending w c).limit

-- a client's notices and unfinished errands leave room for fewer than two more
abbrev pub HasNoRoom : {A : Type 0} → World A → ℕ → Type 0
HasNoRoom w c = (pending w c).limit < length (pending w c).notices + owed w.history c + 2

-- the chapter has room for an entry
abbrev pub HasEntries : {A : Type 0} → World A → Type 0
HasEntries w = length w.history.entries < w.limits.chapter

-- the chapter has no room for an entry
abbrev pub HasNoEntries : {A : Type 0} → World A → Type 0
HasNoEntries w = length w.history.entries ≡ w.limits.chapter

-- an order was judged and entered
pub record Takes {A : Type 0} (before : World A) (c : ℕ) (order : Order) (v : Verdict) (after : World A) : Type 0 where
  pub verdict : IsVerdict before.floor before.history c order v
  pub world : after ≡ grown before (entry.Take c order v)

-- the world ticked, as the report says. Any tick that fits and is planned may have been made
pub record Ticks {A : Type 0} (before : World A) (report : TickReport) (after : World A) : Type 0 where
  pub to : List ℕ
  pub arrived : List Arrival
  pub farewells : List Bye
  pub fits : Fits {A = A} before.floor before.history (entry.Tick to arrived farewells)
  pub planned : IsPlannedAs before.turns before.floor before.ties before.history to
  pub advancing : before.turns ≡ None → EldestIsRoomy before.floor before.history → IsAdvancingTick before.floor before.history to
  pub world : after ≡ grown before (entry.Tick to arrived farewells)
  pub tick : report.tick ≡ clock before.history + 1
  pub arrived_count : report.arrived ≡ length arrived
  pub farewell_count : report.farewells ≡ length farewells

-- a robot was shut, with this farewell
pub record Shuts {A : Type 0} (before : World A) (robot : ℕ) (farewell : Option ℕ) (after : World A) : Type 0 where
  pub fits : Fits {A = A} before.floor before.history (entry.Shut robot farewell)
  pub world : after ≡ grown before (entry.Shut robot farewell)

-- in turns: if the waits at its opening leave room for the bound of turns, the waits of the history do, and each robot whose front errand is
-- served has waited for less than robots times one turn
abbrev pub ServesInTurns : {A : Type 0} → Option Turns → Floor → History A → Type 0
ServesInTurns turns m h = (t : Turns) (l : TurnLimits) → turns ≡ Some t → AreTurnsFor m t l (robots h) → KeepsTurnsAfter m t l (start h.opening) →
    KeepsTurnsAfter m t l h × AreServedBelow t (robots h * l.turn) h

-- the robots take turns from now on, if the map has a bridge
pub record TakesTurns {A : Type 0} (before after : World A) : Type 0 where
  pub has : HasTurns before.floor (robots before.history) after.turns
  pub taken : IsManner before.floor manner.Turns after.turns
  pub world : after ≡ record before { turns = after.turns }

-- ---- the opening

-- a robot at the opening
abbrev pub robot_at : {A : Type 0} → List ℕ → List StampLaw → List StampLaw → ℕ → RobotState A
robot_at starts arrivals farewells r = record {
  cell = slice_index starts r;
  shut = false;
  wait = None;
  errands = [];
  arrival_law = law_at arrivals r;
  farewell_law = law_at farewells r;
}

-- the opening of the first chapter: robots without errands on these cells, and n clients that did nothing yet
abbrev pub opening_of : {A : Type 0} → List ℕ → ℕ → Limits → HookLaws → Opening A
opening_of starts n limits laws = record {
  tick = 0;
  queue = limits.queue;
  life = limits.life;
  clients = replicate n unknown_client;
  robots = map (robot_at starts laws.arrivals laws.farewells) (range_with_len 0 (length starts));
}

-- a world that was just opened
abbrev pub opened_world : {A : Type 0} → Floor → List ℕ → ℕ → Limits → HookLaws → World A
opened_world m starts n limits laws = record {
  floor = m;
  limits = limits;
  ties = laws.ties;
  turns = None;
  number = 0;
  history = start (opening_of starts n limits laws);
  mailboxes = replicate n (record { notices = []; limit = limits.mailbox });
}
