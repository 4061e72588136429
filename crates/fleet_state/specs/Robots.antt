-- The robots of a state, and what a step and a take make of them.
use Rattle.std.specs.Prelude.{⊤, ℕ, ◌≡◌, ◌<◌, ◌++◌, List, [], ◌∷◌, Option, None, length, slice_set, slice_index_or}
use Rattle.fleet_queue.specs.declared.errand.Errand.{Errand}
use Rattle.fleet_queue.specs.Queue.{Queue, is_of, without_behind_front}
use Rattle.fleet_book.specs.declared.facts.Place.{Place}
use Rattle.fleet_book.specs.declared.facts.Place.TheVariants.{Absent, Front, Behind}
use Rattle.fleet_book.specs.declared.order.Order.{Order}
use Rattle.fleet_book.specs.declared.order.Order.TheVariants.{Go}
use Rattle.fleet_book.specs.declared.verdict.Verdict.{Verdict}
use Rattle.fleet_book.specs.declared.verdict.Verdict.TheVariants.{Accepted}
use Rattle.fleet_history.specs.History.{errand_for}
use Rattle.fleet_history.specs.Taking.{kept_by}
use Rattle.fleet_history.specs.Verdicts.{place_in}
use Rattle.fleet_history.specs.Waited.{wait_taken}
use Rattle.fleet_state.specs.Landed.{without_landed, wait_on}

-- by number: the cells, the unfinished errands, and the waits
pub record Robots : Type 0 where
  pub cells : List ℕ
  pub queues : List Queue
  pub waits : List (Option ℕ)

-- the queue of a robot that does not exist: empty, and without room
abbrev pub no_queue : Queue
no_queue = record { items = []; capacity = 0 }

-- the robot's queue
abbrev pub queue_at : List Queue → ℕ → Queue
queue_at queues r = slice_index_or queues r no_queue

-- ---- one robot's step

-- the robots once this one stepped to the cell
abbrev pub stepped : Robots → ℕ → ℕ → Robots
stepped x r cell = record {
  cells = slice_set x.cells r cell;
  queues = slice_set x.queues r (without_landed cell (queue_at x.queues r));
  waits = slice_set x.waits r (wait_on cell (queue_at x.queues r).items (slice_index_or x.waits r None));
}

-- ---- a take

-- an accepted errand finds room in its robot's queue
abbrev pub HasPlace : List Queue → Order → Verdict → Type 0
HasPlace queues (Go robot cell) (Accepted number) = length (queue_at queues robot).items < (queue_at queues robot).capacity
HasPlace queues _ _ = ⊤

-- the robots once the errand joined this one's queue
abbrev pub joined : Robots → ℕ → Errand → Robots
joined x r e = record {
  cells = x.cells;
  queues = slice_set x.queues r (record { items = (queue_at x.queues r).items ++ e ∷ []; capacity = (queue_at x.queues r).capacity });
  waits = slice_set x.waits r (wait_taken (e ∷ []) (slice_index_or x.waits r None));
}

-- a queue without the client's errand of this number, where that is not the front
abbrev pub without_errand : ℕ → ℕ → Queue → Queue
without_errand client number q = record q { items = without_behind_front (is_of client number) q.items }

-- a robot's queue once the client's order has this verdict
abbrev pub queue_taken : ℕ → ℕ → Order → Verdict → Queue → Queue
queue_taken r client order v q = record { items = kept_by client order v q.items ++ errand_for r client order v; capacity = q.capacity }

-- the second are the first once the client's order has this verdict: only an accepted or withdrawn errand changes a
-- queue, and a robot that had none begins to wait
pub record AreTaken (client : ℕ) (order : Order) (v : Verdict) (x y : Robots) : Type 0 where
  pub cells : y.cells ≡ x.cells
  pub queue_count : length y.queues ≡ length x.queues
  pub queues : (r : ℕ) → r < length x.queues → queue_at y.queues r ≡ queue_taken r client order v (queue_at x.queues r)
  pub wait_count : length y.waits ≡ length x.waits
  pub waits : (r : ℕ) → r < length x.waits → slice_index_or y.waits r None ≡ wait_taken (errand_for r client order v) (slice_index_or x.waits r None)

-- ---- where an errand stands

-- where the client's errand of this number stands, by all queues
abbrev pub IsPlaceAmong : List Queue → ℕ → ℕ → Place → Type 0
IsPlaceAmong queues c number Absent = (r : ℕ) → r < length queues → place_in (is_of c number) (queue_at queues r).items ≡ Absent
IsPlaceAmong queues c number Front = (r : ℕ) × (r < length queues) × (place_in (is_of c number) (queue_at queues r).items ≡ Front)
IsPlaceAmong queues c number Behind = (r : ℕ) × (r < length queues) × (place_in (is_of c number) (queue_at queues r).items ≡ Behind)
