-- What the calls that do many things at once answer C.
use Rattle.std.specs.Prelude.{ℕ, Bool, zero, suc, ◌≡◌, ◌≢◌, ◌<◌, ◌≤◌, ◌++◌, ◌∷◌, [], List, length, map, drop, Option, Some, None, IsSomeAnd, MatchOption, slice_get, slice_index_or}
use Rattle.fleet_book.specs.declared.notice.Notice.{Notice}
use Rattle.fleet_history.specs.declared.history.Arrival.{Arrival}
use Rattle.fleet_history.specs.declared.history.Bye.{Bye}
use Rattle.fleet_history.specs.declared.history.Entry.{Entry}
use Rattle.fleet_history.specs.declared.history.Entry.TheVariants as entry
use Rattle.fleet_history.specs.History.{clients, robots, place}
use Rattle.fleet_core.specs.Core.{World, grown, pending, without_first}
use Rattle.fleet_c.specs.Answers.{OfKnown, IsTicked}
use Rattle.fleet_c.specs.Forms.{note_of, order_of, arrival_of}
use Rattle.fleet_c.specs.Roomy.{LetsIn}
use Rattle.fleet_c.specs.declared.codes.TheConstants.{DONE, NO_CLIENT, WRONG_LENGTH, BAD_ORDER}
use Rattle.fleet_c.specs.declared.judgement.Judgement.{Judgement}
use Rattle.fleet_c.specs.declared.landing.Landing.{Landing}
use Rattle.fleet_c.specs.declared.note.Note.{Note}
use Rattle.fleet_c.specs.declared.report.Report.{Report}
use Rattle.fleet_c.specs.declared.request.Request.{Request}

-- ---- notices

-- the world after this many notices of the client were given
abbrev pub without_many : {A : Type 0} → World A → ℕ → ℕ → World A
without_many w client zero = w
without_many w client (suc k) = without_first (without_many w client k) client

-- the notice that comes after this many
abbrev pub notice_after : {A : Type 0} → World A → ℕ → ℕ → Option Notice
notice_after w client k = slice_get (pending (without_many w client k) client).notices 0

-- `count` notices were given, one after the other: until the list is full, or none is left
pub record AreGiven {A : Type 0} (w : World A) (client : ℕ) (before after : List Note) (count : ℕ) (n : World A) : Type 0 where
  pub fit : count ≤ length before
  pub world : n ≡ without_many w client count
  pub given : (k : ℕ) → k < count → IsSomeAnd (notice_after w client k) (λ notice. (d : Note) → slice_index_or after k d ≡ note_of notice)
  pub rest : (k : ℕ) (d : Note) → count ≤ k → slice_index_or after k d ≡ slice_index_or before k d
  pub all : count < length before → notice_after w client count ≡ None

-- the client's notices are given, as many as the list has places for, where there is such a client
abbrev pub GivesMany : {A : Type 0} → World A → ℕ → ℕ → List Note → List Note → ℕ → World A → Type 0
GivesMany w client code before after count n =
    OfKnown (clients w.history) client NO_CLIENT w code n ((code ≡ DONE) × AreGiven w client before after count n)

-- ---- orders

-- one order of a list, for a fleet that refuses these cells: of its client, or of no kind that there is
abbrev pub Requested : {A : Type 0} → List Bool → World A → Request → ℕ → Judgement → World A → Type 0
Requested cells w r code told n = MatchOption (order_of r) ((code ≡ BAD_ORDER) × (n ≡ w)) (λ order. LetsIn cells w r.client order code told n)

-- the first of the orders were taken one after the other, each with its judgement
abbrev pub TookMany : {A : Type 0} → List Bool → World A → List Request → List Judgement → ℕ → World A → Type 0
TookMany cells w requests told zero n = n ≡ w
TookMany {A} cells w requests told (suc k) n = (mid : World A) × TookMany cells w requests told k mid
    × ((r : Request) (d : Judgement) → slice_get requests k ≡ Some r → Requested cells mid r DONE (slice_index_or told k d) n)

-- the orders were taken until the list ended, or one was refused, which is said of the world after those before it
pub record AreTaken {A : Type 0} (cells : List Bool) (w : World A) (requests : List Request) (before after : List Judgement) (code count : ℕ) (n : World A) : Type 0 where
  pub fit : count ≤ length requests
  pub taken : TookMany cells w requests after count n
  pub rest : (k : ℕ) (d : Judgement) → count ≤ k → slice_index_or after k d ≡ slice_index_or before k d
  pub all : count ≡ length requests → code ≡ DONE
  pub stopped : (r : Request) → slice_get requests count ≡ Some r → (code ≢ DONE) × ((told : Judgement) × Requested cells n r code told n)

-- the lists have as many places as there are orders, or nothing is taken, and nothing told
abbrev pub TakesMany : {A : Type 0} → List Bool → World A → List Request → ℕ → List Judgement → List Judgement → ℕ → ℕ → World A → Type 0
TakesMany cells w requests code before after had count n = (length before ≡ length requests → AreTaken cells w requests before after code count n)
    × (length before ≢ length requests → (code ≡ WRONG_LENGTH) × (n ≡ w) × (after ≡ before) × (count ≡ had))

-- ---- a tick with what it shows

-- the lists that a tick writes
pub record Lists : Type 0 where
  pub cells : List ℕ
  pub arrivals : List Landing
  pub farewells : List ℕ

-- the three lists that a tick writes, as one
abbrev pub lists : List ℕ → List Landing → List ℕ → Lists
lists cells arrivals farewells = record { cells = cells; arrivals = arrivals; farewells = farewells }

-- each list has one place a robot
pub record HavePlaces {A : Type 0} (w : World A) (l : Lists) : Type 0 where
  pub cells : length l.cells ≡ robots w.history
  pub arrivals : length l.arrivals ≡ robots w.history
  pub farewells : length l.farewells ≡ robots w.history

-- the world's last entry
abbrev pub IsLast : {A : Type 0} → World A → Entry A → Type 0
IsLast {A} w e = (before : List (Entry A)) × (w.history.entries ≡ before ++ e ∷ [])

-- the tick is the last entry, and the lists have what it shows; after that they are as they were
pub record AreShown {A : Type 0} (w : World A) (before after : Lists) (n : World A) : Type 0 where
  pub to : List ℕ
  pub arrived : List Arrival
  pub farewells : List Bye
  pub entry : n ≡ grown w (entry.Tick to arrived farewells)
  pub fit : (length arrived ≤ length before.arrivals) × (length farewells ≤ length before.farewells)
  pub cells_are : after.cells ≡ place n.history
  pub arrivals_are : after.arrivals ≡ map (arrival_of after.cells) arrived ++ drop (length arrived) before.arrivals
  pub farewells_are : after.farewells ≡ map (λ b. b.robot) farewells ++ drop (length farewells) before.farewells

-- a tick as by the world, and what it shows; refused first where a list has not one place a robot
abbrev pub TicksInto : {A : Type 0} → World A → ℕ → Report → Lists → Lists → World A → Type 0
TicksInto w code report before after n =
    (HavePlaces w before → IsTicked w code report n × (code ≡ DONE → AreShown w before after n))
    × ((HavePlaces w before → ⊥) → (code ≡ WRONG_LENGTH) × (n ≡ w))
