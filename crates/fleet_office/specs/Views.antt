-- What a contract sees of a desk, of a ticker, and of a client that came home.
use Rattle.std.specs.Prelude.{ℕ, ◌≡◌, ◌≢◌, ◌+◌, ◌++◌, List, [], Some, slice_get, length, map}
use Rattle.fleet_book.specs.declared.order.Order.{Order}
use Rattle.fleet_book.specs.declared.notice.Notice.{Notice}
use Rattle.fleet_book.specs.declared.limits.Limits.{Limits}
use Rattle.fleet_history.specs.declared.history.Arrival.{Arrival}
use Rattle.fleet_history.specs.declared.history.Bye.{Bye}
use Rattle.fleet_grid.specs.Floor.{Floor}
use Rattle.fleet_core.specs.Core.{World, opened_world}
use Rattle.fleet_core.specs.Hooks.{HookLaws}
use Rattle.fleet_lanes.specs.Names.{LaneName}
use Rattle.fleet_lanes.specs.Ends.{EndView, ClientView}

-- a tick: the ticks made with it, the robots' cells after it, and by rising robot who arrived and who said farewell
pub record TickView : Type 0 where
  pub tick : ℕ
  pub placement : List ℕ
  pub arrived : List Arrival
  pub farewells : List Bye

-- how many ticks a ticker made, and how many parts of the ledger it has
pub record TickerView : Type 0 where
  pub count : ℕ
  pub parts : ℕ

-- the limits and the new ends of a desk, and the name of its ledger and how many parts of it are there
pub record DeskView (A : Type 0) : Type 0 where
  pub limits : Limits
  pub clients : List (ClientView A)
  pub ends : List (EndView A)
  pub ledger : ℕ
  pub parts : ℕ

-- the names of the rings of these hall ends
abbrev pub rings_of : {A : Type 0} → List (EndView A) → List (LaneName A)
rings_of ends = map (λ e. e.lane) ends

-- a client and a hall end that were just made, for the client of this number
pub record AreNew {A : Type 0} (c : ClientView A) (e : EndView A) (k : ℕ) (limits : Limits) : Type 0 where
  pub client : c ≡ record { number = k; lane = c.lane; orders = limits.orders; sent = []; collected = []; free = limits.lane; known = [] }
  pub hall : e ≡ record { lane = c.lane; taken = []; given = []; free = limits.outlet; known = [] }

-- each client is at its number, with its hall end next to it
pub record ArePairs {A : Type 0} (clients : List (ClientView A)) (ends : List (EndView A)) (limits : Limits) : Type 0 where
  pub count : length clients ≡ length ends
  pub each : (k : ℕ) (c : ClientView A) (e : EndView A) → slice_get clients k ≡ Some c → slice_get ends k ≡ Some e → AreNew c e k limits

-- the names of an office are those of the desk
pub record IsNamed {A : Type 0} (desk : DeskView A) (name count : ℕ) (names : List (LaneName A)) : Type 0 where
  pub ledger : desk.ledger ≡ name
  pub parts : desk.parts ≡ count
  pub rings : rings_of desk.ends ≡ names

-- the world of an office that is opened at the desk, of robots that start on these cells
abbrev pub world_at : {A : Type 0} → DeskView A → Floor → List ℕ → HookLaws → World A
world_at desk m starts laws = opened_world m starts (length desk.clients) desk.limits laws

-- what stays of a client while its ends are brought together
pub record ClientCore (A : Type 0) : Type 0 where
  pub number : ℕ
  pub lane : LaneName A
  pub sent : List Order
  pub collected : List Notice

-- what stays of a client
abbrev pub core : {A : Type 0} → ClientView A → ClientCore A
core c = record { number = c.number; lane = c.lane; sent = c.sent; collected = c.collected }

-- what stays of each client
abbrev pub cores : {A : Type 0} → List (ClientView A) → List (ClientCore A)
cores cs = map core cs

-- each client is on the rings of its number
abbrev pub AreOn : {A : Type 0} → List (LaneName A) → List (ClientCore A) → Type 0
AreOn {A} rings cs = (k : ℕ) (x : ClientCore A) → slice_get cs k ≡ Some x → slice_get rings x.number ≡ Some x.lane

-- no two have one number
abbrev pub AreDistinct : {A : Type 0} → List (ClientCore A) → Type 0
AreDistinct {A} cs = (i j : ℕ) (x y : ClientCore A) → slice_get cs i ≡ Some x → slice_get cs j ≡ Some y → x.number ≡ y.number → i ≡ j

-- all that the client sent was taken, and what it collected and what is known on its outlet is all that was given
pub record IsSettled {A : Type 0} (ends : List (EndView A)) (c : ClientView A) : Type 0 where
  pub taken : (e : EndView A) → slice_get ends c.number ≡ Some e → e.taken ≡ c.sent
  pub given : (e : EndView A) → slice_get ends c.number ≡ Some e → c.collected ++ c.known ≡ e.given

-- each of these clients is settled with its hall end
abbrev pub AreSettled : {A : Type 0} → List (EndView A) → List (ClientView A) → Type 0
AreSettled {A} ends cs = (k : ℕ) (x : ClientView A) → slice_get cs k ≡ Some x → IsSettled ends x

-- the same of the clients of one number
abbrev pub IsNumberSettled : {A : Type 0} → ℕ → List (EndView A) → List (ClientView A) → Type 0
IsNumberSettled {A} n ends cs = (k : ℕ) (x : ClientView A) → slice_get cs k ≡ Some x → x.number ≡ n → IsSettled ends x

-- the clients of other numbers are the same
abbrev pub KeepsOthers : {A : Type 0} → ℕ → List (ClientView A) → List (ClientView A) → Type 0
KeepsOthers {A} n old new = (k : ℕ) (x : ClientView A) → slice_get new k ≡ Some x → x.number ≢ n → slice_get old k ≡ Some x

-- the hall ends of the other clients are the same
pub record OthersStay {A : Type 0} (c : ℕ) (old new : List (EndView A)) : Type 0 where
  pub count : length new ≡ length old
  pub each : (k : ℕ) (e : EndView A) → k ≢ c → slice_get new k ≡ Some e → slice_get old k ≡ Some e

-- one of the orders known to be in the client's lane was taken
pub record Moves {A : Type 0} (c : ℕ) (old new : List (EndView A)) : Type 0 where
  pub others : OthersStay c old new
  pub lane : (e d : EndView A) → slice_get old c ≡ Some e → slice_get new c ≡ Some d → d.taken ++ d.known ≡ e.taken ++ e.known
  pub fewer : (e d : EndView A) → slice_get old c ≡ Some e → slice_get new c ≡ Some d → length d.known + 1 ≡ length e.known
  pub given : (e d : EndView A) → slice_get old c ≡ Some e → slice_get new c ≡ Some d → d.given ≡ e.given
