-- Why an office is not concluded, and its result where it is.
use Rattle.std.specs.Prelude.{ℕ, ◌+◌, ◌≡◌, ◌≢◌, ◌<◌, ◌⊎◌, List, ◌++◌, Some, length, slice_get, Vec}
use Rattle.std.specs.List.{sum_by}
use Rattle.fleet_book.specs.declared.notice.Notice.{Notice}
use Rattle.fleet_grid.specs.Floor.{Floor}
use Rattle.fleet_history.specs.History.{History, client_at, clock, unknown_client}
use Rattle.fleet_history.specs.Laws.{orders}
use Rattle.fleet_history.specs.Notices.{notices}
use Rattle.fleet_history.specs.Rings.{KeepsRing}
use Rattle.fleet_core.specs.Core.{World, HasNoEntries}
use Rattle.fleet_lanes.specs.Ends.{EndView, ClientView}
use Rattle.fleet_office.specs.Views.{TickerView, ClientCore, AreDistinct, cores}
use Rattle.fleet_office.specs.Since.{GoesOn}
use Rattle.fleet_office.specs.Hall.{HallView}
use Rattle.fleet_office.specs.Draining.{DrainsFirst, StopsDraining}
use Rattle.fleet_office.specs.declared.conclude.ConcludeFault.{ConcludeFault}
use Rattle.fleet_office.specs.declared.conclude.ConcludeFault.TheVariants.{Missing, Twice, Tickers, ChapterFull, NoMemory}

-- no client has the number
abbrev pub IsMissing : {A : Type 0} → List (ClientView A) → ℕ → Type 0
IsMissing {A} cs c = (k : ℕ) (x : ClientView A) → slice_get cs k ≡ Some x → x.number ≢ c

-- each number below the count is some client's
abbrev pub HasAll : {A : Type 0} → ℕ → List (ClientView A) → Type 0
HasAll {A} count cs = (c : ℕ) → c < count → (k : ℕ) × (x : ClientView A) × (slice_get cs k ≡ Some x) × (x.number ≡ c)

-- two clients have the number
pub record AreTwice {A : Type 0} (cs : List (ClientView A)) (c : ℕ) : Type 0 where
  pub first : ℕ
  pub second : ℕ
  pub apart : first < second
  pub known : second < length cs
  pub one : (x : ClientView A) → slice_get cs first ≡ Some x → x.number ≡ c
  pub other : (x : ClientView A) → slice_get cs second ≡ Some x → x.number ≡ c

-- all clients came home, and the tickers that made all ticks
pub record AreHome {A : Type 0} (count : ℕ) (cs : List (ClientView A)) (ts : List TickerView) (ticks : ℕ) : Type 0 where
  pub all : HasAll count cs
  pub distinct : AreDistinct (cores cs)
  pub counted : sum_by (λ t. t.count) ts ≡ ticks

-- why not. Tickers are away only where not all parts of the ledger are there
abbrev pub IsAway : {A : Type 0} → ℕ → List (ClientView A) → List TickerView → ℕ → ConcludeFault → Type 0
IsAway count cs ts ticks (Missing c) = (c < count) × IsMissing cs c
IsAway count cs ts ticks (Twice c) = HasAll count cs × AreTwice cs c
IsAway count cs ts ticks (Tickers m) = HasAll count cs × AreDistinct (cores cs) × (0 < m) × (sum_by (λ t. t.count) ts + m ≡ ticks) × (sum_by (λ t. t.parts) ts ≢ 65536)
IsAway count cs ts ticks ChapterFull = ⊥
IsAway count cs ts ticks NoMemory = ⊥

-- what was met where the lanes were emptied: an order that was left and no room for it in the chapter, or out of memory, for
-- a take or when all lanes were empty
abbrev pub IsMet : {A : Type 0} → ℕ → List (EndView A) → List (ClientCore A) → World A → World A → ConcludeFault → Type 0
IsMet count ends cs w v (Missing c) = ⊥
IsMet count ends cs w v (Twice c) = ⊥
IsMet count ends cs w v (Tickers m) = ⊥
IsMet count ends cs w v ChapterFull = StopsDraining count ends cs w v × HasNoEntries v
IsMet count ends cs w v NoMemory = StopsDraining count ends cs w v ⊎ DrainsFirst count ends cs w v

-- all that a client sent was taken, and what it collected and then its rest is all that it was ever told since the office began
pub record IsTold {A : Type 0} (began : World A) (number : ℕ) (h : History A) (x : ClientView A) (rest : List Notice) : Type 0 where
  pub goes_on : GoesOn began.history h x.number x.sent (x.collected ++ rest)
  -- of a client that had sent nothing before, that is all in all
  pub keeps : client_at began.history x.number ≡ unknown_client → KeepsRing h x.number x.sent (x.collected ++ rest)
  -- in the office's first chapter these are the history's own
  pub orders : number ≡ began.number → orders h x.number ≡ x.sent
  pub notices : number ≡ began.number → notices h x.number ≡ x.collected ++ rest

-- each of these clients was told all, with its rest in the list of its number
abbrev pub AreTold : {A : Type 0} → World A → ℕ → History A → List (ClientView A) → List (Vec Notice A) → Type 0
AreTold {A} began number h cs rests = (k : ℕ) (x : ClientView A) → slice_get cs k ≡ Some x → (v : Vec Notice A) × (slice_get rests x.number ≡ Some v) × IsTold began number h x v.items

-- the map and the chapter of a hall's world, once the lanes of these clients were emptied into it
pub record IsLast {A : Type 0} (count : ℕ) (hall : HallView A) (cs : List (ClientCore A)) (m : Floor) (n : ℕ) (h : History A) : Type 0 where
  pub world : World A
  pub drains : DrainsFirst count hall.ends cs hall.world world
  pub floor : m ≡ hall.world.floor
  pub number : n ≡ hall.world.number
  pub history : h ≡ world.history

-- somebody is away, or a take or the room was refused
abbrev pub IsUnconcluded : {A : Type 0} → ℕ → HallView A → List (ClientView A) → List TickerView → ConcludeFault → Type 0
IsUnconcluded {A} count hall cs ts fault =
    IsAway count cs ts (clock hall.world.history) fault
    ⊎ (AreHome count cs ts (clock hall.world.history) × ((v : World A) × IsMet count hall.ends (cores cs) hall.world v fault))
