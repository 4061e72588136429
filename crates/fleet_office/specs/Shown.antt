-- What a look and a turn show of an office.
use Rattle.std.specs.Prelude.{◌≡◌, ◌↔◌, ◌<◌, ℕ, List, [], ◌∷◌, ◌++◌, length, Some, IfSome, IsSome, IsTrue, MatchOption}
use Rattle.fleet_bound.specs.Arriving.{IsIdleWithin}
use Rattle.fleet_bound.specs.Idle.{idle_ticks, longest_after, wait_limit}
use Rattle.fleet_grid.specs.Counts.{floor_count}
use Rattle.fleet_grid.specs.Floor.{IsNeighbour}
use Rattle.fleet_grid.specs.Walk.{IsBridgeless}
use Rattle.fleet_history.specs.declared.history.Entry.{Entry}
use Rattle.fleet_history.specs.declared.history.Entry.TheVariants as entry
use Rattle.fleet_history.specs.History.{clock, place, robots}
use Rattle.fleet_history.specs.Legal.{IsLegal}
use Rattle.fleet_history.specs.Waits.{wait}
use Rattle.fleet_pibt.specs.Eldest.{IsEldest}
use Rattle.fleet_planner.specs.Planned.{waits}
use Rattle.fleet_planner.specs.Aimed.{IsIdle}
use Rattle.fleet_core.specs.Core.{World}
use Rattle.fleet_office.specs.declared.look.Look.{Look}
use Rattle.fleet_office.specs.declared.waits.WaitReport.{WaitReport}
use Rattle.fleet_office.specs.Views.{TickView}

-- the look shows this world
pub record Shows {A : Type 0} (w : World A) (look : Look A) : Type 0 where
  pub legal : IsLegal w.floor w.history
  pub tick : look.tick ≡ clock w.history
  pub placement : look.placement.items ≡ place w.history
  pub eldest : MatchOption look.eldest (IsIdle w.history) (λ e. IsEldest (waits w.history) e)
  pub idle : IsTrue look.idle ↔ IsIdle w.history
  pub chapter : look.chapter ≡ w.number
  pub entries : look.entries ≡ length w.history.entries
  -- within this many ticks the fleet is idle: told exactly where the map has no bridge
  pub told : IsSome look.idle_within ↔ IsBridgeless (IsNeighbour w.floor)
  pub exact : IfSome look.idle_within (λ ticks. ticks ≡ idle_ticks (longest_after w.history) (robots w.history) (floor_count w.floor))
  pub within : IfSome look.idle_within (λ ticks. IsIdleWithin w.floor w.history ticks)

-- this is the last entry of the world's history, a tick, with its number and where the robots stand
pub record IsLastTick {A : Type 0} (w : World A) (t : TickView) : Type 0 where
  pub before : List (Entry A)
  pub last : w.history.entries ≡ before ++ entry.Tick t.placement t.arrived t.farewells ∷ []
  pub tick : t.tick ≡ clock w.history
  pub placement : t.placement ≡ place w.history

-- the report shows how long the robots of this world wait
pub record ShowsWaits {A : Type 0} (w : World A) (report : WaitReport) : Type 0 where
  pub legal : IsLegal w.floor w.history
  pub longest : MatchOption report.longest (IsIdle w.history) (λ ticks. (r : ℕ) × IsEldest (waits w.history) r × (wait w.history r ≡ Some ticks))
  -- the limit is there exactly where the map has no bridge
  pub told : IsSome report.limit ↔ IsBridgeless (IsNeighbour w.floor)
  pub exact : IfSome report.limit (λ most. most ≡ wait_limit (robots w.history) (floor_count w.floor))
  -- no wait reaches it
  pub above : IfSome report.limit (λ most. (r ticks : ℕ) → r < robots w.history → wait w.history r ≡ Some ticks → ticks < most)
