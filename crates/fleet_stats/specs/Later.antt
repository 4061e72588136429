-- Figures of the part of a run that is after a clock.
use Rattle.std.specs.Prelude.{◌≡◌, ℕ, ◌+◌, ◌-◌, ◌/◌, nat_lt, List, map, filter, drop, length, unwrap_or}
use Rattle.fleet_grid.specs.Floor.{Floor}
use Rattle.fleet_trace.specs.Trace.{Trace}
use Rattle.fleet_stats.specs.declared.rows.Served.{Served}
use Rattle.fleet_stats.specs.declared.rows.ErrandRow.{ErrandRow}
use Rattle.fleet_stats.specs.declared.rows.TickRow.{TickRow}
use Rattle.fleet_stats.specs.declared.ranks.Ranks.{Ranks}
use Rattle.fleet_stats.specs.declared.later.LaterFigures.{LaterFigures}
use Rattle.fleet_stats.specs.Noted.{Notes, run_noted}
use Rattle.fleet_stats.specs.Rows.{clients_in, served_rows, measured}
use Rattle.fleet_stats.specs.Figures.{total, total_by, greatest_by, service_times, travel_times, AreRanks}
use Rattle.fleet_stats.specs.Chapters.{AreSound}

-- the ticks with numbers above the clock
abbrev pub ticks_after : ℕ → List TickRow → List TickRow
ticks_after clock ticks = filter (λ x. nat_lt clock x.tick) ticks

-- the errands that were done in ticks with numbers above the clock
abbrev pub served_after : ℕ → List Served → List Served
served_after clock served = filter (λ x. nat_lt clock x.done.arrived) served

-- the last quarter of the ticks, rounded up
abbrev pub last_quarter : List TickRow → List TickRow
last_quarter ticks = drop (length ticks - (length ticks + 3) / 4) ticks

-- the errands that were done after the clock, with their distances
abbrev pub rows_after : {A : Type 0} → Floor → List (Trace A) → Notes → ℕ → List ErrandRow
rows_after m ts n clock = map (measured m) (served_after clock (served_rows (clients_in ts) n.taken n.landed))

-- the figures of these ticks and of these errands, with these figures of service times
abbrev pub later_of : List TickRow → List ErrandRow → Ranks → LaterFigures
later_of ticks rows service = record {
  ticks = length ticks;
  arrivals = total_by (λ x. x.arrivals) ticks;
  arrivals_at_end = total_by (λ x. x.arrivals) (last_quarter ticks);
  waited = greatest_by (λ x. x.waited) ticks;
  service = service;
  travel = total (travel_times rows);
  distance = total_by (λ x. unwrap_or x.distance 0) rows;
}

-- the figures after a clock of what was recorded
pub record IsLater {A : Type 0} (m : Floor) (ts : List (Trace A)) (n : Notes) (clock : ℕ) (f : LaterFigures) : Type 0 where
  pub service : Ranks
  pub ranked : AreRanks (service_times (rows_after m ts n clock)) service
  pub is : f ≡ later_of (ticks_after clock n.ticks) (rows_after m ts n clock) service

-- each chapter is legal on the map, and the figures are those of what is recorded of them
pub record AreLater {A : Type 0} (m : Floor) (ts : List (Trace A)) (clock : ℕ) (f : LaterFigures) : Type 0 where
  pub sound : AreSound m ts
  pub is : IsLater m ts (run_noted ts) clock f
