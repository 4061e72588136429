-- Figures of what was recorded.
use Rattle.std.specs.Prelude.{◌≡◌, ℕ, ◌+◌, ◌-◌, ◌*◌, ◌/◌, ◌%◌, ◌^◌, ◌==◌, ◌&&◌, nat_lt, Bool, zero, suc, if◌then◌else◌, List, [], ◌∷◌, ◌++◌, Option, Some, None, map, min, max, length, take, drop, count_by, unwrap_or, slice_index}
use Rattle.std.specs.List.{fold}
use Rattle.std.specs.List.Sorted.{IsPermutation, IsNonDecreasing}
use Rattle.fleet_grid.specs.Floor.{Floor, IsNeighbour}
use Rattle.fleet_grid.specs.Walk.{IsBridgeless}
use Rattle.fleet_grid.specs.Counts.{floor_count}
use Rattle.fleet_trace.specs.Trace.{Trace}
use Rattle.fleet_stats.specs.declared.rows.TickRow.{TickRow}
use Rattle.fleet_stats.specs.declared.rows.ErrandRow.{ErrandRow}
use Rattle.fleet_stats.specs.declared.rows.LeftRow.{LeftRow}
use Rattle.fleet_stats.specs.declared.ranks.Ranks.{Ranks}
use Rattle.fleet_stats.specs.declared.figures.Summary.{Summary}
use Rattle.fleet_stats.specs.Noted.{Notes, robots_in}
use Rattle.fleet_stats.specs.Rows.{clients_in, errand_rows, left_rows}

-- ---- of numbers

-- the sum of a number of each; sums stay at 2^64 - 1, to which no run comes
abbrev pub total_by : {X : Type 0} → (X → ℕ) → List X → ℕ
total_by f xs = fold (λ sum x. min (sum + f x) (2 ^ 64 - 1)) 0 xs

-- the sum of numbers; it stays at 2^64 - 1
abbrev pub total : List ℕ → ℕ
total xs = total_by (λ x. x) xs

-- the greatest number of each, 0 if there is none
abbrev pub greatest_by : {X : Type 0} → (X → ℕ) → List X → ℕ
greatest_by f xs = fold (λ most x. max most (f x)) 0 xs

-- the same numbers, from the least to the greatest
pub record IsOrdered (xs ys : List ℕ) : Type 0 where
  pub same : IsPermutation xs ys
  pub rising : IsNonDecreasing ys

-- figures of ordered numbers: how many, their sum; and of n of them the least that (n + 1) / 2 do not exceed, the least that 9 of 10 do not
-- exceed, the least that 99 of 100 do not exceed, and the greatest
abbrev pub ranks_of : List ℕ → Ranks
ranks_of ys = record {
  count = length ys;
  total = total ys;
  median = slice_index ys ((length ys - 1) / 2);
  ninetieth = slice_index ys (length ys - length ys / 10 - 1);
  ninety_ninth = slice_index ys (length ys - length ys / 100 - 1);
  greatest = slice_index ys (length ys - 1);
}

-- figures of numbers in any order
pub record AreRanks (xs : List ℕ) (ranks : Ranks) : Type 0 where
  pub ys : List ℕ
  pub ordered : IsOrdered xs ys
  pub is : ranks ≡ ranks_of ys

-- ---- of errands

-- from the acceptance to the arrival
abbrev pub service_times : List ErrandRow → List ℕ
service_times rows = map (λ x. x.done.arrived - x.accepted) rows

-- from when the robot began it to the arrival
abbrev pub travel_times : List ErrandRow → List ℕ
travel_times rows = map (λ x. x.done.arrived - x.done.begun) rows

-- ---- of ticks

-- how many robots arrived, tick by tick
abbrev pub arrivals_of : List TickRow → List ℕ
arrivals_of ticks = map (λ x. x.arrivals) ticks

-- how many windows of 100 ticks there are; the last may be shorter
abbrev pub window_count : ℕ → ℕ
window_count n = n / 100 + (if n % 100 == 0 then 0 else 1)

-- the sums over the windows below this number
abbrev pub windows_below : List ℕ → ℕ → List ℕ
windows_below xs zero = []
windows_below xs (suc k) = windows_below xs k ++ total (take 100 (drop (k * 100) xs)) ∷ []

-- the sum of each window of 100, in order
abbrev pub windows_of : List ℕ → List ℕ
windows_of xs = windows_below xs (window_count (length xs))

-- ---- of orders

-- how many verdicts are of the kind
abbrev pub count_of : List ℕ → ℕ → ℕ
count_of kinds k = count_by (λ x. x == k) kinds

-- whether the kind of a verdict is a refusal: its code, from 1 to 10
abbrev pub is_refusal : ℕ → Bool
is_refusal k = nat_lt 0 k && nat_lt k 11

-- ---- of the run

-- a number of ticks that no wait reaches, if each tick advances: on maps without bridges
abbrev pub IsLimit : Floor → ℕ → Option ℕ → Type 0
IsLimit m robots (Some limit) = IsBridgeless (IsNeighbour m) × (limit ≡ min (robots * max 1 (floor_count m - 1)) (2 ^ 64 - 1))
IsLimit m robots None = IsBridgeless (IsNeighbour m) → ⊥

-- the clock at the first opening
abbrev pub first_tick : {A : Type 0} → List (Trace A) → ℕ
first_tick [] = 0
first_tick (t ∷ ts) = t.history.opening.tick

-- the errands of a run, with its notes
abbrev pub rows_in : {A : Type 0} → Floor → List (Trace A) → Notes → List ErrandRow
rows_in m ts n = errand_rows m (clients_in ts) n.taken n.landed

-- the errands of a run that are left, with its notes
abbrev pub left_in : {A : Type 0} → List (Trace A) → Notes → List LeftRow
left_in ts n = left_rows (clients_in ts) n.taken n.left

-- the figures of a run, with these figures of times and this limit
abbrev pub summary_of : {A : Type 0} → Floor → List (Trace A) → Notes → List ErrandRow → Ranks → Ranks → Option ℕ → Summary
summary_of m ts n rows service travel limit = record {
  robots = length (robots_in ts);
  clients = length (clients_in ts);
  floor_cells = floor_count m;
  first_tick = first_tick ts;
  ticks = length n.ticks;
  arrivals = total_by (λ x. x.arrivals) n.ticks;
  unfinished = length n.left;
  moves = total_by (λ x. x.moves) n.ticks;
  idle = total_by (λ x. x.idle) n.ticks;
  stands = length n.stood;
  waited = greatest_by (λ x. x.waited) n.ticks;
  limit = limit;
  service = service;
  travel = travel;
  -- the steps of the robots from when they began their errands, and the distances from there
  steps = total_by (λ x. x.done.leg.steps) rows;
  distance = total_by (λ x. unwrap_or x.distance 0) rows;
}

-- the figures of a run, with its notes and its rows of errands
pub record IsSummary {A : Type 0} (m : Floor) (ts : List (Trace A)) (n : Notes) (rows : List ErrandRow) (s : Summary) : Type 0 where
  pub service : AreRanks (service_times rows) s.service
  pub travel : AreRanks (travel_times rows) s.travel
  pub limit : IsLimit m (length (robots_in ts)) s.limit
  pub is : s ≡ summary_of m ts n rows s.service s.travel s.limit
