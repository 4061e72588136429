-- The table of runs.
use Rattle.std.specs.Prelude.{◌≡◌, ℕ, zero, suc, ◌+◌, ◌-◌, ◌*◌, ◌/◌, ◌%◌, ◌^◌, ◌<◌, ◌≤◌, ◌==◌, ◌&&◌, nat_lt, Bool, true, false, if◌then◌else◌, List, [], ◌∷◌, ◌++◌, Option, Some, None, map, filter, min, max, length, count_by, codes, decimal, slice_index}
use Rattle.std.specs.List.{fold, flat_map}
use Rattle.fleet_stats.specs.declared.later.LaterFigures.{LaterFigures}
use Rattle.fleet_sim.specs.declared.run.Run.{Run}
use Rattle.fleet_sim.specs.declared.run.Times.{Times}
use Rattle.fleet_sim.specs.declared.cell.Cell.{Cell}
use Rattle.fleet_sim.specs.declared.cell.Cell.TheVariants.{Whole, Parts, Nothing}
use Rattle.fleet_sim.specs.declared.column.Column.{Column}
use Rattle.fleet_sim.specs.declared.column.Column.TheVariants as column

-- ---- a cell as text: a number of thousandths has three decimals

-- the text of a cell: a whole number, thousandths, or `nothing` where there is none
abbrev pub cell_text : List ℕ → Cell → List ℕ
cell_text nothing (Whole n) = decimal n
cell_text nothing (Parts n) = decimal (n / 1000) ++ codes "." ++ decimal (n / 100 % 10) ++ decimal (n / 10 % 10) ++ decimal (n % 10)
cell_text nothing Nothing = nothing

-- ---- a figure of one run, in thousandths

-- a quotient in thousandths, at most 2^64 - 1, to which no run comes; none by 0
abbrev pub quotient : ℕ → ℕ → Option ℕ
quotient n by = if by == 0 then None else Some (min (n * 1000 / by) (2 ^ 64 - 1))

-- a figure of service times, in thousandths; none where there are no times
abbrev pub counted : ℕ → ℕ → Option ℕ
counted count n = if count == 0 then None else quotient n 1

-- a figure of steps, in thousandths already; none where there are no steps
abbrev pub some_of : ℕ → ℕ → Option ℕ
some_of count n = if count == 0 then None else Some n

-- a figure of the times, if they are told
abbrev pub timed : (Times → Option ℕ) → Option Times → Option ℕ
timed f None = None
timed f (Some times) = f times

-- the figure of a column; none where a run does not have it
abbrev pub value_of : Column → Run → Option ℕ
value_of column.Throughput run = quotient run.figures.arrivals run.figures.ticks
value_of column.ServiceMedian run = counted run.figures.service.count run.figures.service.median
value_of column.ServiceNinetieth run = counted run.figures.service.count run.figures.service.ninetieth
value_of column.ServiceNinetyNinth run = counted run.figures.service.count run.figures.service.ninety_ninth
value_of column.Delay run = quotient (run.figures.travel - run.figures.distance) run.figures.service.count
value_of column.DelayRatio run = quotient run.figures.travel run.figures.distance
value_of column.LongestWait run = quotient run.figures.waited 1
-- microseconds, whose thousandths are nanoseconds
value_of column.StepMedian run = timed (λ t. some_of t.steps.count t.steps.median) run.times
value_of column.StepNinetyNinth run = timed (λ t. some_of t.steps.count t.steps.ninety_ninth) run.times
value_of column.Planning run = timed (λ t. quotient t.planning t.steps.total) run.times

-- ---- over runs

-- the figure alone, if there is one
abbrev pub value_if : Option ℕ → List ℕ
value_if None = []
value_if (Some n) = n ∷ []

-- a figure of the runs that have it
abbrev pub values_of : Column → List Run → List ℕ
values_of column runs = flat_map (λ run. value_if (value_of column run)) runs

-- the mean, rounded down; the sum stays at 2^64 - 1
abbrev pub mean_of : List ℕ → ℕ
mean_of xs = fold (λ sum x. min (sum + x) (2 ^ 64 - 1)) 0 xs / max (length xs) 1

-- how far apart two numbers are
abbrev pub apart : ℕ → ℕ → ℕ
apart a b = if nat_lt a b then b - a else a - b

-- the sum of the squares of the differences from a number; it stays at 2^128 - 1
abbrev pub square_sum : List ℕ → ℕ → ℕ
square_sum xs from = fold (λ sum x. min (sum + apart x from * apart x from) (2 ^ 128 - 1)) 0 xs

-- the mean of the squares of the differences from the mean, by one less than there are
abbrev pub variance_of : List ℕ → ℕ
variance_of xs = square_sum xs (mean_of xs) / max (length xs - 1) 1

-- the root of the variance, rounded down
pub record IsDeviation (xs : List ℕ) (r : ℕ) : Type 0 where
  pub low : r * r ≤ variance_of xs
  pub high : variance_of xs < (r + 1) * (r + 1)

-- a mean, if any run has the figure
abbrev pub mean_cell : List ℕ → Cell
mean_cell xs = if length xs == 0 then Nothing else Parts (mean_of xs)

-- a deviation, if two have it
pub data IsDeviationCell (xs : List ℕ) (cell : Cell) : Type 0 where
  few : length xs < 2 → cell ≡ Nothing → IsDeviationCell xs cell
  more : (r : ℕ) → 2 ≤ length xs → cell ≡ Parts r → IsDeviation xs r → IsDeviationCell xs cell

-- the mean and the deviation of a figure
pub record IsSpread (xs : List ℕ) (mean deviation : Cell) : Type 0 where
  pub mean_is : mean ≡ mean_cell xs
  pub deviation_is : IsDeviationCell xs deviation

-- the cells of columns: a mean and a deviation of each
abbrev pub AreSpreads : List Column → List Run → List Cell → Type 0
AreSpreads [] runs [] = Unit {0}
AreSpreads [] runs (cell ∷ cells) = ⊥
AreSpreads (c ∷ cs) runs [] = ⊥
AreSpreads (c ∷ cs) runs (mean ∷ []) = ⊥
AreSpreads (c ∷ cs) runs (mean ∷ deviation ∷ cells) = IsSpread (values_of c runs) mean deviation × AreSpreads cs runs cells

-- the columns of a line, in their order
abbrev pub figure_columns : List Column
figure_columns = column.Throughput ∷ column.ServiceMedian ∷ column.ServiceNinetieth ∷ column.ServiceNinetyNinth ∷ column.Delay ∷ column.DelayRatio ∷ column.LongestWait ∷ []

-- the columns of times, where times are told
abbrev pub time_columns : Bool → List Column
time_columns false = []
time_columns true = column.StepMedian ∷ column.StepNinetyNinth ∷ column.Planning ∷ []

-- nobody arrived in the last quarter of the ticks
abbrev pub is_frozen : Run → Bool
is_frozen run = run.figures.arrivals_at_end == 0

-- the ticks of the first run that are counted
abbrev pub ticks_of : List Run → ℕ
ticks_of [] = 0
ticks_of (run ∷ runs) = run.figures.ticks

-- the line of the runs of this many robots: how many robots, runs, ticks and frozen runs there are, and the spreads of figures, and of times where
-- these are told
pub record IsLine (robots : ℕ) (runs : List Run) (timed : Bool) (cells : List Cell) : Type 0 where
  pub figures : List Cell
  pub times : List Cell
  pub figured : AreSpreads figure_columns runs figures
  pub measured : AreSpreads (time_columns timed) runs times
  pub is : cells ≡ Whole robots ∷ Whole (length runs) ∷ Whole (ticks_of runs) ∷ Whole (count_by is_frozen runs) ∷ (figures ++ times)
