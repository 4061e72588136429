-- What the figures count, in the words of the histories.
use Rattle.std.specs.Prelude.{◌≡◌, ℕ, ◌+◌, ◌-◌, ◌^◌, Bool, true, false, List, [], ◌∷◌, length, min, count_by, sum_by, Ok}
use Rattle.std.specs.List.{range_with_len}
use Rattle.std.specs.declared.alloc.Global.{Global}
use Rattle.fleet_map.specs.Grammar.{Map, map_of}
use Rattle.fleet_grid.specs.Floor.{floor_of_map}
use Rattle.fleet_book.specs.declared.verdict.Verdict.{Verdict}
use Rattle.fleet_book.specs.declared.verdict.Verdict.TheVariants as verdict
use Rattle.fleet_history.specs.declared.history.Entry.{Entry}
use Rattle.fleet_history.specs.declared.history.Entry.TheVariants.{Take, Tick, Shut}
use Rattle.fleet_history.specs.History.{History, start, robots, clock, is_tick, is_accepted, unfinished}
use Rattle.fleet_trace.specs.Trace.{Trace}
use Rattle.fleet_trace.specs.Chapters.{TellChapters}
use Rattle.fleet_stats.specs.declared.figures.Summary.{Summary}
use Rattle.fleet_stats.specs.declared.lines.Style.{Style}
use Rattle.fleet_stats.specs.Chapters.{AreSound}
use Rattle.fleet_stats.specs.Figures.{first_tick, count_of}
use Rattle.fleet_stats.specs.Text.{summary_text}

-- ---- entries

-- whether an entry accepts an errand
abbrev pub is_acceptance : {A : Type 0} → Entry A → Bool
is_acceptance (Take client order v) = is_accepted v
is_acceptance (Tick to arrived farewells) = false
is_acceptance (Shut robot farewell) = false

-- whether the verdict withdraws an errand
abbrev pub is_withdrawn : Verdict → Bool
is_withdrawn verdict.Withdrawn = true
is_withdrawn _ = false

-- whether an entry withdraws one
abbrev pub is_withdrawal : {A : Type 0} → Entry A → Bool
is_withdrawal (Take client order v) = is_withdrawn v
is_withdrawal (Tick to arrived farewells) = false
is_withdrawal (Shut robot farewell) = false

-- how many arrivals an entry shows
abbrev pub arrivals_shown : {A : Type 0} → Entry A → ℕ
arrivals_shown (Tick to arrived farewells) = length arrived
arrivals_shown (Take client order v) = 0
arrivals_shown (Shut robot farewell) = 0

-- ---- histories

-- how many errands are neither done nor withdrawn
abbrev pub waiting : {A : Type 0} → History A → ℕ
waiting h = sum_by (λ r. length (unfinished h r)) (range_with_len 0 (robots h))

-- how many ticks a history has
abbrev pub tick_count : {A : Type 0} → History A → ℕ
tick_count h = count_by is_tick h.entries

-- how many errands a history accepts
abbrev pub acceptance_count : {A : Type 0} → History A → ℕ
acceptance_count h = count_by is_acceptance h.entries

-- how many errands a history withdraws
abbrev pub withdrawal_count : {A : Type 0} → History A → ℕ
withdrawal_count h = count_by is_withdrawal h.entries

-- how many arrivals a history shows
abbrev pub arrival_count : {A : Type 0} → History A → ℕ
arrival_count h = sum_by arrivals_shown h.entries

-- ---- runs

-- a number of each chapter, added up
abbrev pub over : {A : Type 0} → (History A → ℕ) → List (Trace A) → ℕ
over f ts = sum_by (λ t. f t.history) ts

-- a number of the last chapter; 0 without chapters
abbrev pub at_end : {A : Type 0} → (History A → ℕ) → List (Trace A) → ℕ
at_end f [] = 0
at_end f (t ∷ []) = f t.history
at_end f (t ∷ u ∷ us) = at_end f (u ∷ us)

-- the figures of a run, and the kinds of its verdicts, are counts of its histories
pub record AreCounts {A : Type 0} (ts : List (Trace A)) (s : Summary) (kinds : List ℕ) : Type 0 where
  pub ticks : s.ticks ≡ over tick_count ts
  -- they are the clock's way from the first opening to the end
  pub clock : s.first_tick + s.ticks ≡ at_end clock ts
  -- sums stay at 2^64 - 1
  pub arrivals : s.arrivals ≡ min (over arrival_count ts) (2 ^ 64 - 1)
  pub accepted : count_of kinds 0 ≡ over acceptance_count ts
  pub withdrawn : count_of kinds 12 ≡ over withdrawal_count ts
  pub unfinished : s.unfinished ≡ at_end waiting ts
  -- what a chapter begins with and accepts either arrives in it, or is withdrawn, or is left at its end
  pub balance : over (λ h. waiting (start h.opening)) ts + count_of kinds 0 ≡ over waiting ts + over arrival_count ts + count_of kinds 12

-- the text has the figures of the traces, and they are counts
pub record IsCounted (style : Style) (map : List ℕ) (texts : List (List ℕ)) (text : List ℕ) : Type 0 where
  pub floor : Map
  pub traces : List (Trace Global)
  pub summary : Summary
  pub kinds : List ℕ
  pub windows : List ℕ
  pub read : map_of map ≡ Ok floor
  pub told : TellChapters (floor_of_map floor) texts traces
  pub sound : AreSound (floor_of_map floor) traces
  pub is : text ≡ summary_text style summary kinds windows
  pub counts : AreCounts traces summary kinds
