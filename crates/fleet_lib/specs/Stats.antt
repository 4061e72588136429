-- The result of the word `stats`.
use Rattle.std.specs.Prelude.{◌≡◌, ℕ, ◌-◌, ◌^◌, min, List, [], ◌++◌, Option, Some, None, codes, decimal}
use Rattle.std.specs.Option.{option_map, option_and_then}
use Rattle.fleet_map.specs.Text.{number_of}
use Rattle.std.specs.List.{slice_index_or}
use Rattle.fleet_text.specs.declared.said.Complaint.TheVariants as complaint
use Rattle.fleet_text.specs.Complaint.{complaint_text}
use Rattle.fleet_stats.specs.declared.fault.StatsFault.{StatsFault}
use Rattle.fleet_stats.specs.declared.fault.StatsFault.TheVariants as fault
use Rattle.fleet_stats.specs.declared.answer.StatsForm.{StatsForm}
use Rattle.fleet_stats.specs.declared.answer.StatsForm.TheVariants as form
use Rattle.fleet_stats.specs.Report.{IsStats, IsNone}
use Rattle.fleet_lib.specs.declared.words.stats.Figures.{Figures}
use Rattle.fleet_lib.specs.declared.words.stats.Figures.TheVariants as figures
use Rattle.fleet_lib.specs.Said.{Outcome}

-- the form of the text in which figures are printed
abbrev pub form_of : Figures → StatsForm
form_of figures.Lines = form.Text
form_of figures.Json = form.Json
form_of figures.Errands = form.Errands
form_of figures.Unfinished = form.Unfinished
form_of figures.Robots = form.Robots
form_of figures.Clients = form.Clients
form_of figures.Ticks = form.Ticks
form_of figures.Cells = form.Cells

-- with a warm-up of this many ticks there are no tables
abbrev pub later_form : Figures → ℕ → Option StatsForm
later_form figures.Lines ticks = Some (form.TextAfter ticks)
later_form figures.Json ticks = Some (form.JsonAfter ticks)
later_form _ ticks = None

-- the same, where a word says how many ticks; no run has more than 2^48
abbrev pub later_by : Figures → List ℕ → Option StatsForm
later_by f word = option_and_then (later_form f) (option_map (λ n. min n (2 ^ 48)) (number_of word))

abbrev pub form_by : Option (List ℕ) → Figures → Option StatsForm
form_by None f = Some (form_of f)
form_by (Some word) f = later_by f word

-- what is asked for, by the table and the warm-up
abbrev pub stats_form : Option Figures → Option (List ℕ) → Option StatsForm
stats_form None warm_up = None
stats_form (Some f) warm_up = form_by warm_up f

-- the name of the file with this number, from 1
abbrev pub name_at : List (List ℕ) → ℕ → List ℕ
name_at names number = slice_index_or names (number - 1) []

-- how a fault is named: a map as by `errands judge`, and that of a trace with the name of its file
abbrev pub fault_text : List (List ℕ) → StatsFault → List ℕ
fault_text names (fault.Map f) = complaint_text (complaint.Map f)
fault_text names (fault.Trace number f) = name_at names number ++ (codes ": " ++ complaint_text (complaint.Trace f))
fault_text names (fault.Chapter number) = name_at names number ++ codes ": chapter"
fault_text names (fault.Late number) = name_at names number ++ codes ": late"
fault_text names (fault.Illegal number at rule) = name_at names number ++ (codes ": illegal " ++ (decimal at ++ (codes " " ++ decimal rule)))
fault_text names fault.NoMemory = codes "memory"

-- the status of a fault: 4 the map, 6 a trace, 7 memory
abbrev pub fault_status : StatsFault → ℕ
fault_status (fault.Map f) = 4
fault_status (fault.Trace number f) = 6
fault_status (fault.Chapter number) = 6
fault_status (fault.Late number) = 6
fault_status (fault.Illegal number at rule) = 6
fault_status fault.NoMemory = 7

-- what is said of a fault, with its status
abbrev pub faulty : List (List ℕ) → StatsFault → Outcome
faulty names f = record { output = []; status = fault_status f; complaint = codes "fleet: " ++ (fault_text names f ++ codes "\n") }

-- what is said to a map and to traces on it, in files of these names
pub data IsStatsOutcome (what : StatsForm) (names : List (List ℕ)) (map : List ℕ) (traces : List (List ℕ)) (o : Outcome) : Type 0 where
  good : (text : List ℕ) → IsStats what map traces text → o ≡ record { output = text; status = 0; complaint = [] } → IsStatsOutcome what names map traces o
  refused : (f : StatsFault) → IsNone map traces f → o ≡ faulty names f → IsStatsOutcome what names map traces o
