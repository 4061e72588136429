-- The text for a map and for traces on it, and why there is none.
use Rattle.std.specs.Prelude.{◌≡◌, ℕ, ◌+◌, ◌-◌, ◌^◌, min, List, length, Ok, Err}
use Rattle.std.specs.declared.alloc.Global.{Global}
use Rattle.fleet_map.specs.Grammar.{Map, map_of}
use Rattle.fleet_map.specs.declared.fault.MapFault.{MapFault}
use Rattle.fleet_grid.specs.Floor.{Floor, floor_of_map}
use Rattle.fleet_trace.specs.Trace.{Trace}
use Rattle.fleet_trace.specs.Chapters.{TellChapters}
use Rattle.fleet_stats.specs.declared.fault.StatsFault.{StatsFault}
use Rattle.fleet_stats.specs.declared.fault.StatsFault.TheVariants as fault
use Rattle.fleet_stats.specs.declared.figures.Summary.{Summary}
use Rattle.fleet_stats.specs.declared.later.LaterFigures.{LaterFigures}
use Rattle.fleet_stats.specs.declared.tallies.Owner.{Owner}
use Rattle.fleet_stats.specs.declared.tallies.Owner.TheVariants as owner
use Rattle.fleet_stats.specs.declared.lines.Style.{Style}
use Rattle.fleet_stats.specs.declared.lines.Style.TheVariants as style
use Rattle.fleet_stats.specs.declared.answer.StatsForm.{StatsForm}
use Rattle.fleet_stats.specs.declared.answer.StatsForm.TheVariants as form
use Rattle.fleet_stats.specs.Noted.{Notes, robots_in, run_noted}
use Rattle.fleet_stats.specs.Chapters.{AreSound, IsUntold, IsUnfollowed}
use Rattle.fleet_stats.specs.Figures.{IsSummary, arrivals_of, windows_of, first_tick, rows_in, left_in}
use Rattle.fleet_stats.specs.Later.{IsLater}
use Rattle.fleet_stats.specs.Rows.{clients_in}
use Rattle.fleet_stats.specs.Tallies.{owner_name, tally_of}
use Rattle.fleet_stats.specs.Text.{summary_text, later_text, errands_table, unfinished_table, tallies_table, ticks_table, cells_table}

-- the text has the figures of the run
pub record IsSummarized {A : Type 0} (style : Style) (m : Floor) (ts : List (Trace A)) (n : Notes) (text : List ℕ) : Type 0 where
  pub summary : Summary
  pub summarized : IsSummary m ts n (rows_in m ts n) summary
  pub is : text ≡ summary_text style summary n.kinds (windows_of (arrivals_of n.ticks))

-- the clock after a warm-up of this many ticks
abbrev pub warm_clock : {A : Type 0} → List (Trace A) → ℕ → ℕ
warm_clock ts warm_up = min (first_tick ts + warm_up) (2 ^ 64 - 1)

-- the text has the figures of the run after a warm-up
pub record IsLaterText {A : Type 0} (style : Style) (warm_up : ℕ) (m : Floor) (ts : List (Trace A)) (n : Notes) (text : List ℕ) : Type 0 where
  pub figures : LaterFigures
  pub later : IsLater m ts n (warm_clock ts warm_up) figures
  pub is : text ≡ later_text style figures

-- the table of owners, of whom there are this many
abbrev pub owners_table : {A : Type 0} → Owner → Floor → List (Trace A) → Notes → ℕ → List ℕ
owners_table owner m ts n count = tallies_table (owner_name owner) (tally_of owner (rows_in m ts n) (left_in ts n)) count

-- the text that is asked for, of what was recorded of a run
abbrev pub IsReport : {A : Type 0} → StatsForm → Floor → List (Trace A) → Notes → List ℕ → Type 0
IsReport form.Text m ts n text = IsSummarized style.Text m ts n text
IsReport form.Json m ts n text = IsSummarized style.Json m ts n text
IsReport (form.TextAfter warm_up) m ts n text = IsLaterText style.Text warm_up m ts n text
IsReport (form.JsonAfter warm_up) m ts n text = IsLaterText style.Json warm_up m ts n text
IsReport form.Errands m ts n text = text ≡ errands_table (rows_in m ts n)
IsReport form.Unfinished m ts n text = text ≡ unfinished_table (left_in ts n)
IsReport form.Robots m ts n text = text ≡ owners_table owner.Robot m ts n (length (robots_in ts))
IsReport form.Clients m ts n text = text ≡ owners_table owner.Client m ts n (length (clients_in ts))
IsReport form.Ticks m ts n text = text ≡ ticks_table n.ticks
IsReport form.Cells m ts n text = text ≡ cells_table m.width n.stood (length m.letters)

-- each chapter is sound, and the text is that of what is recorded of them
pub record IsReported {A : Type 0} (what : StatsForm) (m : Floor) (ts : List (Trace A)) (text : List ℕ) : Type 0 where
  pub sound : AreSound m ts
  pub is : IsReport what m ts (run_noted ts) text

-- the text for traces on a map: they follow one another, each is legal, and the figures are those of what is recorded of them
pub record IsStatsOn (what : StatsForm) (m : Floor) (texts : List (List ℕ)) (text : List ℕ) : Type 0 where
  pub traces : List (Trace Global)
  pub told : TellChapters m texts traces
  pub reported : IsReported what m traces text

-- the text for traces on the map of a text
pub record IsStats (what : StatsForm) (map : List ℕ) (texts : List (List ℕ)) (text : List ℕ) : Type 0 where
  pub floor : Map
  pub read : map_of map ≡ Ok floor
  pub on : IsStatsOn what (floor_of_map floor) texts text

-- why there is none on a map: the texts, their chapters, or memory
pub data IsNoneOn (m : Floor) (texts : List (List ℕ)) (f : StatsFault) : Type 0 where
  untold : IsUntold m texts f → IsNoneOn m texts f
  unsound : (ts : List (Trace Global)) → TellChapters m texts ts → IsUnfollowed m ts f → IsNoneOn m texts f
  no_memory : f ≡ fault.NoMemory → IsNoneOn m texts f

-- why there is none: the map comes first
pub data IsNone (map : List ℕ) (texts : List (List ℕ)) (f : StatsFault) : Type 0 where
  unmapped : (e : MapFault) → map_of map ≡ Err e → f ≡ fault.Map e → IsNone map texts f
  refused : (floor : Map) → map_of map ≡ Ok floor → IsNoneOn (floor_of_map floor) texts f → IsNone map texts f
  no_memory : f ≡ fault.NoMemory → IsNone map texts f
