-- What the words ask for.
use Rattle.std.specs.Prelude.{◌≡◌, ℕ, Bool, true, false, List, map, Option, Some, None, codes, string_bytes, if◌then◌else◌}
use Rattle.std.specs.Option.{option_map, option_and_then}
use Rattle.std.specs.Str.{bytes_eq}
use Rattle.std.specs.Str.Parse.{digits_value, without_leading_plus}
use Rattle.clap.specs.Words.{Text, Row, first_of, all_of}
use Rattle.command_words.specs.Values.{has_flag, or_none}
use Rattle.fleet_lib.specs.declared.words.view.Shown.{Shown}
use Rattle.fleet_lib.specs.declared.words.view.Shown.TheVariants.{Page, Moving, Still}
use Rattle.fleet_lib.specs.declared.words.view.View.{View as ViewJob}
use Rattle.fleet_plans.specs.declared.form.TextForm.TheVariants as text_form
use Rattle.fleet_lib.specs.declared.words.check.FormAsked.{FormAsked}
use Rattle.fleet_lib.specs.declared.words.check.FormAsked.TheVariants.{Found, Named, Unknown}
use Rattle.fleet_lib.specs.declared.words.check.Check.{Check as CheckJob}
use Rattle.fleet_lib.specs.declared.words.talk.Talk.{Talk as TalkJob}
use Rattle.fleet_convert.specs.declared.conversion.PlanForm.TheVariants.{Pibt2, Moves, Runners, Listed}
use Rattle.fleet_convert.specs.declared.listing.Listing.TheVariants.{Agents, Table, Schedule}
use Rattle.fleet_lib.specs.declared.words.convert.Target.{Target}
use Rattle.fleet_lib.specs.declared.words.convert.Target.TheVariants as target
use Rattle.fleet_lib.specs.declared.words.convert.Convert.{Convert as ConvertJob}
use Rattle.fleet_lib.specs.declared.words.explain.Explain.{Explain as ExplainJob}
use Rattle.fleet_lib.specs.declared.words.live.Live.{Live as LiveJob}
use Rattle.fleet_lib.specs.declared.words.stats.Figures.{Figures}
use Rattle.fleet_lib.specs.declared.words.stats.Figures.TheVariants as figures
use Rattle.fleet_lib.specs.declared.words.stats.Stats.{Stats as StatsJob}
use Rattle.fleet_lib.specs.declared.words.judge.Judge.{Judge as JudgeJob}
use Rattle.fleet_lib.specs.declared.words.map.MapJob.{MapJob}
use Rattle.fleet_lib.specs.declared.words.execute.Execute.{Execute as ExecuteJob}
use Rattle.fleet_lib.specs.declared.words.vehicles.VehiclesJob.{VehiclesJob}
use Rattle.fleet_lib.specs.declared.words.sim.SimJob.{SimJob}
use Rattle.fleet_lib.specs.declared.words.change.ChangeJob.{ChangeJob}
use Rattle.fleet_lib.specs.declared.words.job.Job.{Job}
use Rattle.fleet_lib.specs.declared.words.job.Job.TheVariants as job

-- how the words after `view` say that traces are shown
abbrev pub IsShownAs : List Row → Shown → Type 0
IsShownAs rows Page = (first_of (codes "tick") rows ≡ None) × (has_flag (codes "svg") rows ≡ false)
IsShownAs rows Moving = (first_of (codes "tick") rows ≡ None) × (has_flag (codes "svg") rows ≡ true)
IsShownAs rows (Still tick) = (word : Text) × (first_of (codes "tick") rows ≡ Some word) × (tick ≡ digits_value 10 (without_leading_plus word))

-- what the words after `view` ask for
pub record IsView (rows : List Row) (view : ViewJob) : Type 0 where
  pub floor : first_of (codes "MAP") rows ≡ Some (string_bytes view.map)
  pub traces : all_of (codes "TRACE") rows ≡ Some (map (λ s. string_bytes s) view.traces.items)
  pub shown : IsShownAs rows view.shown

-- the form of a name
abbrev pub form_named : Text → FormAsked
form_named word =
    if bytes_eq word (codes "lines") then Named text_form.Headed
    else if bytes_eq word (codes "bare") then Named text_form.Bare
    else if bytes_eq word (codes "agents") then Named text_form.Agents
    else if bytes_eq word (codes "table") then Named text_form.Table
    else if bytes_eq word (codes "yaml") then Named text_form.Schedule
    else if bytes_eq word (codes "lorr") then Named text_form.Json
    else if bytes_eq word (codes "lorr-planner") then Named text_form.PlannerJson
    else Unknown

-- the form that is read where this is named
abbrev pub form_asked : Option Text → FormAsked
form_asked None = Found
form_asked (Some word) = form_named word

-- the form that the words after `check` name
abbrev pub form_in : List Row → FormAsked
form_in rows = form_asked (first_of (codes "form") rows)

-- how many robots the words after `check` ask for
abbrev pub IsCountAsked : List Row → Option ℕ → Type 0
IsCountAsked rows None = first_of (codes "agents") rows ≡ None
IsCountAsked rows (Some count) = (word : Text) × (first_of (codes "agents") rows ≡ Some word) × (count ≡ digits_value 10 (without_leading_plus word))

-- what the words after `check` ask for
pub record IsCheck (rows : List Row) (check : CheckJob) : Type 0 where
  pub strict : check.strict ≡ has_flag (codes "strict") rows
  pub all : check.all ≡ has_flag (codes "all") rows
  pub form : check.form ≡ form_in rows
  pub goals : first_of (codes "goals") rows ≡ option_map (λ s. string_bytes s) check.goals
  pub agents : IsCountAsked rows check.agents
  pub floor : first_of (codes "MAP") rows ≡ Some (string_bytes check.map)
  pub plan : first_of (codes "PLAN") rows ≡ Some (string_bytes check.plan)

-- what the words after `talk` ask for
pub record IsTalk (rows : List Row) (talk : TalkJob) : Type 0 where
  pub floor : first_of (codes "MAP") rows ≡ Some (string_bytes talk.map)
  pub script : first_of (codes "SCRIPT") rows ≡ option_map (λ s. string_bytes s) talk.script
  pub traces : first_of (codes "traces") rows ≡ option_map (λ s. string_bytes s) talk.traces
  pub journal : talk.journal ≡ has_flag (codes "journal") rows
  pub resume : talk.resume ≡ has_flag (codes "resume") rows
  pub resume_only : talk.resume_only ≡ has_flag (codes "resume-only") rows
  pub marks : talk.marks ≡ has_flag (codes "marks") rows
  pub roll : talk.roll ≡ has_flag (codes "roll") rows
  pub chapter_bytes : first_of (codes "chapter-bytes") rows ≡ option_map (λ s. string_bytes s) talk.chapter_bytes
  pub roomy : talk.roomy ≡ has_flag (codes "roomy") rows
  pub planner : first_of (codes "planner") rows ≡ option_map (λ s. string_bytes s) talk.planner

-- the target of a name: a plan in a form, or a trace
abbrev pub target_named : Text → Option Target
target_named word =
    if bytes_eq word (codes "pibt2") then Some (target.Plan Pibt2)
    else if bytes_eq word (codes "moves") then Some (target.Plan Moves)
    else if bytes_eq word (codes "lorr") then Some (target.Plan Runners)
    else if bytes_eq word (codes "agents") then Some (target.Plan (Listed Agents))
    else if bytes_eq word (codes "table") then Some (target.Plan (Listed Table))
    else if bytes_eq word (codes "yaml") then Some (target.Plan (Listed Schedule))
    else if bytes_eq word (codes "trace") then Some target.Trace
    else None

-- the target that the words after `convert` name
abbrev pub target_in : List Row → Option Target
target_in rows = option_and_then target_named (first_of (codes "to") rows)

-- what the words after `convert` ask for
pub record IsConvert (rows : List Row) (convert : ConvertJob) : Type 0 where
  pub target : convert.target ≡ target_in rows
  pub floor : first_of (codes "MAP") rows ≡ Some (string_bytes convert.map)
  pub input : first_of (codes "INPUT") rows ≡ Some (string_bytes convert.input)

-- what the words after `explain` ask for
pub record IsExplain (rows : List Row) (explain : ExplainJob) : Type 0 where
  pub head : explain.head ≡ has_flag (codes "head") rows
  pub floor : first_of (codes "MAP") rows ≡ Some (string_bytes explain.map)
  pub other : first_of (codes "INPUT") rows ≡ option_map (λ s. string_bytes s) explain.other

-- what the words after `live` ask for
pub record IsLive (rows : List Row) (live : LiveJob) : Type 0 where
  pub floor : first_of (codes "MAP") rows ≡ Some (string_bytes live.map)
  pub script : first_of (codes "SCRIPT") rows ≡ option_map (λ s. string_bytes s) live.script
  pub robots : first_of (codes "robots") rows ≡ option_map (λ s. string_bytes s) live.robots
  pub clients : first_of (codes "clients") rows ≡ option_map (λ s. string_bytes s) live.clients
  pub period : first_of (codes "period") rows ≡ option_map (λ s. string_bytes s) live.period
  pub tickers : first_of (codes "tickers") rows ≡ option_map (λ s. string_bytes s) live.tickers
  pub traces : first_of (codes "traces") rows ≡ option_map (λ s. string_bytes s) live.traces
  pub resume : live.resume ≡ has_flag (codes "resume") rows
  pub resume_only : live.resume_only ≡ has_flag (codes "resume-only") rows
  pub keep_every : first_of (codes "keep-every") rows ≡ option_map (λ s. string_bytes s) live.keep_every
  pub journal : live.journal ≡ has_flag (codes "journal") rows
  pub recall : first_of (codes "recall") rows ≡ option_map (λ s. string_bytes s) live.recall
  pub chapter_bytes : first_of (codes "chapter-bytes") rows ≡ option_map (λ s. string_bytes s) live.chapter_bytes
  pub metrics : first_of (codes "metrics") rows ≡ option_map (λ s. string_bytes s) live.metrics
  pub pipes : or_none (all_of (codes "client") rows) ≡ map (λ s. string_bytes s) live.pipes.items
  pub watch : live.watch ≡ has_flag (codes "watch") rows
  pub service : live.service ≡ has_flag (codes "service") rows
  pub roomy : live.roomy ≡ has_flag (codes "roomy") rows
  pub planner : first_of (codes "planner") rows ≡ option_map (λ s. string_bytes s) live.planner

-- the table of a name
abbrev pub table_named : Text → Option Figures
table_named word =
    if bytes_eq word (codes "errands") then Some figures.Errands
    else if bytes_eq word (codes "unfinished") then Some figures.Unfinished
    else if bytes_eq word (codes "robots") then Some figures.Robots
    else if bytes_eq word (codes "clients") then Some figures.Clients
    else if bytes_eq word (codes "ticks") then Some figures.Ticks
    else if bytes_eq word (codes "cells") then Some figures.Cells
    else None

-- how figures are printed, by whether JSON is asked for and by the word for a table: not both
abbrev pub figures_by : Bool → Option Text → Option Figures
figures_by json None = Some (if json then figures.Json else figures.Lines)
figures_by true (Some word) = None
figures_by false (Some word) = table_named word

-- how the words after `stats` say that figures are printed; `None` where they name two ways, or no table
abbrev pub figures_in : List Row → Option Figures
figures_in rows = figures_by (has_flag (codes "json") rows) (first_of (codes "csv") rows)

-- what the words after `stats` ask for
pub record IsStats (rows : List Row) (stats : StatsJob) : Type 0 where
  pub floor : first_of (codes "MAP") rows ≡ Some (string_bytes stats.map)
  pub traces : all_of (codes "TRACE") rows ≡ Some (map (λ s. string_bytes s) stats.traces.items)
  pub figures : stats.figures ≡ figures_in rows
  pub warm_up : first_of (codes "warm-up") rows ≡ option_map (λ s. string_bytes s) stats.warm_up

-- what the words after `judge` ask for
pub record IsJudge (rows : List Row) (judge : JudgeJob) : Type 0 where
  pub floor : first_of (codes "MAP") rows ≡ Some (string_bytes judge.map)
  pub traces : all_of (codes "TRACE") rows ≡ Some (map (λ s. string_bytes s) judge.traces.items)

-- how many robots the words after `map` ask for
abbrev pub IsRobotsAsked : List Row → Option ℕ → Type 0
IsRobotsAsked rows None = first_of (codes "robots") rows ≡ None
IsRobotsAsked rows (Some count) = (word : Text) × (first_of (codes "robots") rows ≡ Some word) × (count ≡ digits_value 10 (without_leading_plus word))

-- what the words after `map` ask for
pub record IsMapJob (rows : List Row) (asked : MapJob) : Type 0 where
  pub robots : IsRobotsAsked rows asked.robots
  pub cells : first_of (codes "cells") rows ≡ option_map (λ s. string_bytes s) asked.cells
  pub prune : asked.prune ≡ has_flag (codes "prune") rows
  pub svg : asked.svg ≡ has_flag (codes "svg") rows
  pub mend : asked.mend ≡ has_flag (codes "mend") rows
  pub json : asked.json ≡ has_flag (codes "json") rows
  pub floor : first_of (codes "MAP") rows ≡ Some (string_bytes asked.map)

-- what the words after `change` ask for
pub record IsChange (rows : List Row) (change : ChangeJob) : Type 0 where
  pub traces : first_of (codes "traces") rows ≡ Some (string_bytes change.traces)
  pub to : first_of (codes "to") rows ≡ Some (string_bytes change.to)
  pub renumber : change.renumber ≡ has_flag (codes "renumber") rows
  pub dry_run : change.dry_run ≡ has_flag (codes "dry-run") rows
  pub floor : first_of (codes "MAP") rows ≡ Some (string_bytes change.map)
  pub changes : all_of (codes "CHANGE") rows ≡ Some (map (λ s. string_bytes s) change.changes.items)

-- what the words after `execute` ask for
pub record IsExecute (rows : List Row) (execute : ExecuteJob) : Type 0 where
  pub clearance : first_of (codes "clearance") rows ≡ option_map (λ s. string_bytes s) execute.clearance
  pub ahead : first_of (codes "ahead") rows ≡ option_map (λ s. string_bytes s) execute.ahead
  pub form : execute.form ≡ form_in rows
  pub floor : first_of (codes "MAP") rows ≡ Some (string_bytes execute.map)
  pub plan : first_of (codes "PLAN") rows ≡ Some (string_bytes execute.plan)

-- what the words after `sim` ask for
pub record IsSimJob (rows : List Row) (asked : SimJob) : Type 0 where
  pub floor : first_of (codes "MAP") rows ≡ Some (string_bytes asked.map)
  pub robots : first_of (codes "robots") rows ≡ option_map (λ s. string_bytes s) asked.robots
  pub ticks : first_of (codes "ticks") rows ≡ option_map (λ s. string_bytes s) asked.ticks
  pub warm_up : first_of (codes "warm-up") rows ≡ option_map (λ s. string_bytes s) asked.warm_up
  pub seeds : first_of (codes "seeds") rows ≡ option_map (λ s. string_bytes s) asked.seeds
  pub cells : first_of (codes "cells") rows ≡ option_map (λ s. string_bytes s) asked.cells
  pub scenario : first_of (codes "scen") rows ≡ option_map (λ s. string_bytes s) asked.scenario
  pub tasks : first_of (codes "tasks") rows ≡ option_map (λ s. string_bytes s) asked.tasks
  pub roomy : asked.roomy ≡ has_flag (codes "roomy") rows
  pub planner : first_of (codes "planner") rows ≡ option_map (λ s. string_bytes s) asked.planner
  pub ties : first_of (codes "ties") rows ≡ option_map (λ s. string_bytes s) asked.ties
  pub traces : first_of (codes "traces") rows ≡ option_map (λ s. string_bytes s) asked.traces
  pub times : asked.times ≡ has_flag (codes "times") rows
  pub csv : asked.csv ≡ has_flag (codes "csv") rows
  pub json : asked.json ≡ has_flag (codes "json") rows

-- what the words after `vehicles` ask for
pub record IsVehicles (rows : List Row) (asked : VehiclesJob) : Type 0 where
  pub clearance : first_of (codes "clearance") rows ≡ option_map (λ s. string_bytes s) asked.clearance
  pub ahead : first_of (codes "ahead") rows ≡ option_map (λ s. string_bytes s) asked.ahead

-- the job of a subcommand and the words that stand for its arguments
abbrev pub IsJobOf : Option (Text × List Row) → Job → Type 0
IsJobOf found (job.View view) = (rows : List Row) × (found ≡ Some (codes "view", rows)) × IsView rows view
IsJobOf found (job.Check check) = (rows : List Row) × (found ≡ Some (codes "check", rows)) × IsCheck rows check
IsJobOf found (job.Talk talk) = (rows : List Row) × (found ≡ Some (codes "talk", rows)) × IsTalk rows talk
IsJobOf found (job.Convert convert) = (rows : List Row) × (found ≡ Some (codes "convert", rows)) × IsConvert rows convert
IsJobOf found (job.Explain explain) = (rows : List Row) × (found ≡ Some (codes "explain", rows)) × IsExplain rows explain
IsJobOf found (job.Live live) = (rows : List Row) × (found ≡ Some (codes "live", rows)) × IsLive rows live
IsJobOf found (job.Stats stats) = (rows : List Row) × (found ≡ Some (codes "stats", rows)) × IsStats rows stats
IsJobOf found (job.Judge judge) = (rows : List Row) × (found ≡ Some (codes "judge", rows)) × IsJudge rows judge
IsJobOf found (job.Map asked) = (rows : List Row) × (found ≡ Some (codes "map", rows)) × IsMapJob rows asked
IsJobOf found (job.Execute execute) = (rows : List Row) × (found ≡ Some (codes "execute", rows)) × IsExecute rows execute
IsJobOf found (job.Sim asked) = (rows : List Row) × (found ≡ Some (codes "sim", rows)) × IsSimJob rows asked
IsJobOf found (job.Change change) = (rows : List Row) × (found ≡ Some (codes "change", rows)) × IsChange rows change
IsJobOf found (job.Vehicles asked) = (rows : List Row) × (found ≡ Some (codes "vehicles", rows)) × IsVehicles rows asked
