-- What a map, a script on a map, a bundle and a trace on a map come to.
use Rattle.std.specs.Prelude.{◌≡◌, ℕ, ◌+◌, Bool, false, List, [], ◌++◌, codes, decimal, map, length, Ok, Err, if◌then◌else◌}
use Rattle.std.specs.declared.alloc.Global.{Global}
use Rattle.std.specs.List.{list_any}
use Rattle.fleet_map.specs.declared.fault.MapFault.{MapFault}
use Rattle.fleet_map.specs.Grammar.{Map, map_of}
use Rattle.fleet_map.specs.Text.{lines_of}
use Rattle.fleet_grid.specs.Floor.{Floor, floor_of_map}
use Rattle.fleet_book.specs.declared.event.Event.{Event}
use Rattle.fleet_world.specs.declared.reply.Reply.{Reply}
use Rattle.fleet_core.specs.declared.faults.OpenFault.{OpenFault}
use Rattle.fleet_core.specs.Core.{World}
use Rattle.fleet_world.specs.Run.{State, Run, opened_state}
use Rattle.fleet_core.specs.OpeningFaults.{IsNamed, IsRefused}
use Rattle.fleet_world.specs.declared.faults.RunFault.{RunFault}
use Rattle.fleet_world.specs.declared.faults.RunFault.TheVariants as run_fault
use Rattle.fleet_world.specs.Laws.{KeepsRings, KeepsEachRing, CollectsInOrder}
use Rattle.fleet_history.specs.Legal.{IsLegal}
use Rattle.fleet_history.specs.Laws.{ArrivesInOrder, ArrivalsRise, EachTick, HasNoConflict, AcceptsNoneClosed}
use Rattle.fleet_history.specs.Numbering.{AreNumbered}
use Rattle.fleet_planner.specs.Planned.{IsPlanned}
use Rattle.fleet_bound.specs.Roomy.{AdvancesIfRoomy}
use Rattle.fleet_history.specs.History.{History}
use Rattle.fleet_trace.specs.declared.fault.TraceFault.{TraceFault}
use Rattle.fleet_trace.specs.declared.fault.TraceFault.TheVariants as trace_fault
use Rattle.fleet_trace.specs.Trace.{Trace}
use Rattle.fleet_trace.specs.Text.{trace_text}
use Rattle.fleet_trace.specs.Reads.{Tells, IsTraceFault}
use Rattle.fleet_trace.specs.Judged.{IsFirstIllegal}
use Rattle.fleet_text.specs.declared.said.Complaint.TheVariants as complaint
use Rattle.fleet_script.specs.Bundle.{HasNoScript, IsBundle}
use Rattle.fleet_script.specs.Script.{Plan, script_of}
use Rattle.fleet_text.specs.Kit.{KitLaws, chosen_laws}
use Rattle.fleet_text.specs.Output.{run_text, is_limit_met}
use Rattle.fleet_text.specs.MapReport.{IsMapReport}
use Rattle.fleet_text.specs.Complaint.{complaint_line, status_of}
use Rattle.fleet_text.specs.Outcome.{Outcome, fault, good}

-- a fault other than out of memory
abbrev pub IsTraceNamed : TraceFault → Type 0
IsTraceNamed trace_fault.NoMemory = ⊥
IsTraceNamed _ = Unit {0}

-- ---- a map alone

-- the map's report, and nothing is wrong
pub record IsDescribed (m : Floor) (o : Outcome) : Type 0 where
  pub report : IsMapReport m o.output
  pub good : o ≡ good o.output

-- what the text of a map alone comes to
pub data IsMapOutcome (map : List ℕ) (o : Outcome) : Type 0 where
  refused : (f : MapFault) → map_of map ≡ Err f → o ≡ fault (complaint.Map f) → IsMapOutcome map o
  described : (m : Map) → map_of map ≡ Ok m → IsDescribed (floor_of_map m) o → IsMapOutcome map o

-- ---- a script on a map

-- the trace of a world's chapter
abbrev pub chapter_trace : {A : Type 0} → World A → Trace A
chapter_trace w = record { number = w.number; history = w.history }

-- what is written of a run that left the world so: its trace and a line feed, or its lines
abbrev pub run_output : {A : Type 0} → Bool → List Event → List Reply → World A → List ℕ
run_output trace events replies w = if trace then trace_text (chapter_trace w) ++ codes "\n" else run_text events replies w.history.entries

-- this text, and whether a limit was met
abbrev pub limited : Bool → List ℕ → Outcome
limited met text =
    if met
    then record { output = text; status = status_of complaint.Limit; complaint = complaint_line complaint.Limit }
    else good text

-- what is said of a run with these replies
abbrev pub run_outcome : List Reply → List ℕ → Outcome
run_outcome replies text = limited (list_any is_limit_met replies) text

-- what holds of the state that a core run on the map ends in
pub record IsLawfulEnd {A : Type 0} (m : Floor) (last : State A) : Type 0 where
  -- each entry fits the history before it
  pub legal : IsLegal m last.world.history
  -- each client's lists are what it sent, was given and collected, in order and once
  pub rings : KeepsRings last
  pub each_ring : KeepsEachRing last
  -- what each client collected is the beginning of its notices
  pub once : CollectsInOrder last.world.history (map (λ l. l.collected) last.clients)
  pub arrivals : ArrivesInOrder last.world.history
  pub numbers : ArrivalsRise last.world.history
  pub numbered : (client : ℕ) → AreNumbered last.world.history client
  pub conflicts : HasNoConflict m last.world.history
  pub closes : AcceptsNoneClosed last.world.history
  -- each tick is purposeful, its eldest advances unless a robot stands on each cell beyond a bridge in its way, and the tie laws
  -- decide
  pub planned : EachTick (IsPlanned m last.world.ties) last.world.history
  -- if all errands go to roomy cells, each tick brings the robot that has waited longest nearer, or it stood on its goal
  pub advancing : AdvancesIfRoomy m last.world.history

-- the trace or the lines of a core run of the script's events, on a world that nothing forbids to open
pub record IsRunText (kit : KitLaws) (trace : Bool) (m : Floor) (plan : Plan) (o : Outcome) : Type 0 where
  pub opens : (f : OpenFault) → IsRefused m plan.starts plan.clients plan.limits (chosen_laws kit plan) f → ⊥
  pub replies : List Reply
  pub last : State Global
  pub run : Run (opened_state m plan.starts plan.clients plan.limits (chosen_laws kit plan)) plan.events replies last
  pub lawful : IsLawfulEnd m last
  pub said : o ≡ run_outcome replies (run_output trace plan.events replies last.world)

-- what the script of a plan comes to on the map, as its trace or as its lines
pub data IsScriptOutcome (kit : KitLaws) (trace : Bool) (m : Floor) (plan : Plan) (o : Outcome) : Type 0 where
  refused : (f : OpenFault) → IsRefused m plan.starts plan.clients plan.limits (chosen_laws kit plan) f → o ≡ fault (complaint.Opening f) → IsScriptOutcome kit trace m plan o
  ran : IsRunText kit trace m plan o → IsScriptOutcome kit trace m plan o

-- what is said where no run was made
abbrev pub IsUnplayed : RunFault → Outcome → Type 0
IsUnplayed (run_fault.Opening f) o = IsNamed f × (o ≡ fault (complaint.Opening f))
IsUnplayed (run_fault.NoMemory at) o = ⊥

-- a map and a script, the map first
pub data IsPartsOutcome (kit : KitLaws) (trace : Bool) (map script : List ℕ) (o : Outcome) : Type 0 where
  map_faulty : (f : MapFault) → map_of map ≡ Err f → o ≡ fault (complaint.Map f) → IsPartsOutcome kit trace map script o
  script_faulty : (m : Map) (line : ℕ) → map_of map ≡ Ok m → script_of script ≡ Err line → o ≡ fault (complaint.Script line) → IsPartsOutcome kit trace map script o
  done : (m : Map) (plan : Plan) → map_of map ≡ Ok m → script_of script ≡ Ok plan → IsScriptOutcome kit trace (floor_of_map m) plan o → IsPartsOutcome kit trace map script o

-- ---- a bundle

-- what a bundle comes to; without a line `script` the line after the last is at fault
pub data IsBundleOutcome (kit : KitLaws) (bytes : List ℕ) (o : Outcome) : Type 0 where
  without_script : HasNoScript (lines_of bytes) → o ≡ fault (complaint.Script (length (lines_of bytes) + 1)) → IsBundleOutcome kit bytes o
  split : (map script : List ℕ) → IsBundle bytes map script → IsPartsOutcome kit false map script o → IsBundleOutcome kit bytes o

-- ---- a trace on a map

-- the first illegal entry of a history, by its number from 1 (0 is the opening), and the rule that it breaks
abbrev pub illegal_at : ℕ → ℕ → Outcome
illegal_at at rule = record { output = codes "illegal " ++ decimal at ++ codes " " ++ decimal rule ++ codes "\n"; status = 6; complaint = [] }

-- what is said of a history that was judged
pub data IsJudged (m : Floor) (h : History Global) (o : Outcome) : Type 0 where
  legal : IsLegal m h → o ≡ good (codes "legal\n") → IsJudged m h o
  illegal : (at rule : ℕ) → IsFirstIllegal m h at rule → o ≡ illegal_at at rule → IsJudged m h o

-- a map and a trace, the map first
pub data IsJudgeOutcome (map trace : List ℕ) (o : Outcome) : Type 0 where
  map_unread : (f : MapFault) → map_of map ≡ Err f → o ≡ fault (complaint.Map f) → IsJudgeOutcome map trace o
  trace_unread : (m : Map) (f : TraceFault) → map_of map ≡ Ok m → IsTraceFault trace f → IsTraceNamed f → o ≡ fault (complaint.Trace f) → IsJudgeOutcome map trace o
  judged : (m : Map) (t : Trace Global) → map_of map ≡ Ok m → Tells trace t → IsJudged (floor_of_map m) t.history o → IsJudgeOutcome map trace o
