-- The result of a job: the text for the output, the status, and the text for the error writer.
use Rattle.std.specs.Prelude.{◌≡◌, ℕ, ◌<◌, List, ◌++◌, codes, length, nat_lt, slice_index, Ok, Err}
use Rattle.std.specs.declared.alloc.Global.{Global}
use Rattle.std.specs.List.{All}
use Rattle.fleet_map.specs.declared.fault.MapFault.{MapFault}
use Rattle.fleet_map.specs.Grammar.{Map, map_of}
use Rattle.fleet_grid.specs.Floor.{Floor, floor_of_map}
use Rattle.fleet_bound.specs.Bound.{WaitsAreBounded}
use Rattle.fleet_core.specs.Core.{opening_of}
use Rattle.fleet_core.specs.declared.faults.OpenFault.{OpenFault}
use Rattle.fleet_core.specs.OpeningFaults.{IsRefused}
use Rattle.fleet_history.specs.Laws.{EachTick}
use Rattle.fleet_history.specs.Legal.{IsLegal}
use Rattle.fleet_planner.specs.Planned.{IsPlanned}
use Rattle.fleet_bound.specs.Roomy.{AdvancesIfRoomy, HasBound}
use Rattle.fleet_history.specs.History.{History}
use Rattle.fleet_trace.specs.Text.{trace_text}
use Rattle.fleet_serve.specs.declared.served.ServeFault.{ServeFault}
use Rattle.fleet_serve.specs.declared.served.ServeFault.TheVariants as serve_fault
use Rattle.fleet_serve.specs.Posted.{IsLine, IsFirstOther, TakesPosted, TakesAll, AreFullCounted}
use Rattle.errands_lib.specs.declared.job.Job.{Job}
use Rattle.errands_lib.specs.declared.job.Job.TheVariants as job
use Rattle.fleet_text.specs.declared.said.Complaint.TheVariants as complaint
use Rattle.fleet_script.specs.Script.{Plan, script_of}
use Rattle.fleet_text.specs.Kit.{KitLaws, chosen_laws}
use Rattle.fleet_text.specs.Outcome.{Outcome, fault}
use Rattle.errands_lib.specs.Answer.{IsBundleOutcome, IsJudgeOutcome, IsMapOutcome, IsPartsOutcome, limited}

-- ---- a script that is served on a map

-- nothing forbids to open an office for the script
abbrev pub MayOpen : KitLaws → Floor → Plan → Type 0
MayOpen kit m plan = (f : OpenFault) → IsRefused m plan.starts plan.clients plan.limits (chosen_laws kit plan) f → ⊥

-- the trace of a history that begins as the script says, is legal on the map and takes what the script's clients post, this many of
-- whose posts met a full lane
pub record IsServedText (kit : KitLaws) (m : Floor) (plan : Plan) (lane_full : ℕ) (o : Outcome) : Type 0 where
  pub history : History Global
  pub opening : history.opening ≡ opening_of plan.starts plan.clients plan.limits (chosen_laws kit plan)
  pub legal : IsLegal m history
  pub planned : EachTick (IsPlanned m (chosen_laws kit plan).ties) history
  pub advancing : AdvancesIfRoomy m history
  pub bounded : HasBound m history → WaitsAreBounded m history
  -- the orders taken of each client are posts of its lines, in their order
  pub posted : TakesPosted history plan.events plan.clients
  -- they are all of them up to its first close, where no post met a full lane and no client spent its numbers
  pub all : lane_full ≡ 0 → length plan.events < plan.limits.orders → TakesAll history plan.events plan.clients
  -- posts that met a full lane, of each client once
  pub counted : AreFullCounted history plan.events plan.limits.orders plan.clients lane_full
  pub said : o ≡ limited (nat_lt 0 lane_full) (trace_text (record { number = 0; history = history }) ++ codes "\n")

-- what is said of a serve that came to no end for this reason; nothing where memory or a thread was wanting
abbrev pub IsUnserved : ServeFault → Outcome → Type 0
IsUnserved (serve_fault.Opening f) o = o ≡ fault (complaint.Opening f)
IsUnserved serve_fault.ClockSpent o = o ≡ fault complaint.Limit
IsUnserved serve_fault.ChapterFull o = o ≡ fault complaint.Limit
IsUnserved serve_fault.Drain o = o ≡ fault complaint.Limit
IsUnserved serve_fault.NoMemory o = ⊥
IsUnserved serve_fault.NoThread o = ⊥

-- what is said of a script whose events are all posts and collects of its clients
pub data IsServed (kit : KitLaws) (m : Floor) (plan : Plan) (o : Outcome) : Type 0 where
  refused : (f : OpenFault) → IsRefused m plan.starts plan.clients plan.limits (chosen_laws kit plan) f → o ≡ fault (complaint.Opening f) → IsServed kit m plan o
  -- the clock or the chapter was full, or the lanes were not emptied
  ended : MayOpen kit m plan → o ≡ fault complaint.Limit → IsServed kit m plan o
  served : (lane_full : ℕ) → MayOpen kit m plan → IsServedText kit m plan lane_full o → IsServed kit m plan o

-- what the script of a plan comes to when it is served on the map
pub data IsServedScript (kit : KitLaws) (m : Floor) (plan : Plan) (o : Outcome) : Type 0 where
  -- the first line that is no post or collect of a client in range
  other : (at : ℕ) → IsFirstOther plan.clients plan.events at → o ≡ fault (complaint.Script (slice_index plan.lines at)) → IsServedScript kit m plan o
  lines : All (IsLine plan.clients) plan.events → IsServed kit m plan o → IsServedScript kit m plan o

-- a map and a script, the map first
pub data IsServeOutcome (kit : KitLaws) (map script : List ℕ) (o : Outcome) : Type 0 where
  map_faulty : (f : MapFault) → map_of map ≡ Err f → o ≡ fault (complaint.Map f) → IsServeOutcome kit map script o
  script_faulty : (m : Map) (line : ℕ) → map_of map ≡ Ok m → script_of script ≡ Err line → o ≡ fault (complaint.Script line) → IsServeOutcome kit map script o
  done : (m : Map) (plan : Plan) → map_of map ≡ Ok m → script_of script ≡ Ok plan → IsServedScript kit (floor_of_map m) plan o → IsServeOutcome kit map script o

-- ---- any job, on the text of its first file and that of its second

-- what a job comes to
abbrev pub IsJobOutcome : KitLaws → Job → List ℕ → List ℕ → Outcome → Type 0
IsJobOutcome kit job.Bundle first second = IsBundleOutcome kit first
IsJobOutcome kit (job.Map file) first second = IsMapOutcome first
IsJobOutcome kit (job.Run map script trace) first second = IsPartsOutcome kit trace first second
IsJobOutcome kit (job.Judge map trace) first second = IsJudgeOutcome first second
IsJobOutcome kit (job.Serve map script) first second = IsServeOutcome kit first second
