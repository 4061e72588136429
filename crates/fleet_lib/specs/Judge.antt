-- The result of the word `judge`.
use Rattle.std.specs.Prelude.{◌≡◌, ◌≢◌, ℕ, List, [], ◌++◌, Ok, Err, codes, decimal}
use Rattle.std.specs.declared.alloc.Global.{Global}
use Rattle.fleet_map.specs.declared.fault.MapFault.{MapFault}
use Rattle.fleet_map.specs.Grammar.{Map, map_of}
use Rattle.fleet_grid.specs.Floor.{Floor, floor_of_map}
use Rattle.fleet_history.specs.History.{History}
use Rattle.fleet_history.specs.Legal.{IsLegal}
use Rattle.fleet_trace.specs.declared.fault.TraceFault.{TraceFault}
use Rattle.fleet_trace.specs.declared.fault.TraceFault.TheVariants as trace_fault
use Rattle.fleet_trace.specs.Judged.{IsFirstIllegal}
use Rattle.fleet_trace.specs.Reads.{Tells, IsTraceFault}
use Rattle.fleet_trace.specs.Trace.{Trace}
use Rattle.fleet_text.specs.declared.said.Complaint.TheVariants as complaint
use Rattle.fleet_text.specs.Complaint.{complaint_text}
use Rattle.fleet_lib.specs.declared.judge.Judgement.{Judgement}
use Rattle.fleet_lib.specs.declared.judge.Judgement.TheVariants as judgement
use Rattle.fleet_lib.specs.Said.{Outcome}

-- what the judge says of a history
abbrev pub IsJudgedOn : Floor → History Global → Judgement → Type 0
IsJudgedOn m h judgement.Legal = IsLegal m h
IsJudgedOn m h (judgement.Illegal at rule) = IsFirstIllegal m h at rule
IsJudgedOn m h _ = ⊥

-- what the judge says of a text on a map: the map comes first, then whether the text tells a trace
pub data IsJudgement (map trace : List ℕ) (j : Judgement) : Type 0 where
  map_unread : (f : MapFault) → map_of map ≡ Err f → j ≡ judgement.Map f → IsJudgement map trace j
  trace_unread : (m : Map) (f : TraceFault) → map_of map ≡ Ok m → IsTraceFault trace f → f ≢ trace_fault.NoMemory → j ≡ judgement.Trace f → IsJudgement map trace j
  told : (m : Map) (t : Trace Global) → map_of map ≡ Ok m → Tells trace t → IsJudgedOn (floor_of_map m) t.history j → IsJudgement map trace j

-- how a judgement is said, after a title
abbrev pub judgement_said : List ℕ → Judgement → Outcome
judgement_said title (judgement.Map f) = record { output = []; status = 4; complaint = codes "fleet: " ++ (complaint_text (complaint.Map f) ++ codes "\n") }
judgement_said title (judgement.Trace f) = record { output = []; status = 6; complaint = codes "fleet: " ++ (title ++ (complaint_text (complaint.Trace f) ++ codes "\n")) }
judgement_said title judgement.Legal = record { output = title ++ codes "legal\n"; status = 0; complaint = [] }
judgement_said title (judgement.Illegal at rule) =
    record { output = title ++ (codes "illegal " ++ (decimal at ++ (codes " " ++ (decimal rule ++ codes "\n")))); status = 6; complaint = [] }

-- what is said to a map and a trace
abbrev pub IsJudgeOutcome : List ℕ → List ℕ → List ℕ → Outcome → Type 0
IsJudgeOutcome title map trace o = (j : Judgement) × IsJudgement map trace j × (o ≡ judgement_said title j)
