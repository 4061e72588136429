-- Why a fleet does not go on from the chapter of a file, and what is printed of it.
use Rattle.std.specs.Prelude.{◌≡◌, ◌≢◌, ℕ, Bool, true, false, List, ◌++◌, Option, codes, decimal}
use Rattle.std.specs.declared.alloc.Global.{Global}
use Rattle.fleet_text.specs.Transfer.{AppendsPrefix}
use Rattle.fleet_text.specs.declared.input.InputFault.TheVariants as input_fault
use Rattle.fleet_explain.specs.declared.explanation.Explanation.{Explanation}
use Rattle.fleet_explain.specs.Explained.{IsTraceExplained}
use Rattle.fleet_explain.specs.Sentences.{sentence}
use Rattle.fleet_reopen.specs.declared.fault.ReopenFault.TheVariants as reopen_fault
use Rattle.fleet_talk.specs.declared.resuming.ResumeFault.{ResumeFault}
use Rattle.fleet_talk.specs.declared.resuming.ResumeFault.TheVariants as resume_fault
use Rattle.fleet_trace.specs.declared.fault.TraceFault.TheVariants as trace_fault
use Rattle.fleet_trace.specs.Trace.{Trace}
use Rattle.fleet_trace.specs.Reads.{Tells, IsTraceFault}
use Rattle.fleet_lib.specs.declared.kept.KeptFault.{KeptFault}
use Rattle.fleet_lib.specs.declared.kept.KeptFault.TheVariants as kept_fault
use Rattle.fleet_lib.specs.declared.kept.Reason.{Reason}
use Rattle.fleet_lib.specs.declared.kept.Reason.TheVariants as reason
use Rattle.fleet_lib.specs.Said.{Failed}

-- why a text is not that of the chapter with this number
abbrev pub IsKeptFault : List ℕ → ℕ → KeptFault → Type 0
IsKeptFault text number (kept_fault.Trace f) = IsTraceFault text f
IsKeptFault text number (kept_fault.Number other) = (t : Trace Global) × Tells text t × (t.number ≡ other) × (other ≢ number)
IsKeptFault text number (kept_fault.Resume f) = ⊥

-- the chapter is not legal
abbrev pub is_illegal : ResumeFault → Bool
is_illegal (resume_fault.Chapter (reopen_fault.Illegal at rule)) = true
is_illegal _ = false

-- memory ran out
abbrev pub is_memory : KeptFault → Bool
is_memory (kept_fault.Trace trace_fault.NoMemory) = true
is_memory (kept_fault.Resume (resume_fault.Chapter reopen_fault.NoMemory)) = true
is_memory _ = false

-- why a fleet does not go on from a legal chapter
abbrev pub resume_text : ResumeFault → List ℕ
resume_text resume_fault.Robots = codes "the header lines name another number of robots"
resume_text resume_fault.Clients = codes "the header lines name another number of clients"
resume_text (resume_fault.Chapter reopen_fault.Limits) = codes "a limit is out of its range"
resume_text (resume_fault.Chapter (reopen_fault.Illegal at rule)) = codes "it is not legal"
resume_text (resume_fault.Chapter reopen_fault.Laws) = codes "its robots have other closures"
resume_text (resume_fault.Chapter reopen_fault.Differs) = codes "the header lines name another `queue` or `life`"
resume_text (resume_fault.Chapter reopen_fault.Spent) = codes "no chapter follows within the limits"
resume_text (resume_fault.Chapter reopen_fault.Waits) = codes "a robot has waited longer than it may"
resume_text (resume_fault.Chapter reopen_fault.NoMemory) = codes "out of memory"
resume_text (resume_fault.Errand x) =
    codes "an errand of client " ++ (decimal x.client ++ (codes " for robot " ++ (decimal x.robot ++ (codes " goes to cell " ++ (decimal x.cell ++ codes ", which is not roomy")))))
resume_text resume_fault.NoRooms = codes "the rooms of the map do not pass their checks"
resume_text (resume_fault.Talk f) = codes "the conversation broke off"

-- the reason, in the words of the error writer
abbrev pub reason_text : Reason → List ℕ
reason_text (reason.Explained e) = sentence e
reason_text (reason.Number number) = codes "it is chapter " ++ decimal number
reason_text (reason.Resume f) = resume_text f

-- what `fleet explain` says of the text
abbrev pub IsExplained : List ℕ → List ℕ → Reason → Type 0
IsExplained map text r = (e : Explanation) × IsTraceExplained map text e × (r ≡ reason.Explained e)

-- what is said of a fault of a chapter: where it is not legal on the map, in the words of `fleet explain`
abbrev pub IsResumeReason : Bool → List ℕ → List ℕ → ResumeFault → Reason → Type 0
IsResumeReason true map text f r = IsExplained map text r
IsResumeReason false map text f r = r ≡ reason.Resume f

-- what is said of a fault: where the text tells no trace, too, in the words of `fleet explain`
abbrev pub IsReasonOf : List ℕ → List ℕ → KeptFault → Reason → Type 0
IsReasonOf map text (kept_fault.Trace f) r = IsExplained map text r
IsReasonOf map text (kept_fault.Number number) r = r ≡ reason.Number number
IsReasonOf map text (kept_fault.Resume f) r = IsResumeReason (is_illegal f) map text f r

-- the line about the file of this name
abbrev pub kept_line : List ℕ → List ℕ → List ℕ
kept_line name why = codes "fleet: file " ++ (name ++ (codes ": " ++ (why ++ codes "\n")))

-- the status is 6, and the error writer got the line about the file, or a prefix of it; or memory ran out
pub data ComplainsOfKept (map name text : List ℕ) (f : KeptFault) (old new : Option (List ℕ)) (status : ℕ) : Type 0 where
  told : (r : Reason) → is_memory f ≡ false → IsReasonOf map text f r → status ≡ 6 → AppendsPrefix old new (kept_line name (reason_text r)) → ComplainsOfKept map name text f old new status
  untold : Failed input_fault.NoMemory old new status → ComplainsOfKept map name text f old new status
