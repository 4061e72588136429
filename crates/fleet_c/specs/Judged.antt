-- What the judge of a chapter answers C.
use Rattle.std.specs.Prelude.{ℕ, ◌≡◌, List, Result, IfOk, IfErr}
use Rattle.std.specs.declared.alloc.Global.{Global}
use Rattle.fleet_grid.specs.Floor.{Floor}
use Rattle.fleet_history.specs.Legal.{IsLegal}
use Rattle.fleet_reopen.specs.declared.fault.ReopenFault.TheVariants as chapter
use Rattle.fleet_trace.specs.declared.fault.JudgeFault.TheVariants as judge
use Rattle.fleet_trace.specs.Judged.{IsJudgeFault}
use Rattle.fleet_trace.specs.Reads.{Tells, IsTraceFault}
use Rattle.fleet_trace.specs.Trace.{Trace}
use Rattle.fleet_c.specs.declared.codes.TheConstants.{DONE}
use Rattle.fleet_c.specs.declared.fault.Fault.{Fault}
use Rattle.fleet_c.specs.declared.reopen_refusal.ReopenRefusal.{ReopenRefusal}
use Rattle.fleet_c.specs.declared.reopen_refusal.ReopenRefusal.TheVariants as refused
use Rattle.fleet_c.specs.Reopened.{reopen_fault_of}

-- the text tells a chapter that is legal on the floor
pub record IsLegalText (m : Floor) (text : List ℕ) : Type 0 where
  pub kept : Trace Global
  pub tells : Tells text kept
  pub legal : IsLegal m kept.history

-- the first entry of a chapter that breaks a rule, out of memory apart
abbrev pub IsIllegal : Floor → Trace Global → ReopenRefusal → Type 0
IsIllegal m kept refused.NoMemory = Unit {0}
IsIllegal m kept (refused.Chapter (chapter.Illegal at rule)) = IsJudgeFault m kept.history (judge.Illegal at rule)
IsIllegal m kept _ = ⊥

-- why a text tells no legal chapter
abbrev pub IsIllegalText : Floor → List ℕ → ReopenRefusal → Type 0
IsIllegalText m text refused.NoMemory = Unit {0}
IsIllegalText m text (refused.Trace fault) = IsTraceFault text fault
IsIllegalText m text why = (kept : Trace Global) × Tells text kept × IsIllegal m kept why

-- the chapter is legal, or C is told why not
pub record IsJudged (m : Floor) (text : List ℕ) (code : ℕ) (before told : Fault) : Type 0 where
  pub answer : Result (Unit {0}) ReopenRefusal
  pub legal : IfOk answer (λ _. (code ≡ DONE) × (told ≡ before) × IsLegalText m text)
  pub refused : IfErr answer (λ why. IsIllegalText m text why × (told ≡ reopen_fault_of why) × (code ≡ told.code))
