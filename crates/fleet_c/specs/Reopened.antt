-- How a fleet goes on from the text of a kept chapter, or why it does not.
use Rattle.std.specs.Prelude.{ℕ, ◌≡◌, ◌≢◌, List}
use Rattle.std.specs.declared.alloc.Global.{Global}
use Rattle.fleet_map.specs.Text.{lines_of}
use Rattle.fleet_map.specs.FirstFault.{IsFirstFault}
use Rattle.fleet_grid.specs.Floor.{Floor}
use Rattle.fleet_bound.specs.Roomy.{AreOpenRoomy}
use Rattle.fleet_core.specs.Core.{World}
use Rattle.fleet_trace.specs.Trace.{Trace}
use Rattle.fleet_trace.specs.Reads.{Tells, IsTraceFault}
use Rattle.fleet_trace.specs.declared.fault.TraceFault.TheVariants as trace
use Rattle.fleet_reopen.specs.Reopening.{CanReopen, IsReopenFault, reopened_world}
use Rattle.fleet_reopen.specs.declared.fault.ReopenFault.TheVariants as chapter
use Rattle.fleet_c.specs.declared.codes.TheConstants.{NO_MEMORY, NO_ROOM, BAD_SETUP, WRONG_SIZE, TRACE_NOT_JSON, TRACE_VERSION, TRACE_SHAPE, CHAPTER_ILLEGAL, LAWS_DIFFER, LIMITS_DIFFER, CHAPTERS_SPENT, WAITED_TOO_LONG}
use Rattle.fleet_c.specs.declared.fault.Fault.{Fault}
use Rattle.fleet_c.specs.declared.refusal.Refusal.TheVariants as refusal
use Rattle.fleet_c.specs.declared.reopen_refusal.ReopenRefusal.{ReopenRefusal}
use Rattle.fleet_c.specs.declared.reopen_refusal.ReopenRefusal.TheVariants as refused
use Rattle.fleet_c.specs.declared.robot.Robot.{Robot}
use Rattle.fleet_c.specs.declared.setup.Setup.{Setup}
use Rattle.fleet_c.specs.declared.setup.TheConstants.{SETUP_SIZE}
use Rattle.fleet_c.specs.Forms.{limits_of, laws_of_robots}
use Rattle.fleet_c.specs.Opening.{IsSized, Reads, fault, fault_of}

-- the world that goes on from a chapter, with the robots' ranks
pub record IsGoingOn {A : Type 0} (m : Floor) (kept : Trace A) (robots : List Robot) (setup : Setup) (w : World A) : Type 0 where
  pub can : CanReopen m kept.number kept.history (limits_of setup) (laws_of_robots robots)
  pub world : w ≡ reopened_world m kept.number kept.history (limits_of setup) (laws_of_robots robots)

-- the same, from the chapter that a text tells
pub record GoesOnFrom {A : Type 0} (m : Floor) (text : List ℕ) (robots : List Robot) (setup : Setup) (w : World A) : Type 0 where
  pub kept : Trace A
  pub tells : Tells text kept
  pub goes_on : IsGoingOn m kept robots setup w

-- the first text is a map, and on its floor a world goes on from the chapter that the second text tells
pub record IsReopened {A : Type 0} (bytes text : List ℕ) (robots : List Robot) (setup : Setup) (w : World A) : Type 0 where
  pub sized : IsSized setup
  pub floor : Floor
  pub reads : Reads bytes floor
  pub goes_on : GoesOnFrom floor text robots setup w

-- why no world goes on from a chapter, out of memory apart
abbrev pub IsNotGoingOn : {A : Type 0} → Floor → Trace A → List Robot → Setup → ReopenRefusal → Type 0
IsNotGoingOn m kept robots setup refused.NoMemory = Unit {0}
IsNotGoingOn m kept robots setup (refused.Chapter fault) = IsReopenFault m kept.number kept.history (limits_of setup) (laws_of_robots robots) fault
IsNotGoingOn m kept robots setup _ = ⊥

-- why no world goes on from the chapter of a text, out of memory apart: the text comes first
abbrev pub DoesNotGoOnFrom : Floor → List ℕ → List Robot → Setup → ReopenRefusal → Type 0
DoesNotGoOnFrom m text robots setup refused.NoMemory = Unit {0}
DoesNotGoOnFrom m text robots setup (refused.Trace fault) = IsTraceFault text fault
DoesNotGoOnFrom m text robots setup refused.NoRoom = ⊥
DoesNotGoOnFrom m text robots setup why = (kept : Trace Global) × Tells text kept × IsNotGoingOn m kept robots setup why

-- why no fleet goes on: the setup's form, the map's first fault, the text's fault, or the first reason in the chapter
abbrev pub IsNotReopened : List ℕ → List ℕ → List Robot → Setup → ReopenRefusal → Type 0
IsNotReopened bytes text robots setup refused.NoMemory = Unit {0}
IsNotReopened bytes text robots setup refused.Size = setup.size ≢ SETUP_SIZE
IsNotReopened bytes text robots setup (refused.Map fault) = IsSized setup × IsFirstFault (lines_of bytes) fault
IsNotReopened bytes text robots setup why = IsSized setup × ((m : Floor) × Reads bytes m × DoesNotGoOnFrom m text robots setup why)

-- a refusal for C: its code, and the numbers that it names, else 0
abbrev pub reopen_fault_of : ReopenRefusal → Fault
reopen_fault_of refused.NoMemory = fault NO_MEMORY 0 0
reopen_fault_of refused.Size = fault WRONG_SIZE 0 0
reopen_fault_of (refused.Map told) = fault_of (refusal.Map told)
reopen_fault_of (refused.Trace trace.NotJson) = fault TRACE_NOT_JSON 0 0
reopen_fault_of (refused.Trace trace.Version) = fault TRACE_VERSION 0 0
reopen_fault_of (refused.Trace trace.Shape) = fault TRACE_SHAPE 0 0
reopen_fault_of (refused.Trace trace.NoMemory) = fault NO_MEMORY 0 0
reopen_fault_of (refused.Chapter chapter.Limits) = fault BAD_SETUP 0 0
reopen_fault_of (refused.Chapter (chapter.Illegal at rule)) = fault CHAPTER_ILLEGAL at rule
reopen_fault_of (refused.Chapter chapter.Laws) = fault LAWS_DIFFER 0 0
reopen_fault_of (refused.Chapter chapter.Differs) = fault LIMITS_DIFFER 0 0
reopen_fault_of (refused.Chapter chapter.Spent) = fault CHAPTERS_SPENT 0 0
reopen_fault_of (refused.Chapter chapter.Waits) = fault WAITED_TOO_LONG 0 0
reopen_fault_of (refused.Chapter chapter.NoMemory) = fault NO_MEMORY 0 0
reopen_fault_of refused.NoRoom = fault NO_ROOM 0 0

-- C is told why no fleet goes on
pub record IsWhyNotReopened (bytes text : List ℕ) (robots : List Robot) (setup : Setup) (code : ℕ) (told : Fault) : Type 0 where
  pub why : ReopenRefusal
  pub is : IsNotReopened bytes text robots setup why
  pub told_is : told ≡ reopen_fault_of why
  pub code_is : code ≡ (reopen_fault_of why).code

-- ---- fleets that take no errand to a cell that is not roomy

-- the world that goes on has no unfinished errand to a cell that is not roomy
pub record GoesOnRoomily {A : Type 0} (m : Floor) (text : List ℕ) (robots : List Robot) (setup : Setup) (w : World A) : Type 0 where
  pub goes_on : GoesOnFrom m text robots setup w
  pub roomy : AreOpenRoomy m w.history

-- the texts are a map and a chapter from which a world goes on, with no unfinished errand to a cell that is not roomy
pub record IsReopenedRoomily {A : Type 0} (bytes text : List ℕ) (robots : List Robot) (setup : Setup) (w : World A) : Type 0 where
  pub sized : IsSized setup
  pub floor : Floor
  pub reads : Reads bytes floor
  pub goes_on : GoesOnRoomily floor text robots setup w

-- as where any errand is taken; or a world would go on, with an unfinished errand to a cell that is not roomy
abbrev pub DoesNotGoOnRoomily : Floor → List ℕ → List Robot → Setup → ReopenRefusal → Type 0
DoesNotGoOnRoomily m text robots setup refused.NoRoom = (w : World Global) × GoesOnFrom m text robots setup w × (AreOpenRoomy m w.history → ⊥)
DoesNotGoOnRoomily m text robots setup why = DoesNotGoOnFrom m text robots setup why

-- why no such fleet goes on: the same reasons in the same order, and last such an errand
abbrev pub IsNotReopenedRoomily : List ℕ → List ℕ → List Robot → Setup → ReopenRefusal → Type 0
IsNotReopenedRoomily bytes text robots setup refused.NoMemory = Unit {0}
IsNotReopenedRoomily bytes text robots setup refused.Size = setup.size ≢ SETUP_SIZE
IsNotReopenedRoomily bytes text robots setup (refused.Map fault) = IsSized setup × IsFirstFault (lines_of bytes) fault
IsNotReopenedRoomily bytes text robots setup why = IsSized setup × ((m : Floor) × Reads bytes m × DoesNotGoOnRoomily m text robots setup why)

-- C is told why no such fleet goes on
pub record IsWhyNotReopenedRoomily (bytes text : List ℕ) (robots : List Robot) (setup : Setup) (code : ℕ) (told : Fault) : Type 0 where
  pub why : ReopenRefusal
  pub is : IsNotReopenedRoomily bytes text robots setup why
  pub told_is : told ≡ reopen_fault_of why
  pub code_is : code ≡ (reopen_fault_of why).code
