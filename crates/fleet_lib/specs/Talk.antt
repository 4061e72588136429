-- What `talk` and `live` complain of, and what they are held on.
use Rattle.std.specs.Prelude.{◌≡◌, ℕ, List, ◌++◌, Option, codes}
use Rattle.fleet_text.specs.Complaint.{complaint_text, status_of}
use Rattle.fleet_text.specs.Outcome.{IsMapNamed}
use Rattle.fleet_text.specs.Transfer.{AppendsPrefix}
use Rattle.fleet_text.specs.declared.said.Complaint.{Complaint}
use Rattle.fleet_text.specs.declared.said.Complaint.TheVariants as complaint
use Rattle.fleet_grid.specs.Floor.{Floor, floor_of}
use Rattle.fleet_map.specs.Grammar.{Map}
use Rattle.fleet_map.specs.FirstFault.{IsFirstFault}
use Rattle.fleet_map.specs.Shape.{IsMapText}
use Rattle.fleet_map.specs.Text.{lines_of}
use Rattle.fleet_script.specs.Script.{Draft}
use Rattle.fleet_script.specs.declared.script.ScriptFault.TheVariants as script_fault
use Rattle.fleet_talk.specs.HeadFile.{IsHeadFault, SaysHead}
use Rattle.fleet_talk.specs.declared.fault.TalkFault.{TalkFault}
use Rattle.fleet_talk.specs.declared.fault.TalkFault.TheVariants as fault
use Rattle.fleet_text.specs.declared.input.InputFault.TheVariants as input_fault
use Rattle.fleet_lib.specs.Said.{Failed}

-- ---- complaints

-- the whole line that the error writer is told
abbrev pub complaint_line : Complaint → List ℕ
complaint_line c = codes "fleet: " ++ complaint_text c ++ codes "\n"

-- the status is that of a complaint, and the error writer got its line, or a prefix of it; or memory ran out before there was a line
pub data Complains (c : Complaint) (old new : Option (List ℕ)) (status : ℕ) : Type 0 where
  told : status ≡ status_of c → AppendsPrefix old new (complaint_line c) → Complains c old new status
  untold : Failed input_fault.NoMemory old new status → Complains c old new status

-- what is complained of where a conversation broke off
abbrev pub complaint_of : TalkFault → Complaint
complaint_of fault.Input = complaint.File
complaint_of fault.Output = complaint.File
complaint_of fault.Sink = complaint.File
complaint_of (fault.Opening why) = complaint.Opening why
complaint_of fault.NoRooms = complaint.Rooms
complaint_of fault.NoMemory = complaint.Memory

-- ---- the map and the head

-- the text is a map with this floor, and the header lines say this
pub record IsGround (map head : List ℕ) (floor : Floor) (said : Draft) : Type 0 where
  pub text : Map
  pub is_map : IsMapText map text
  pub floor_is : floor ≡ floor_of text.height text.width text.cells
  pub says : SaysHead (lines_of head) said

-- why there is none: the first fault of the map, then that of the head; out of memory says nothing
abbrev pub IsGroundFault : List ℕ → List ℕ → Complaint → Type 0
IsGroundFault map head (complaint.Map f) = IsFirstFault (lines_of map) f × IsMapNamed f
IsGroundFault map head (complaint.Script line) = (m : Map) × IsMapText map m × IsHeadFault (lines_of head) (script_fault.Line line)
IsGroundFault map head complaint.Memory = Unit {0}
IsGroundFault map head _ = ⊥
