-- The lines that answer a line of a conversation, or an order of a fleet in real time.
use Rattle.std.specs.Prelude.{Bool, if◌then◌else◌, ℕ, List, [], ◌++◌, length, Option, Some, None, Result, Ok, Err, codes, decimal}
use Rattle.std.specs.List.{flat_map}
use Rattle.fleet_core.specs.declared.faults.ShutFault.{ShutFault}
use Rattle.fleet_core.specs.declared.open_errands.OpenErrand.{OpenErrand}
use Rattle.fleet_lanes.specs.declared.fault.PostFault.{PostFault}
use Rattle.fleet_lanes.specs.declared.fault.PostFault.TheVariants as post_fault
use Rattle.fleet_text.specs.Output.{lane_full_line, place_text, posted_line, shut_refused_line}
use Rattle.fleet_text.specs.declared.look.Standing.{Standing}

-- line number `number` asks for nothing that can be done
abbrev pub bad_line : ℕ → List ℕ
bad_line number = codes "bad-line " ++ decimal number ++ codes "\n"

-- the answer to a post of client c
abbrev pub post_text : ℕ → Result ℕ PostFault → List ℕ
post_text c (Ok number) = posted_line c number
post_text c (Err (post_fault.LaneFull order)) = lane_full_line c
post_text c (Err post_fault.Closed) = codes "post-refused " ++ decimal c ++ codes " 1 closed\n"
post_text c (Err (post_fault.NumbersSpent order)) = codes "post-refused " ++ decimal c ++ codes " 2 numbers-spent\n"

-- the answer to a post of client c to a cell that is not roomy, where such posts are refused
abbrev pub no_room_line : ℕ → List ℕ
no_room_line c = codes "post-refused " ++ decimal c ++ codes " 3 no-room\n"

-- the answer to a shut: a farewell that is made at once stands in the same line
abbrev pub shut_text : ℕ → Result (Option ℕ) ShutFault → List ℕ
shut_text robot (Ok None) = codes "shut " ++ decimal robot ++ codes "\n"
shut_text robot (Ok (Some stamp)) = codes "shut " ++ (decimal robot ++ (codes " farewell " ++ (decimal stamp ++ codes "\n")))
shut_text robot (Err fault) = shut_refused_line robot fault

-- a chapter was handed out
abbrev pub chapter_line : ℕ → ℕ → List ℕ
chapter_line number entries = codes "chapter " ++ (decimal number ++ (codes " entries " ++ (decimal entries ++ codes "\n")))

-- no chapter can follow
abbrev pub chapter_refused_line : List ℕ
chapter_refused_line = codes "chapter-refused 1 book-spent\n"

-- whether tick lines are shown from now on
abbrev pub watch_line : Bool → List ℕ
watch_line on = if on then codes "watch on\n" else codes "watch off\n"

-- a fleet in real time ended
abbrev pub ended_line : ℕ → List ℕ
ended_line tick = codes "ended " ++ decimal tick ++ codes "\n"

-- ---- open errands

-- an errand: its number, in which robot's queue it is, where it leads, and its place there
abbrev pub open_line : ℕ → OpenErrand → List ℕ
open_line client e =
    codes "open " ++ (decimal client ++ (codes " number " ++ (decimal e.number ++ (codes " robot " ++ (decimal e.robot
    ++ (codes " cell " ++ (decimal e.cell ++ (codes " place " ++ (decimal e.place ++ codes "\n")))))))))

-- how many open errands there are
abbrev pub open_end : ℕ → ℕ → List ℕ
open_end client count = codes "open " ++ (decimal client ++ (codes " end " ++ (decimal count ++ codes "\n")))

-- a line for each errand, and how many they are
abbrev pub open_text : ℕ → List OpenErrand → List ℕ
open_text client errands = flat_map (open_line client) errands ++ open_end client (length errands)

-- ---- a look

-- the robot that has waited longest; idle where no robot waits
abbrev pub eldest_text : Option ℕ → List ℕ
eldest_text None = codes " idle"
eldest_text (Some robot) = codes " busy eldest " ++ decimal robot

-- after how many ticks the fleet is idle if nothing is ordered; nothing where that is not known
abbrev pub within_text : Option ℕ → List ℕ
within_text None = []
within_text (Some ticks) = codes " within " ++ decimal ticks

-- the cell next to the eldest in the full dead end before which it stands; nothing where it stands before none
abbrev pub blocked_text : Option ℕ → List ℕ
blocked_text None = []
blocked_text (Some cell) = codes " blocked " ++ decimal cell

-- the ticks made, the chapter's number and how many entries it has
abbrev pub standing_text : Standing → List ℕ
standing_text s = codes "look tick " ++ decimal s.tick ++ codes " chapter " ++ decimal s.chapter ++ codes " entries " ++ decimal s.entries

-- all of a look: who has waited longest, when all is done, before which full dead end it stands, and the robots' cells
abbrev pub look_line : Standing → List ℕ → List ℕ
look_line s cells = standing_text s ++ eldest_text s.eldest ++ within_text s.within ++ blocked_text s.blocked ++ codes " at" ++ place_text cells ++ codes "\n"
