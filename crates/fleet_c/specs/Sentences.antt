-- A sentence for each code, and what is told of a fault.
use Rattle.std.specs.Prelude.{ℕ, ◌==◌, ◌&&◌, ◌-◌, ◌++◌, ◌∷◌, [], List, Bool, if◌then◌else◌, nat_lt, nat_le, codes, decimal, drop, length, min, slice_set, take}
use Rattle.std.specs.List.{flat_map}
use Rattle.fleet_c.specs.declared.fault.Fault.{Fault}

-- the sentence for a code that many calls give: 0 to 5 and 15 to 19
abbrev pub call_text : ℕ → List ℕ
call_text code =
    if code == 0 then codes "done"
    else if code == 1 then codes "out of memory"
    else if code == 2 then codes "the handle is closed"
    else if code == 3 then codes "the handle is open"
    else if code == 4 then codes "there is no client of this number"
    else if code == 5 then codes "there is no robot of this number"
    else if code == 15 then codes "a list has not the length that the call asks for"
    else if code == 16 then codes "a pointer is null"
    else if code == 17 then codes "there is no kind of orders of this number"
    else if code == 18 then codes "the cell is not roomy for the fleet's robots"
    else codes "the chapter has an entry: robots take turns from the beginning of a chapter on"

-- the sentence for a code of a call on a fleet: 6 to 14
abbrev pub fleet_text : ℕ → List ℕ
fleet_text code =
    if code == 6 then codes "the client's notices and unfinished errands leave no room for two more"
    else if code == 7 then codes "the chapter has all the entries that it may have"
    else if code == 8 then codes "all the ticks were made that may be made"
    else if code == 9 then codes "the robot is shut already"
    else if code == 10 then codes "this is the last chapter that there may be"
    else if code == 11 then codes "all notices of the client were handed out"
    else if code == 12 then codes "the mailbox cannot be made that large"
    else if code == 13 then codes "the robot, or each robot, has no errand"
    else codes "the map has a bridge"

-- the sentence for a code of an opening: 20 to 24 and 30 to 35
abbrev pub open_text : ℕ → List ℕ
open_text code =
    if code == 20 then codes "the map: line # is missing or not in its form: the head is `type WORD`, `height N` and `width N`, and `map`"
    else if code == 21 then codes "the map: the height or the width is not from 1 to 1,024"
    else if code == 22 then codes "the map: row # is missing or not as long as the width"
    else if code == 23 then codes "the map: row #, column % has a byte that is no letter of a map"
    else if code == 24 then codes "the map: line # comes after the last row and is not blank"
    else if code == 30 then codes "a limit or the number of clients is out of its range"
    else if code == 31 then codes "there are not 1 to 512 robots"
    else if code == 32 then codes "robot # starts on a cell that is no floor"
    else if code == 33 then codes "robots # and % both start on one cell"
    else if code == 34 then codes "the setup has not the size that this library reads: it was made with another header"
    else codes "the rooms that were found on the map do not pass their checks: robots take no turns"

-- the sentence for a code of a step that is checked, or of a distance: 40 to 49
abbrev pub step_text : ℕ → List ℕ
step_text code =
    if code == 40 then codes "more robots are named than the map has cells"
    else if code == 41 then codes "before the step robot # is on no floor"
    else if code == 42 then codes "before the step robots # and % are on one cell"
    else if code == 43 then codes "the step has not a cell for each robot"
    else if code == 44 then codes "robot # comes to no floor"
    else if code == 45 then codes "robot # comes to a cell that is not next to its own"
    else if code == 46 then codes "robots # and % come to one cell"
    else if code == 47 then codes "robots # and % exchange their cells"
    else if code == 48 then codes "the map has no bridge"
    else codes "the goal is no floor"

-- the sentence for a code of a kept chapter: 50 to 57
abbrev pub trace_text : ℕ → List ℕ
trace_text code =
    if code == 50 then codes "the trace: it is not UTF-8, or not JSON, or nested deeper than 127"
    else if code == 51 then codes "the trace: the number under `version` is not 1 or 2"
    else if code == 52 then codes "the trace: it is JSON, but not in the form of a trace"
    else if code == 53 then codes "the trace: entry # breaks rule %"
    else if code == 54 then codes "the robots are not as many as the chapter's, or have other laws"
    else if code == 55 then codes "the limits `queue` and `life` are not those of the chapter"
    else if code == 56 then codes "within the limits no chapter follows"
    else codes "a robot has waited longer than it may"

-- the sentence for a code of an execution: 60 to 66
abbrev pub execution_text : ℕ → List ℕ
execution_text code =
    if code == 60 then codes "there is no clearance of this number"
    else if code == 61 then codes "the window of the execution has no step"
    else if code == 62 then codes "two robots stand on one cell, or one stands on no cell of the map"
    else if code == 63 then codes "a move is not reached that lies as many steps before the next one as the window has"
    else if code == 64 then codes "the cells are no step, free of conflicts, from the placement that was planned last"
    else if code == 65 then codes "no move may begin"
    else codes "the robot is not under way"

-- the sentence for a code of a shield: 70 to 77
abbrev pub shield_text : ℕ → List ℕ
shield_text code =
    if code == 70 then codes "the map has another number of cells than the shield was made for"
    else if code == 71 then codes "a list is not as long as the shield's number of robots asks"
    else if code == 72 then codes "robot # stands beyond the map"
    else if code == 73 then codes "robot # stands on a wall"
    else if code == 74 then codes "robots # and % stand on one cell"
    else if code == 75 then codes "place # of the order names no robot"
    else if code == 76 then codes "place # of the order names a robot again"
    else codes "preference % of robot # is neither its cell nor next to it"

-- whether a number is at least this one, and below the end
abbrev pub is_in : ℕ → ℕ → ℕ → Bool
is_in least end n = nat_le least n && nat_lt n end

-- the sentence for a code
abbrev pub sentence_of : ℕ → List ℕ
sentence_of code =
    if nat_lt code 6 then call_text code
    else if is_in 15 20 code then call_text code
    else if nat_lt code 15 then fleet_text code
    else if is_in 20 25 code then open_text code
    else if is_in 30 36 code then open_text code
    else if is_in 40 50 code then step_text code
    else if is_in 50 58 code then trace_text code
    else if is_in 60 67 code then execution_text code
    else if is_in 70 78 code then shield_text code
    else codes "there is no such code"

-- a byte of a sentence, or the number that stands for it
abbrev pub piece : Fault → ℕ → List ℕ
piece fault byte = if byte == 35 then decimal fault.first else if byte == 37 then decimal fault.second else byte ∷ []

-- what is told of a fault
abbrev pub message_of : Fault → List ℕ
message_of fault = flat_map (piece fault) (sentence_of fault.code)

-- the text, as far as there is room, and after it what the list had
abbrev pub over : List ℕ → List ℕ → List ℕ
over before text = take (length before) text ++ drop (length text) before

-- the same with a zero after it, or at the list's end
abbrev pub ended : List ℕ → List ℕ → List ℕ
ended before text = slice_set (over before text) (min (length text) (length before - 1)) 0
