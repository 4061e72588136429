-- Explanations as sentences.
use Rattle.std.specs.Prelude.{ℕ, Bool, true, false, ◌&&◌, ◌||◌, nat_lt, ◌/◌, ◌%◌, List, [], ◌++◌, Option, Some, None, max, codes, decimal, encode_utf8, ◌==◌, if◌then◌else◌}
use Rattle.fleet_book.specs.declared.verdict.Verdict.{Verdict}
use Rattle.fleet_book.specs.declared.verdict.Verdict.TheVariants as verdict
use Rattle.fleet_book.specs.Refusals.{refusal_code, verdict_name}
use Rattle.fleet_map.specs.declared.fault.MapFault.{MapFault}
use Rattle.fleet_map.specs.declared.fault.MapFault.TheVariants as map
use Rattle.fleet_trace.specs.declared.part.OpeningPart.{OpeningPart}
use Rattle.fleet_trace.specs.declared.part.OpeningPart.TheVariants as opening
use Rattle.fleet_trace.specs.declared.part.FormPart.{FormPart}
use Rattle.fleet_trace.specs.declared.part.FormPart.TheVariants as form
use Rattle.fleet_check.specs.declared.fault.StepFault.{StepFault}
use Rattle.fleet_check.specs.declared.fault.StepFault.TheVariants as step
use Rattle.fleet_explain.specs.declared.arrival.ArrivalName.{ArrivalName}
use Rattle.fleet_explain.specs.declared.stamp.RobotStamp.{RobotStamp}
use Rattle.fleet_explain.specs.declared.detail.Detail.{Detail}
use Rattle.fleet_explain.specs.declared.detail.Detail.TheVariants as detail
use Rattle.fleet_explain.specs.declared.entry.EntryKind.{EntryKind}
use Rattle.fleet_explain.specs.declared.entry.EntryKind.TheVariants as kind
use Rattle.fleet_explain.specs.declared.explanation.Explanation.{Explanation}
use Rattle.fleet_explain.specs.declared.explanation.Explanation.TheVariants as explanation
use Rattle.fleet_explain.specs.declared.limits.LimitFault.{LimitFault}
use Rattle.fleet_explain.specs.declared.line.LineFault.{LineFault}
use Rattle.fleet_explain.specs.declared.line.LineFault.TheVariants as line
use Rattle.fleet_explain.specs.declared.opening.StartFault.{StartFault}
use Rattle.fleet_explain.specs.declared.opening.StartFault.TheVariants as start
use Rattle.fleet_explain.specs.Keywords.{wants}
use Rattle.fleet_explain.specs.Keywords as keywords
use Rattle.fleet_explain.specs.Limits.{least_of, most_of, name_of}

-- what is wrong with a line of a script
abbrev pub line_text : LineFault → List ℕ
line_text line.NoRobots = codes "the script ends without a line `robots CELL ..`, which a conversation of `talk` may give later"
line_text line.Unknown = codes "its first word begins no line of a script, which are `robots`, `clients`, `ties`, `turns`, the name of a limit, `post`, `take`, `give`, `collect`, `tick`, `shut`, and `#` in the first column"
line_text line.Late = codes "it is a header line, and stands after an event line"
line_text line.Twice = codes "a line with the same first word stands above it, and one is allowed"
line_text (line.Form keyword) = codes "`" ++ keywords.name_of keyword ++ codes "` expects " ++ wants keyword

-- what is wrong with a map: lines are counted from 1, rows and columns from 0
abbrev pub map_text : MapFault → List ℕ
map_text (map.Header n) = codes "line " ++ decimal n ++ codes " is missing or not in its form: the head is `type WORD`, `height N` and `width N`, and `map`"
map_text map.Size = codes "the height or the width is not from 1 to 1024"
map_text (map.Row row) = codes "row " ++ decimal row ++ codes " is missing or not as long as the width"
map_text (map.Cell row column) = codes "row " ++ decimal row ++ codes " has a byte that is no letter of a map"
map_text (map.Trailing n) = codes "line " ++ decimal n ++ codes " comes after the last row and is not blank"
map_text map.NoMemory = codes "out of memory"

-- a cell, with its row and column on a map of this width
abbrev pub cell_text : ℕ → ℕ → List ℕ
cell_text width cell = codes "cell " ++ decimal cell ++ codes " (row " ++ decimal (cell / max width 1) ++ codes ", column " ++ decimal (cell % max width 1) ++ codes ")"

-- a limit's name, what it is, and its range
abbrev pub limit_text : LimitFault → List ℕ
limit_text f = name_of f.kind ++ codes " is " ++ decimal f.value ++ codes ", which is not from " ++ decimal (least_of f.kind) ++ codes " to " ++ decimal (most_of f.kind)

-- why a fleet cannot begin, on a map of this width
abbrev pub start_text : ℕ → StartFault → List ℕ
start_text width (start.Limit f) = limit_text f
start_text width start.Robots = codes "there are not 1 to 512 robots"
start_text width (start.OffFloor robot cell) = codes "in its line `robots`, robot " ++ decimal robot ++ codes " starts on " ++ cell_text width cell ++ codes ", which is no floor"
start_text width (start.Outside robot cell cells) =
    codes "in its line `robots`, robot " ++ decimal robot ++ codes " starts on cell " ++ decimal cell ++ codes ", which is outside of the map: its cells are below " ++ decimal cells
start_text width (start.Shared first second cell) = codes "in its line `robots`, robots " ++ decimal first ++ codes " and " ++ decimal second ++ codes " both start on " ++ cell_text width cell

-- which part of a JSON value is not in the form of a trace
abbrev pub form_text : FormPart → List ℕ
form_text form.Value = codes "it is JSON, but no object with a whole number under `version`"
form_text form.Members = codes "its keys are not `version`, `chapter`, `opening` and `entries`, and no other"
form_text form.Chapter = codes "under `chapter` is no number from 0 to 4294967295"
form_text form.Opening = codes "under `opening` is no object with `clients`, `life`, `queue`, `robots` and `tick`, and no other key, each in its form"
form_text form.Entries = codes "under `entries` is no array"
form_text (form.Entry n) = codes "entry " ++ (decimal n ++ codes " is not in the form of a take, a tick or a shut: `[\"take\",CLIENT,ORDER,VERDICT]`, `[\"tick\",CELLS,ARRIVALS,FAREWELLS]`, `[\"shut\",ROBOT]` or `[\"shut\",ROBOT,STAMP]`")

-- the kind of an entry, with its client or its robot
abbrev pub kind_text : EntryKind → List ℕ
kind_text kind.Opening = codes "the opening"
kind_text (kind.Take client) = codes "a take of client " ++ decimal client
kind_text kind.Tick = codes "a tick"
kind_text (kind.Shut robot) = codes "a shut of robot " ++ decimal robot

-- what it means that the rule of this number, from 1 to 8, is broken
abbrev pub rule_text : ℕ → List ℕ
rule_text rule =
    if rule == 1 then codes "it is not in order"
    else if rule == 2 then codes "there is no such client"
    else if rule == 3 then codes "the verdict is not the one that the order gets"
    else if rule == 4 then codes "the step has a conflict, or leaves the floor"
    else if rule == 5 then codes "the arrivals are not those that are due"
    else if rule == 6 then codes "the farewells are not those that are due"
    else if rule == 7 then codes "a stamp is outside of its robot's law"
    else codes "the robot cannot be shut"

-- which part of an opening is not in order
abbrev pub opening_text : OpeningPart → List ℕ
opening_text opening.Robots = codes "there are not 1 to 512 robots"
opening_text opening.Clients = codes "there are not 1 to 64 clients"
opening_text opening.Queue = codes "`queue` is not from 1 to 65536"
opening_text opening.Life = codes "`life` is not from 1 to 1099511627776"
opening_text opening.Cells = codes "two robots are on one cell, or a robot is on no floor"
opening_text (opening.Robot r) = codes "robot " ++ (decimal r ++ codes " has a law, a wait or an errand that no robot has there")
opening_text (opening.Client c) = codes "client " ++ (decimal c ++ codes " has counts that no client has there")
opening_text (opening.Names c) = codes "two errands of client " ++ (decimal c ++ codes " have one number, or their numbers do not rise on a robot")

-- a stamp, and what its robot's law allows
abbrev pub stamp_text : RobotStamp → List ℕ
stamp_text s = codes "robot " ++ (decimal s.robot ++ (codes "'s stamp " ++ (decimal s.stamp ++ (codes " is not from " ++ (decimal s.low ++ (codes " to " ++ decimal s.high))))))

-- the first fault of a step
abbrev pub step_text : StepFault → List ℕ
step_text step.Length = codes "it has not a cell for each robot"
step_text (step.OffFloor r) = codes "robot " ++ decimal r ++ codes " comes to no floor"
step_text (step.NotAdjacent r) = codes "robot " ++ decimal r ++ codes " comes to a cell that is not next to its own"
step_text step.NoMemory = codes "out of memory"
step_text (step.Vertex i j) = codes "robots " ++ decimal i ++ codes " and " ++ decimal j ++ codes " come to one cell"
step_text (step.Swap i j) = codes "robots " ++ decimal i ++ codes " and " ++ decimal j ++ codes " exchange their cells"

-- a robot's arrival
abbrev pub arrival_text : ArrivalName → List ℕ
arrival_text d = codes "robot " ++ decimal d.robot ++ codes "'s with errand " ++ decimal d.number ++ codes " of client " ++ decimal d.client

-- a verdict that was carried out
abbrev pub done_text : Verdict → List ℕ
done_text (verdict.Accepted number) = codes "accepted " ++ decimal number
done_text v = verdict_name v

-- a verdict, by the number of the refusal if it is one
abbrev pub answer_text : Option ℕ → Verdict → List ℕ
answer_text (Some code) v = codes "refused " ++ decimal code ++ codes " " ++ verdict_name v
answer_text None v = done_text v

-- a verdict: that the order was carried out, or the number and the name of the refusal
abbrev pub verdict_text : Verdict → List ℕ
verdict_text v = answer_text (refusal_code v) v

-- what more is said, after a colon; nothing where nothing is
abbrev pub detail_text : Detail → List ℕ
detail_text detail.Nothing = []
detail_text (detail.Opening part) = codes ": " ++ opening_text part
detail_text (detail.Due v) = codes ": `" ++ verdict_text v ++ codes "` is due"
detail_text (detail.Step fault) = codes ": " ++ step_text fault
detail_text (detail.Missing d) = codes ": " ++ arrival_text d ++ codes " is due, and not shown"
detail_text (detail.Extra d) = codes ": " ++ arrival_text d ++ codes " is shown, and not due"
detail_text (detail.MissingFarewell robot) = codes ": robot " ++ decimal robot ++ codes "'s is due, and not shown"
detail_text (detail.ExtraFarewell robot) = codes ": robot " ++ decimal robot ++ codes "'s is shown, and not due"
detail_text (detail.Stamp s) = codes ": " ++ stamp_text s
detail_text (detail.Clients count) = codes ": the number of clients is " ++ decimal count
detail_text (detail.Robots count) = codes ": the number of robots is " ++ decimal count
detail_text detail.ShutBefore = codes ": it is shut already"

-- whether nothing more is said
abbrev pub is_nothing : Detail → Bool
is_nothing detail.Nothing = true
is_nothing _ = false

-- what more there is to say of an entry that breaks this rule
abbrev pub more_text : ℕ → Detail → List ℕ
more_text rule d = if is_nothing d && ((rule == 5) || (rule == 6)) then codes ": each is shown that is due, but in another order or more than once" else detail_text d

-- a byte of a map: itself if it can be shown, else its number
abbrev pub letter_text : ℕ → List ℕ
letter_text byte = if nat_lt byte 32 || nat_lt 126 byte then codes "byte " ++ decimal byte else codes "`" ++ (encode_utf8 byte ++ codes "`")

-- a line that a serve of this many clients does not take
abbrev pub unserved_text : ℕ → ℕ → List ℕ
unserved_text n clients = codes "all in order for `run`; `serve` does not take line " ++ decimal n ++ codes ", which is no post or collect of a client below " ++ decimal clients

-- the whole sentence
abbrev pub sentence : Explanation → List ℕ
sentence explanation.Fine = codes "all in order"
sentence (explanation.Map f) = codes "the map: " ++ map_text f
sentence (explanation.Letter row column letter) = codes "the map: row " ++ decimal row ++ codes ", column " ++ decimal column ++ codes " has " ++ letter_text letter ++ codes ", which is no letter of a map"
sentence (explanation.Script n f) = codes "the script: line " ++ decimal n ++ codes ": " ++ line_text f
sentence (explanation.Unserved n clients) = unserved_text n clients
sentence (explanation.Start f width) = codes "the script: " ++ start_text width f
sentence (explanation.NotJson position) = codes "the trace: it is not UTF-8, or not JSON, or nested deeper than 127: its reader stopped at line " ++ (decimal position.line ++ (codes ", column " ++ decimal position.column))
sentence explanation.Version = codes "the trace: the number under `version` is not 1 or 2"
sentence (explanation.Form part) = codes "the trace: " ++ form_text part
sentence (explanation.Illegal at rule kind detail) = codes "the trace: entry " ++ decimal at ++ codes ", " ++ kind_text kind ++ codes ": " ++ rule_text rule ++ more_text rule detail
