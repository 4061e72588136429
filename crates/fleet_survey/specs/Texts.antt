-- What is told of a survey, as lines and as JSON, and the text of a map.
use Rattle.std.specs.Prelude.{ℕ, ◌==◌, List, [], ◌++◌, Option, None, Some, codes, decimal, length, if◌then◌else◌, nat_le}
use Rattle.std.specs.List.{flat_map}
use Rattle.fleet_survey.specs.declared.ends.DeadEnd.{DeadEnd}
use Rattle.fleet_survey.specs.declared.listed.Listed.{Listed}
use Rattle.fleet_survey.specs.declared.standing.Standing.{Standing}
use Rattle.fleet_survey.specs.declared.standing.Standing.TheVariants.{Bridgeless, AllRoomy, SomeRoomy, NoneRoomy}
use Rattle.fleet_survey.specs.declared.survey.Survey.{Survey}
use Rattle.fleet_survey.specs.declared.mend.Mending.{Mending}
use Rattle.fleet_survey.specs.declared.page.TheConstants.{FEW}

-- ---- lines

-- a word, a number, and the line's end
abbrev pub line : List ℕ → ℕ → List ℕ
line word n = word ++ (decimal n ++ codes "\n")

-- the two cells of a bridge
abbrev pub bridge_line : ℕ × ℕ → List ℕ
bridge_line edge = codes "bridge " ++ (decimal edge.0 ++ (codes " " ++ (decimal edge.1 ++ codes "\n")))

-- the sides: the height, then the width
abbrev pub size_line : Survey → List ℕ
size_line s = codes "size " ++ (decimal s.height ++ (codes " " ++ (decimal s.width ++ codes "\n")))

-- the sides, how many cells are floor, how many edges and bridges there are, and each bridge
abbrev pub map_lines : Survey → List ℕ
map_lines s = size_line s ++ (line (codes "floor ") s.floor ++ (line (codes "edges ") s.edges ++ (line (codes "bridges ") (length s.bridges.items) ++ flat_map bridge_line s.bridges.items)))

-- a number after a blank
abbrev pub blank_and : ℕ → List ℕ
blank_and n = codes " " ++ decimal n

-- the mouth of a dead end, or that it has none
abbrev pub mouth_text : Option ℕ → List ℕ
mouth_text None = codes "none"
mouth_text (Some mouth) = decimal mouth

-- the cells of a dead end, if they are few
abbrev pub few_text : List ℕ → List ℕ
few_text cells = if nat_le (length cells) FEW then codes " cells" ++ flat_map blank_and cells else []

-- the mouth and the size of a dead end
abbrev pub end_head : Option ℕ → ℕ → List ℕ
end_head mouth size = codes "dead_end mouth " ++ (mouth_text mouth ++ (codes " size " ++ decimal size))

-- a dead end
abbrev pub end_line : DeadEnd → List ℕ
end_line e = end_head e.mouth (length e.cells.items) ++ (few_text e.cells.items ++ codes "\n")

-- how many robots there are, how many cells are roomy for them and how many not, and the dead ends
abbrev pub roomy_lines : Survey → List ℕ
roomy_lines s = line (codes "robots ") s.robots ++ (line (codes "roomy ") (length s.roomy.items) ++ (line (codes "not_roomy ") (length s.unroomy.items) ++ (line (codes "dead_ends ") (length s.ends.items) ++ flat_map end_line s.ends.items)))

-- for how many robots all cells are served; 2^32 - 1 stands for every number
abbrev pub served_line : Option ℕ → List ℕ
served_line None = []
served_line (Some n) = if n == 4294967295 then codes "served_for all\n" else line (codes "served_for ") n

-- 2^32 - 1 stands for every number of robots
abbrev pub roomy_for_line : ℕ → List ℕ
roomy_for_line n = if n == 4294967295 then codes "cells_roomy_for all\n" else line (codes "cells_roomy_for ") n

-- how many cells were listed, and for how many robots all are roomy; nothing where no list was given
abbrev pub listed_lines : Option Listed → List ℕ
listed_lines None = []
listed_lines (Some l) = line (codes "cells ") l.count ++ roomy_for_line l.roomy_for

-- for which errands the promises are
abbrev pub condition : Standing → List ℕ
condition Bridgeless = codes "whatever the errands, since the map has no bridge"
condition AllRoomy = codes "whatever the errands, since all cells are roomy"
condition SomeRoomy = codes "if all errands go to roomy cells"
condition NoneRoomy = codes "for no errands, since no cell is roomy"

-- the second and the third promise, and for which errands they are
abbrev pub promise_lines : Standing → List ℕ
promise_lines standing = codes "promise 2, the robot that has waited longest comes nearer at every tick: " ++ (condition standing ++ (codes "\npromise 3, every wait is below a bound: " ++ (condition standing ++ codes "\n")))

-- a survey, with a list of cells if one was given
abbrev pub survey_lines : Survey → Option Listed → List ℕ
survey_lines s listed = map_lines s ++ (roomy_lines s ++ (served_line s.served ++ (listed_lines listed ++ promise_lines s.standing)))

-- ---- walls to be opened

-- a line for each wall to be opened, and how many cells are not roomy then
abbrev pub mending_lines : Mending → List ℕ
mending_lines mending = flat_map (line (codes "mend ")) mending.walls.items ++ line (codes "not_roomy_then ") mending.unroomy
