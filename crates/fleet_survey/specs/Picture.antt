-- A picture of a survey: SVG, in which each cell is 1 wide and 1 high.
use Rattle.std.specs.Prelude.{ℕ, ◌-◌, ◌/◌, ◌%◌, ◌==◌, List, ◌++◌, codes, decimal, length, if◌then◌else◌, max}
use Rattle.std.specs.List.{flat_map}
use Rattle.fleet_survey.specs.declared.survey.Survey.{Survey}
use Rattle.fleet_survey.specs.declared.picture.TheConstants.{BEGIN, STYLE, FLOOR, UNROOMY, BRIDGES, END}

-- what the picture shows, in words, for those that do not see it
abbrev pub label_text : (bridges unroomy floor robots : ℕ) → List ℕ
label_text bridges unroomy floor robots = codes "\" aria-label=\"" ++ (decimal bridges ++ (codes " bridges; " ++ (decimal unroomy ++ (codes " of "
    ++ (decimal floor ++ (codes " cells are not roomy for " ++ (decimal robots ++ codes " robots")))))))

-- the picture up to its shapes: its sides, its label and its style
abbrev pub head_text : Survey → List ℕ
head_text s = (BEGIN.now ++ (decimal s.width ++ (codes " " ++ decimal s.height))) ++ (label_text (length s.bridges.items) (length s.unroomy.items) s.floor s.robots ++ STYLE.now)

-- a line through a cell, from its column and row on
abbrev pub cell_text : ℕ → ℕ → List ℕ
cell_text width cell = codes "M" ++ (decimal (cell % width) ++ (codes " " ++ (decimal (cell / width) ++ codes "h1")))

-- to the next column, or to the next row
abbrev pub way_text : ℕ → ℕ → List ℕ
way_text lower upper = if upper - lower == 1 then codes "h1" else codes "v1"

-- a line from the one cell of a bridge to the other
abbrev pub bridge_text : ℕ → ℕ × ℕ → List ℕ
bridge_text width edge = (codes "M" ++ (decimal (edge.0 % width) ++ (codes " " ++ decimal (edge.0 / width)))) ++ way_text edge.0 edge.1

-- the bridges, and the end of the picture
abbrev pub rest_text : ℕ → List (ℕ × ℕ) → List ℕ
rest_text width bridges = BRIDGES.now ++ (flat_map (bridge_text width) bridges ++ END.now)

-- the roomy cells, the others, and the bridges
abbrev pub shapes_text : ℕ → Survey → List ℕ
shapes_text width s = (FLOOR.now ++ flat_map (cell_text width) s.roomy.items) ++ ((UNROOMY.now ++ flat_map (cell_text width) s.unroomy.items) ++ rest_text width s.bridges.items)

-- the whole picture
abbrev pub picture_text : Survey → List ℕ
picture_text s = head_text s ++ shapes_text (max s.width 1) s
