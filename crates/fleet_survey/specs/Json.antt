-- A survey as a JSON object.
use Rattle.std.specs.Prelude.{ℕ, ◌==◌, List, [], ◌∷◌, ◌++◌, Option, None, Some, codes, decimal, length, if◌then◌else◌}
use Rattle.std.specs.List.{flat_map}
use Rattle.fleet_survey.specs.declared.ends.DeadEnd.{DeadEnd}
use Rattle.fleet_survey.specs.declared.listed.Listed.{Listed}
use Rattle.fleet_survey.specs.declared.standing.Standing.{Standing}
use Rattle.fleet_survey.specs.declared.standing.Standing.TheVariants.{Bridgeless, AllRoomy, SomeRoomy, NoneRoomy}
use Rattle.fleet_survey.specs.declared.survey.Survey.{Survey}

-- ---- lists

-- the text of an item, after a comma
abbrev pub comma_and : {X : Type 0} → (X → List ℕ) → X → List ℕ
comma_and text x = codes "," ++ text x

-- the texts, with commas between
abbrev pub commas : {X : Type 0} → (X → List ℕ) → List X → List ℕ
commas text [] = []
commas text (x ∷ xs) = text x ++ flat_map (comma_and text) xs

-- an array of numbers
abbrev pub numbers_json : List ℕ → List ℕ
numbers_json numbers = codes "[" ++ (commas decimal numbers ++ codes "]")

-- ---- the parts of a survey

-- the members from `height` to `not_roomy`: sides, and how many cells, edges and robots there are
abbrev pub sizes_json : Survey → List ℕ
sizes_json s = (codes "\"height\":" ++ (decimal s.height ++ (codes ",\"width\":" ++ (decimal s.width ++ codes ","))))
    ++ ((codes "\"floor\":" ++ (decimal s.floor ++ (codes ",\"edges\":" ++ (decimal s.edges ++ codes ","))))
    ++ ((codes "\"robots\":" ++ (decimal s.robots ++ (codes ",\"roomy\":" ++ (decimal (length s.roomy.items) ++ codes ","))))
    ++ (codes "\"not_roomy\":" ++ (decimal (length s.unroomy.items) ++ codes ","))))

-- a bridge, as an array of its two cells
abbrev pub bridge_json : ℕ × ℕ → List ℕ
bridge_json edge = codes "[" ++ (decimal edge.0 ++ (codes "," ++ (decimal edge.1 ++ codes "]")))

-- the member `bridges`
abbrev pub bridges_json : List (ℕ × ℕ) → List ℕ
bridges_json bridges = codes "\"bridges\":[" ++ (commas bridge_json bridges ++ codes "],")

-- the mouth of a dead end; null where it has none
abbrev pub mouth_json : Option ℕ → List ℕ
mouth_json None = codes "null"
mouth_json (Some mouth) = decimal mouth

-- the mouth and the size of a dead end
abbrev pub end_begin : Option ℕ → ℕ → List ℕ
end_begin mouth size = codes "{\"mouth\":" ++ (mouth_json mouth ++ (codes ",\"size\":" ++ (decimal size ++ codes ",\"cells\":")))

-- a dead end, as an object of its mouth, its size and its cells
abbrev pub end_json : DeadEnd → List ℕ
end_json e = end_begin e.mouth (length e.cells.items) ++ (numbers_json e.cells.items ++ codes "}")

-- the member `dead_ends`
abbrev pub ends_json : List DeadEnd → List ℕ
ends_json ends = codes "\"dead_ends\":[" ++ (commas end_json ends ++ codes "],")

-- for how many robots all cells are served; 2^32 - 1 stands for every number
abbrev pub served_json : Option ℕ → List ℕ
served_json None = []
served_json (Some n) = if n == 4294967295 then codes "\"served_for\":null," else codes "\"served_for\":" ++ (decimal n ++ codes ",")

-- 2^32 - 1 stands for every number of robots
abbrev pub roomy_for_json : ℕ → List ℕ
roomy_for_json n = if n == 4294967295 then codes "\"cells_roomy_for\":null," else codes "\"cells_roomy_for\":" ++ (decimal n ++ codes ",")

-- the members `cells` and `cells_roomy_for`; nothing where no list of cells was given
abbrev pub listed_json : Option Listed → List ℕ
listed_json None = []
listed_json (Some l) = (codes "\"cells\":" ++ (decimal l.count ++ codes ",")) ++ roomy_for_json l.roomy_for

-- for which errands the promises are, as one word
abbrev pub promised : Standing → List ℕ
promised Bridgeless = codes "bridgeless"
promised AllRoomy = codes "all_roomy"
promised SomeRoomy = codes "some_roomy"
promised NoneRoomy = codes "none_roomy"

-- the member `promises`, and the end of the object
abbrev pub promises_json : Standing → List ℕ
promises_json standing = codes "\"promises\":\"" ++ (promised standing ++ codes "\"}\n")

-- a survey, with a list of cells if one was given, as one object and a line feed
abbrev pub survey_json : Survey → Option Listed → List ℕ
survey_json s listed = codes "{" ++ (sizes_json s ++ (bridges_json s.bridges.items ++ (ends_json s.ends.items ++ (served_json s.served ++ (listed_json listed ++ promises_json s.standing)))))
