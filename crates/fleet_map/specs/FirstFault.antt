-- What each fault says of a text's lines: all before it is in order, and it is what stands first.
use Rattle.std.specs.Prelude.{◌≡◌, ◌⊎◌, ℕ, ◌+◌, ◌<◌, Bool, true, false, List, [], ◌∷◌, ◌++◌, length, Some, ◌==◌, ◌&&◌, ◌||◌, codes}
use Rattle.std.specs.List.{AllByRecursion}
use Rattle.std.specs.Option.{is_some}
use Rattle.fleet_map.specs.declared.fault.MapFault.{MapFault}
use Rattle.fleet_map.specs.declared.fault.MapFault.TheVariants.{Header, Size, Row, Cell, Trailing, NoMemory}
use Rattle.fleet_map.specs.Text.{trimmed, is_empty}
use Rattle.fleet_map.specs.Grammar.{is_type_line, side_on, is_map_line, is_side, odd_cell}
use Rattle.fleet_map.specs.Shape.{IsRow, AreSides, IsBlankLine}

-- the next line is missing or not in its form
abbrev pub Lacks : (List ℕ → Bool) → List (List ℕ) → Type 0
Lacks in_form [] = Unit {0}
Lacks in_form (line ∷ lines) = in_form line ≡ false

-- whether the line gives the side of this name
abbrev pub gives_side : List ℕ → List ℕ → Bool
gives_side name line = is_some (side_on name line)

-- whether the line gives the height or the width
abbrev pub gives_a_side : List ℕ → Bool
gives_a_side line = gives_side (codes "height") line || gives_side (codes "width") line

-- the second line gives one side, and the third one lacks the other
abbrev pub LacksOtherSide : List ℕ → List (List ℕ) → Type 0
LacksOtherSide second lines = ((gives_side (codes "height") second ≡ true) × Lacks (gives_side (codes "width")) lines) ⊎ ((gives_side (codes "width") second ≡ true) × Lacks (gives_side (codes "height")) lines)

-- four lines in their form, and the lines after them
pub record IsHead (lines : List (List ℕ)) (height width : ℕ) (behind : List (List ℕ)) : Type 0 where
  pub first : List ℕ
  pub second : List ℕ
  pub third : List ℕ
  pub fourth : List ℕ
  pub parts : lines ≡ first ∷ second ∷ third ∷ fourth ∷ behind
  pub typed : is_type_line first ≡ true
  pub sides : AreSides height width second third
  pub named : is_map_line fourth ≡ true

-- a head whose sides are within their limits, and the rows that stand after it
pub record AreRowsBefore (lines : List (List ℕ)) (height width : ℕ) (rows rest : List (List ℕ)) : Type 0 where
  pub head : IsHead lines height width (rows ++ rest)
  pub fit : (is_side height && is_side width) ≡ true
  pub each_row : AllByRecursion (IsRow width) rows

-- the fault is the first in these lines; lines and rows before it are in their form
pub data IsFirstFault (lines : List (List ℕ)) : MapFault → Type 0 where
  first_line : Lacks is_type_line lines → IsFirstFault lines (Header 1)
  second_line : (first : List ℕ) (rest : List (List ℕ)) → lines ≡ first ∷ rest → is_type_line first ≡ true → Lacks gives_a_side rest → IsFirstFault lines (Header 2)
  third_line : (first second : List ℕ) (rest : List (List ℕ)) → lines ≡ first ∷ second ∷ rest → is_type_line first ≡ true → LacksOtherSide second rest → IsFirstFault lines (Header 3)
  fourth_line : (height width : ℕ) (first second third : List ℕ) (rest : List (List ℕ)) → lines ≡ first ∷ second ∷ third ∷ rest → is_type_line first ≡ true → AreSides height width second third → Lacks is_map_line rest → IsFirstFault lines (Header 4)
  size : (height width : ℕ) (behind : List (List ℕ)) → IsHead lines height width behind → (is_side height && is_side width) ≡ false → IsFirstFault lines Size
  row : (height width : ℕ) (rows rest : List (List ℕ)) → AreRowsBefore lines height width rows rest → length rows < height → Lacks (λ line. length (trimmed line) == width) rest → IsFirstFault lines (Row (length rows))
  cell : (height width : ℕ) (rows : List (List ℕ)) (line : List ℕ) (rest : List (List ℕ)) (col : ℕ) → AreRowsBefore lines height width rows (line ∷ rest) → length rows < height → length (trimmed line) ≡ width → odd_cell (trimmed line) ≡ Some col → IsFirstFault lines (Cell (length rows) col)
  trailing : (height width : ℕ) (rows blank : List (List ℕ)) (line : List ℕ) (rest : List (List ℕ)) → AreRowsBefore lines height width rows (blank ++ (line ∷ rest)) → length rows ≡ height → AllByRecursion IsBlankLine blank → is_empty (trimmed line) ≡ false → IsFirstFault lines (Trailing (5 + height + length blank))
  -- memory ran out, which says nothing of the text
  memory : IsFirstFault lines NoMemory
