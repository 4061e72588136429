-- The text of a map, and what is wrong with a text that is none: the first fault from its first line on.
use Rattle.std.specs.Prelude.{◌≡◌, ℕ, ◌+◌, Bool, false, List, [], ◌∷◌, ◌++◌, length, zero, suc, min, Option, Some, None, Result, Ok, Err, nat_le, ◌==◌, ◌||◌, ◌&&◌, not, if◌then◌else◌, codes}
use Rattle.std.specs.List.{position, list_any}
use Rattle.std.specs.Option.{option_map, option_and_then}
use Rattle.std.specs.Str.{bytes_eq}
use Rattle.fleet_map.specs.declared.fault.MapFault.{MapFault}
use Rattle.fleet_map.specs.declared.fault.MapFault.TheVariants.{Header, Size, Row, Cell, Trailing, NoMemory}
use Rattle.fleet_map.specs.declared.map_text.MapText.{MapText}
use Rattle.fleet_map.specs.Text.{lines_of, trimmed, words_of, is_empty, begins_with_word, number_of}

-- a map without where its cells lie in memory
pub record Map : Type 0 where
  pub height : ℕ
  pub width : ℕ
  pub cells : List ℕ

-- the map that the program holds, without its memory
abbrev pub view : {A : Type 0} → MapText A → Map
view m = record { height = m.height; width = m.width; cells = m.cells.items }

-- ---- steps that may fault

infixl 10 ◌>>=◌
-- the next step on what the first one gives, or the fault of the first
abbrev pub ◌>>=◌ : {A B : Type 0} → Result A MapFault → (A → Result B MapFault) → Result B MapFault
(Ok x) >>= f = f x
(Err e) >>= f = Err e

-- reading gives this fault; out of memory says nothing of what reading gives
abbrev pub Fails : {Y : Type 0} → MapFault → Result Y MapFault → Type 0
Fails NoMemory read = Unit {0}
Fails fault read = read ≡ Err fault

-- what a function returned, seen by see, is what reading gives
abbrev pub Shows : {X Y : Type 0} → (X → Y) → Result X MapFault → Result Y MapFault → Type 0
Shows see (Ok x) read = read ≡ Ok (see x)
Shows see (Err e) read = read ≡ Err e

-- what a function returned, seen by see, is what reading gives, unless memory ran out
abbrev pub Gives : {X Y : Type 0} → (X → Y) → Result X MapFault → Result Y MapFault → Type 0
Gives see (Ok x) read = read ≡ Ok (see x)
Gives see (Err e) read = Fails e read

-- the value, or this fault where there is none
abbrev pub need : {A : Type 0} → MapFault → Option A → Result A MapFault
need fault None = Err fault
need fault (Some x) = Ok x

-- nothing if the test passes, or else this fault
abbrev pub only_if : Bool → MapFault → Result (Unit {0}) MapFault
only_if test fault = if test then Ok tt else Err fault

-- ---- the lines of the head

-- a line, and those after it
abbrev pub line_at : ℕ → List (List ℕ) → Result (List ℕ × List (List ℕ)) MapFault
line_at number [] = Err (Header number)
line_at number (line ∷ lines) = Ok (line, lines)

-- the two words; `None` where there are fewer or more
abbrev pub pair_of : List (List ℕ) → Option (List ℕ × List ℕ)
pair_of (key ∷ word ∷ []) = Some (key, word)
pair_of words = None

-- the two words of a line that begins with the first
abbrev pub key_and_word : List ℕ → Option (List ℕ × List ℕ)
key_and_word line = if begins_with_word line then pair_of (words_of line) else None

-- whether the first of two words is `type`, and the second has no carriage return
abbrev pub is_type_pair : Option (List ℕ × List ℕ) → Bool
is_type_pair None = false
is_type_pair (Some p) = bytes_eq p.0 (codes "type") && not (list_any (λ b. b == 13) p.1)

-- whether the line is `type` and one more word
abbrev pub is_type_line : List ℕ → Bool
is_type_line line = is_type_pair (key_and_word line)

-- the side that stands after its name; each one over the limit is as good as the first
abbrev pub side_on : List ℕ → List ℕ → Option ℕ
side_on name line = option_and_then (λ p. if bytes_eq p.0 name then option_map (λ n. min n 1025) (number_of p.1) else None) (key_and_word line)

-- whether the line is `map`, with blanks and tabs after it or none
abbrev pub is_map_line : List ℕ → Bool
is_map_line line = bytes_eq (trimmed line) (codes "map")

-- the side of this name on the first line, which has this number, and the lines after it
unfoldable pub side_at : List ℕ → ℕ → List (List ℕ) → Result (ℕ × List (List ℕ)) MapFault
side_at name number lines = do
  line ← line_at number lines
  side ← need (Header number) (side_on name line.0)
  Ok (side, line.1)

-- height, width and the lines after line 3, by the sides that line 2 gave; without one, line 2 is at fault
abbrev pub sides_behind : Option ℕ → Option ℕ → List (List ℕ) → Result (ℕ × ℕ × List (List ℕ)) MapFault
sides_behind (Some height) width lines = side_at (codes "width") 3 lines >>= λ other. Ok (height, other.0, other.1)
sides_behind None (Some width) lines = side_at (codes "height") 3 lines >>= λ other. Ok (other.0, width, other.1)
sides_behind None None lines = Err (Header 2)

-- height and width, in either order
unfoldable pub sides_at : List (List ℕ) → Result (ℕ × ℕ × List (List ℕ)) MapFault
sides_at lines = do
  line ← line_at 2 lines
  sides_behind (side_on (codes "height") line.0) (side_on (codes "width") line.0) line.1

-- whether the number may be a side, 1 to 1,024
abbrev pub is_side : ℕ → Bool
is_side n = nat_le 1 n && nat_le n 1024

-- lines 1 to 4, and those after them
unfoldable pub head_at : List (List ℕ) → Result (ℕ × ℕ × List (List ℕ)) MapFault
head_at lines = do
  first ← line_at 1 lines
  typed ← only_if (is_type_line first.0) (Header 1)
  sides ← sides_at first.1
  fourth ← line_at 4 sides.2
  named ← only_if (is_map_line fourth.0) (Header 4)
  sized ← only_if (is_side sides.0 && is_side sides.1) Size
  Ok (sides.0, sides.1, fourth.1)

-- ---- rows

-- the letters `.` `G` `S` `@` `O` `T` `W`
abbrev pub is_letter : ℕ → Bool
is_letter b = (b == 46) || (b == 71) || (b == 83) || (b == 64) || (b == 79) || (b == 84) || (b == 87)

-- the place of the first cell that is none of these
abbrev pub odd_cell : List ℕ → Option ℕ
odd_cell cells = position (λ b. not (is_letter b)) cells

-- the cells of a row, where none is at fault; else the fault of the one at the column
abbrev pub letters_in : ℕ → List ℕ → Option ℕ → Result (List ℕ) MapFault
letters_in row cells None = Ok cells
letters_in row cells (Some col) = Err (Cell row col)

-- the cells of a row, or its fault: the length first, then the first cell that is no letter
abbrev pub row_of : ℕ → ℕ → List ℕ → Result (List ℕ) MapFault
row_of width row cells = if length cells == width then letters_in row cells (odd_cell cells) else Err (Row row)

-- the row that stands first, and the lines after it
abbrev pub row_at : ℕ → ℕ → List (List ℕ) → Result (List ℕ × List (List ℕ)) MapFault
row_at width row [] = Err (Row row)
row_at width row (line ∷ lines) = row_of width row (trimmed line) >>= λ cells. Ok (cells, lines)

-- this many rows, numbered from the first on
unfoldable pub rows_at : ℕ → ℕ → ℕ → List (List ℕ) → Result (List ℕ × List (List ℕ)) MapFault
rows_at zero width row lines = Ok ([], lines)
rows_at (suc count) width row lines = do
  first ← row_at width row lines
  others ← rows_at count width (row + 1) first.1
  Ok (first.0 ++ others.0, others.1)

-- only blank lines are left
unfoldable pub end_at : ℕ → List (List ℕ) → Result (Unit {0}) MapFault
end_at number [] = Ok tt
end_at number (line ∷ lines) = if is_empty (trimmed line) then end_at (number + 1) lines else Err (Trailing number)

-- the map of these lines, or the first fault in them
unfoldable pub map_of_lines : List (List ℕ) → Result Map MapFault
map_of_lines lines = do
  head ← head_at lines
  rows ← rows_at head.0 head.1 0 head.2
  end ← end_at (5 + head.0) rows.1
  Ok (record { height = head.0; width = head.1; cells = rows.0 })

-- the map of a text, or the first fault in it
abbrev pub map_of : List ℕ → Result Map MapFault
map_of bytes = map_of_lines (lines_of bytes)
