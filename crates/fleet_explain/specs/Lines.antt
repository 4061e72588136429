-- What is wrong with a line of a script that may not stand where it does.
use Rattle.std.specs.Prelude.{ℕ, ◌+◌, ◌-◌, Bool, true, false, List, [], ◌∷◌, length, take, map, slice_index, slice_index_or, Option, Some, None, nat_le, ◌&&◌, if◌then◌else◌}
use Rattle.std.specs.Borrow.{Bor}
use Rattle.std.specs.List.{list_any}
use Rattle.std.specs.Str.{bytes_eq}
use Rattle.fleet_map.specs.Text.{words_of}
use Rattle.fleet_script.specs.Script.{is_comment}
use Rattle.fleet_script.specs.Event.{Said, nothing, events, other, event_line_in}
use Rattle.fleet_explain.specs.declared.keyword.Keyword.{Keyword}
use Rattle.fleet_explain.specs.declared.line.LineFault.{LineFault}
use Rattle.fleet_explain.specs.declared.line.LineFault.TheVariants.{NoRobots, Unknown, Late, Twice, Form}
use Rattle.fleet_explain.specs.Keywords.{keyword_named, is_event}

-- what the texts are
abbrev pub texts : List (Bor (List ℕ)) → List (List ℕ)
texts lines = map (λ x. x.now) lines

-- whether an event line was said
abbrev pub says_events : Said → Bool
says_events nothing = false
says_events (events more) = true
says_events other = false

-- whether the line is an event line in its form
abbrev pub is_event_line : List ℕ → Bool
is_event_line line = says_events (event_line_in line)

-- whether the first of the words is this one
abbrev pub begins_with : List ℕ → List (List ℕ) → Bool
begins_with word [] = false
begins_with word (first ∷ words) = bytes_eq first word

-- whether the line is no comment and begins with the word
abbrev pub has_key : List ℕ → List ℕ → Bool
has_key word line = if is_comment line then false else begins_with word (words_of line)

-- by the keyword of the line: an event line is out of its form; a header line comes after an event line, is the second, or is out of its form
abbrev pub header_fault : List (List ℕ) → List ℕ → Keyword → LineFault
header_fault before word keyword =
    if is_event keyword then Form keyword
    else if list_any is_event_line before then Late
    else if list_any (has_key word) before then Twice
    else Form keyword

-- what is wrong with a line that begins with the word, which is this keyword or none
abbrev pub named_fault : List (List ℕ) → List ℕ → Option Keyword → LineFault
named_fault before word None = Unknown
named_fault before word (Some keyword) = header_fault before word keyword

-- what is wrong with a line that begins with the word, after these lines
abbrev pub keyed_fault : List (List ℕ) → List ℕ → LineFault
keyed_fault before word = named_fault before word (keyword_named word)

-- the lines before, and the words of the line
abbrev pub line_fault : List (List ℕ) → List (List ℕ) → LineFault
line_fault before [] = Unknown
line_fault before (word ∷ words) = keyed_fault before word

-- the line of this number, from 1; after the last, a line `robots` is missing
abbrev pub fault_at : List (List ℕ) → ℕ → LineFault
fault_at lines number =
    if nat_le 1 number && nat_le number (length lines)
    then line_fault (take (number - 1) lines) (words_of (slice_index_or lines (number - 1) []))
    else NoRobots

-- the byte in a row and column of a map's lines; the first row is the fifth line
abbrev pub letter_in : List (List ℕ) → ℕ → ℕ → ℕ
letter_in lines row column = slice_index (slice_index_or lines (row + 4) []) column
