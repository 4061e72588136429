-- What a line asks.
use Rattle.std.specs.Prelude.{ℕ, ◌+◌, Bool, false, List, [], ◌∷◌, length, take, drop, Option, Some, None, ◌==◌, nat_lt, if◌then◌else◌, codes}
use Rattle.std.specs.List.{position}
use Rattle.std.specs.Str.{bytes_eq}
use Rattle.std.specs.Str.Lines.{strip_carriage_return}
use Rattle.fleet_map.specs.Text.{is_blank, words_of}
use Rattle.fleet_script.specs.Event.{Said, event_line_in}
use Rattle.fleet_script.specs.Event as said
use Rattle.fleet_script.specs.Numbers.{most32, one_in}
use Rattle.fleet_talk.specs.declared.ask.Asked.{Asked}
use Rattle.fleet_talk.specs.declared.ask.Asked.TheVariants.{Nothing, Events, Chapter, Look, Open, Quit, Other, Long}

-- what a line `open` asks, by its client
abbrev pub open_asked : Option ℕ → Asked
open_asked None = Other
open_asked (Some client) = Open client

-- what one word asks
abbrev pub alone_asked : List ℕ → Asked
alone_asked word =
    if bytes_eq word (codes "chapter") then Chapter
    else if bytes_eq word (codes "look") then Look
    else if bytes_eq word (codes "quit") then Quit
    else Other

-- what a line asks that begins with this word, and is neither an event line nor a line `open`
abbrev pub first_asked : List ℕ → List (List ℕ) → Asked
first_asked word [] = alone_asked word
first_asked word words = Other

-- what the words of a line ask that is no event line
abbrev pub word_asked : List (List ℕ) → Asked
word_asked [] = Other
word_asked (word ∷ words) = if bytes_eq word (codes "open") then open_asked (one_in most32 words) else first_asked word words

-- what a line of these words asks, by what it says as an event line
abbrev pub asked_on : Said → List (List ℕ) → Asked
asked_on said.nothing words = Nothing
asked_on (said.events more) words = Events (record { event = more.event; times = more.times })
asked_on said.other words = word_asked words

-- what a line asks that has no mark
abbrev pub asked_in : List ℕ → Asked
asked_in line = asked_on (event_line_in line) (words_of line)

-- ---- marks

-- whether a line begins with @
abbrev pub is_marked : List ℕ → Bool
is_marked [] = false
is_marked (first ∷ rest) = first == 64

-- the bytes before the first blank, by its place; all where there is none
abbrev pub before_blank : Option ℕ → List ℕ → List ℕ
before_blank None line = line
before_blank (Some end) line = take end line

-- the bytes after the first blank, by its place; none where there is none
abbrev pub after_blank : Option ℕ → List ℕ → List ℕ
after_blank None line = []
after_blank (Some end) line = drop (end + 1) line

-- the mark of a line that begins with @
abbrev pub mark_in : List ℕ → Option (List ℕ)
mark_in line = if is_marked line then Some (before_blank (position is_blank line) line) else None

-- a line without its mark
abbrev pub told_in : List ℕ → List ℕ
told_in line = if is_marked line then after_blank (position is_blank line) line else line

-- ---- lines

-- a line: its number from 1, its mark, what follows that, and what this asks
pub record Line : Type 0 where
  pub number : ℕ
  pub mark : Option (List ℕ)
  pub told : List ℕ
  pub asked : Asked

-- what a line asks, by its first bytes and what follows its mark
abbrev pub asked_within : List ℕ → List ℕ → Asked
asked_within bytes told = if nat_lt 8192 (length bytes) then Long else asked_in told

-- the line of this number, by its first bytes: one more than a line may have, where it is longer
abbrev pub line_in : ℕ → List ℕ → Line
line_in number bytes =
    let bare = strip_carriage_return bytes in
    let told = told_in bare in
    record { number = number; mark = mark_in bare; told = told; asked = asked_within bytes told }
