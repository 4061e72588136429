-- What one line after a script's head says.
use Rattle.std.specs.Prelude.{ℕ, List, [], ◌∷◌, Option, Some, None, if◌then◌else◌}
use Rattle.fleet_map.specs.Text.{words_of}
use Rattle.fleet_script.specs.Script.{Repeated, events_of, is_comment}

-- nothing, an event and how often it happens, or neither
pub data Said : Type 0 where
  nothing : Said
  events : Repeated → Said
  other : Said

-- a line with a word, by the events that it names
abbrev pub said_of : Option Repeated → Said
said_of (Some more) = events more
said_of None = other

-- the words of a line that is no comment
abbrev pub said_in : List (List ℕ) → Said
said_in [] = nothing
said_in (key ∷ words) = said_of (events_of key words)

-- the bytes of a line, without its line feed
abbrev pub event_line_in : List ℕ → Said
event_line_in line = if is_comment line then nothing else said_in (words_of line)
