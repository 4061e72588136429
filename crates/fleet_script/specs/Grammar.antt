-- A text that is a script, by its lines: a head, and the event lines after it. And what is first at fault in another text.
use Rattle.std.specs.Prelude.{◌≡◌, ℕ, ◌+◌, Bool, true, false, List, [], ◌∷◌, ◌++◌, length, take, map, replicate, Option, Some, None, is_some, unwrap_or, if◌then◌else◌, codes}
use Rattle.std.specs.List.{AllByRecursion, IsDistinct, flat_map, list_any}
use Rattle.std.specs.Option.{option_or}
use Rattle.std.specs.Str.{bytes_eq}
use Rattle.fleet_map.specs.Text.{lines_of, words_of}
use Rattle.fleet_book.specs.declared.event.Event.{Event}
use Rattle.fleet_script.specs.declared.head.GivenLimits.{GivenLimits}
use Rattle.fleet_script.specs.declared.script.ScriptFault.{ScriptFault}
use Rattle.fleet_script.specs.declared.script.ScriptFault.TheVariants as script_fault
use Rattle.fleet_script.specs.Numbers.{most32, most64, one_in}
use Rattle.fleet_script.specs.Script.{Repeated, Plan, is_comment, starts_in, ties_in, turns_in, events_of, limits_of}

-- ---- lines

-- a line, as its words: none where it is skipped
abbrev pub Line : Type 0
Line = List (List ℕ)

-- a line is skipped if it is blank, or its first byte is #
abbrev pub line_in : List ℕ → Line
line_in bytes = if is_comment bytes then [] else words_of bytes

-- the lines of a text, as their words
abbrev pub lines_in : List ℕ → List Line
lines_in bytes = map line_in (lines_of bytes)

-- whether a line with this first word is a header line, and the others are in its form
abbrev pub is_header : List ℕ → List (List ℕ) → Bool
is_header key words =
    if bytes_eq key (codes "robots") then is_some (starts_in words)
    else if bytes_eq key (codes "ties") then is_some (ties_in words)
    else if bytes_eq key (codes "turns") then is_some (turns_in words)
    else if list_any (bytes_eq key) (codes "life" ∷ codes "orders" ∷ codes "clock" ∷ []) then is_some (one_in most64 words)
    else if list_any (bytes_eq key) (codes "clients" ∷ codes "lane" ∷ codes "outlet" ∷ codes "queue" ∷ codes "mailbox" ∷ codes "chapter" ∷ codes "chapters" ∷ []) then is_some (one_in most32 words)
    else false

-- the event of a line, and how often
abbrev pub event_on : Line → Option Repeated
event_on [] = None
event_on (key ∷ words) = events_of key words

-- ---- lines in form

-- a line of the head
abbrev pub IsHeadLine : Line → Type 0
IsHeadLine [] = Unit {0}
IsHeadLine (key ∷ words) = is_header key words ≡ true

-- a line after the head
abbrev pub IsBodyLine : Line → Type 0
IsBodyLine [] = Unit {0}
IsBodyLine (key ∷ words) = is_some (events_of key words) ≡ true

-- the first words of the lines that have words
abbrev pub first_words : List Line → List (List ℕ)
first_words lines = flat_map (λ line. take 1 line) lines

-- header lines come before event lines, each at most once
pub record AreInForm (lines : List Line) : Type 0 where
  pub head : List Line
  pub body : List Line
  pub parts : lines ≡ head ++ body
  pub headers : AllByRecursion IsHeadLine head
  pub once : IsDistinct bytes_eq (first_words head)
  pub events : AllByRecursion IsBodyLine body

-- ---- what lines in form say

-- what `read` makes of the words after this first one; `None` where the line begins with another, or has no words
abbrev pub says : {A : Type 0} → List ℕ → (List (List ℕ) → Option A) → Line → Option A
says key read [] = None
says key read (first ∷ words) = if bytes_eq first key then read words else None

-- what the line says that begins with this word, where there is one: in form there is one at most
abbrev pub said : {A : Type 0} → List ℕ → (List (List ℕ) → Option A) → List Line → Option A
said key read [] = None
said key read (line ∷ lines) = option_or (said key read lines) (says key read line)

-- the limits that the lines give, `None` for each that no line gives
abbrev pub limits_said : List Line → GivenLimits
limits_said lines = record {
  lane = said (codes "lane") (one_in most32) lines;
  outlet = said (codes "outlet") (one_in most32) lines;
  queue = said (codes "queue") (one_in most32) lines;
  mailbox = said (codes "mailbox") (one_in most32) lines;
  life = said (codes "life") (one_in most64) lines;
  orders = said (codes "orders") (one_in most64) lines;
  clock = said (codes "clock") (one_in most64) lines;
  chapter = said (codes "chapter") (one_in most32) lines;
  chapters = said (codes "chapters") (one_in most32) lines;
}

-- what `see` makes of a line's event, as often as it is done; nothing where the line has none
abbrev pub times_of : {A : Type 0} → (Repeated → A) → Option Repeated → List A
times_of see None = []
times_of see (Some r) = replicate r.times (see r)

-- the events of the event lines, in order
abbrev pub events_said : List Line → List Event
events_said [] = []
events_said (line ∷ lines) = times_of (λ r. r.event) (event_on line) ++ events_said lines

-- the line of each of these events, where the first line has this number
abbrev pub numbers_said : ℕ → List Line → List ℕ
numbers_said number [] = []
numbers_said number (line ∷ lines) = times_of (λ r. number) (event_on line) ++ numbers_said (number + 1) lines

-- lines in form, one of which gives the robots, and what they say: all else has a default
pub record IsScript (lines : List Line) (plan : Plan) : Type 0 where
  pub form : AreInForm lines
  pub starts : said (codes "robots") starts_in lines ≡ Some plan.starts
  pub clients : plan.clients ≡ unwrap_or (said (codes "clients") (one_in most32) lines) 1
  pub limits : plan.limits ≡ limits_of (limits_said lines)
  pub south : plan.south ≡ unwrap_or (said (codes "ties") ties_in lines) false
  pub turns : plan.turns ≡ unwrap_or (said (codes "turns") turns_in lines) 16
  pub events : plan.events ≡ events_said lines
  pub numbers : plan.lines ≡ numbers_said 1 lines

-- ---- lines that are no script

-- why the lines are no script, by the number of a line from 1
pub data IsFirstFault (lines : List Line) : ScriptFault → Type 0 where
  -- the lines before this one are in form, and with it they are not
  line : (before : List Line) (line : Line) (behind : List Line) → lines ≡ before ++ line ∷ behind → AreInForm before → (AreInForm (before ++ line ∷ []) → ⊥) → IsFirstFault lines (script_fault.Line (length before + 1))
  -- all are in form, and none gives the robots
  robots : AreInForm lines → said (codes "robots") starts_in lines ≡ None → IsFirstFault lines (script_fault.Line (length lines + 1))
  -- memory ran out, which says nothing of the text
  memory : IsFirstFault lines script_fault.NoMemory
