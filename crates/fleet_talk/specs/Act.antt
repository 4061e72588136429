-- What is done at a line once the fleet is open.
use Rattle.std.specs.Prelude.{ℕ, ◌+◌, Bool, true, false, List, [], ◌∷◌, ◌++◌, replicate, Option, None, if◌then◌else◌}
use Rattle.fleet_book.specs.declared.event.Event.{Event}
use Rattle.fleet_talk.specs.declared.ask.Asked.{Asked}
use Rattle.fleet_talk.specs.declared.ask.Asked.TheVariants.{Nothing, Events, Chapter, Look, Open, Quit, Other, Long, NoRoom}
use Rattle.fleet_talk.specs.declared.ends.Settings.{Settings}
use Rattle.fleet_talk.specs.Ask.{Line}
use Rattle.fleet_talk.specs.Door.{line_let_in}
use Rattle.fleet_text.specs.Answers.{bad_line}
use Rattle.fleet_talk.specs.Says.{end_line}

-- what is done at a line, under the line's mark
pub data Act : Type 0 where
  -- a text is said
  say : Option (List ℕ) → List ℕ → Act
  -- an event is done
  play : Option (List ℕ) → Event → Act
  -- the chapter is handed out
  turn : Option (List ℕ) → Act
  -- the fleet is looked at
  show : Option (List ℕ) → Act
  -- a client's open errands are listed
  list : Option (List ℕ) → ℕ → Act
  -- a client's post is refused, since its cell is not roomy
  refuse : Option (List ℕ) → ℕ → Act

-- what is done at a line that asks this, in order
abbrev pub acts_asked : Line → Asked → List Act
acts_asked line Nothing = []
acts_asked line (Events more) = replicate more.times (play line.mark more.event)
acts_asked line Chapter = turn line.mark ∷ []
acts_asked line Look = show line.mark ∷ []
acts_asked line (Open client) = list line.mark client ∷ []
acts_asked line Quit = []
acts_asked line Other = say line.mark (bad_line line.number) ∷ []
acts_asked line Long = say line.mark (bad_line line.number) ∷ []
acts_asked line (NoRoom client) = refuse line.mark client ∷ []

-- the same as one act
abbrev pub act_asked : Line → Asked → Act
act_asked line (Events more) = play line.mark more.event
act_asked line Chapter = turn line.mark
act_asked line Look = show line.mark
act_asked line (Open client) = list line.mark client
act_asked line Other = say line.mark (bad_line line.number)
act_asked line Long = say line.mark (bad_line line.number)
act_asked line (NoRoom client) = refuse line.mark client
-- of these none is done
act_asked line Nothing = say None []
act_asked line Quit = say None []

-- how many times that act is done
abbrev pub times_asked : Asked → ℕ
times_asked Nothing = 0
times_asked (Events more) = more.times
times_asked Chapter = 1
times_asked Look = 1
times_asked (Open client) = 1
times_asked Quit = 0
times_asked Other = 1
times_asked Long = 1
times_asked (NoRoom client) = 1

-- the end of a line's answer, where that is to be said
abbrev pub acts_end : Settings → Line → List Act
acts_end settings line = if settings.marks then say line.mark (end_line line.number) ∷ [] else []

-- what is done at a line once the fleet is open
abbrev pub acts_on : Settings → Line → List Act
acts_on settings line = acts_asked line line.asked ++ acts_end settings line

-- whether a line ends the conversation
abbrev pub is_quit : Asked → Bool
is_quit Quit = true
is_quit _ = false

-- what is done at lines, the first of which has this number, up to one that says quit, where posts to these cells are refused
abbrev pub acts_from : Settings → List Bool → ℕ → List (List ℕ) → List Act
acts_from settings cells number [] = []
acts_from settings cells number (bytes ∷ lines) =
    if is_quit (line_let_in cells number bytes).asked then []
    else acts_on settings (line_let_in cells number bytes) ++ acts_from settings cells (number + 1) lines
