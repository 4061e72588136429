-- What is heard and said of a head, line by line.
use Rattle.std.specs.Prelude.{◌≡◌, ℕ, Bool, true, false, List, [], ◌∷◌, ◌++◌, Option, Some, None, is_some, unwrap_or}
use Rattle.fleet_script.specs.declared.header.Head as program
use Rattle.fleet_script.specs.Script.{Draft}
use Rattle.fleet_script.specs.Shown.{headed}
use Rattle.fleet_talk.specs.declared.ends.Settings.{Settings}
use Rattle.fleet_talk.specs.declared.fault.TalkFault.{TalkFault}
use Rattle.fleet_talk.specs.declared.heading.After.{After}
use Rattle.fleet_talk.specs.declared.heading.After.TheVariants as after
use Rattle.fleet_talk.specs.declared.pen.Pen.{Pen}
use Rattle.fleet_talk.specs.Act.{is_quit}
use Rattle.fleet_talk.specs.Ask.{Line}
use Rattle.fleet_talk.specs.Broken.{SaysUntil}
use Rattle.fleet_talk.specs.Heard.{all_of, head_of, header_texts, heard_lines, opens, with_head_line, with_said}
use Rattle.fleet_talk.specs.Said.{IsAdded, IsKept}
use Rattle.fleet_talk.specs.Says.{Says}

-- what the lines of a head said
abbrev pub drafted : {A : Type 0} → program.Head A → Draft
drafted h = headed h [] []

-- the first of these texts were said
pub record IsPartly (old new : Pen) (texts : List (List ℕ)) : Type 0 where
  pub said : List (List ℕ)
  pub left : List (List ℕ)
  pub parts : texts ≡ said ++ left
  pub added : IsAdded old new (all_of said)

-- a line neither ends the conversation nor opens the fleet
pub record IsOfHead (d : Draft) (line : Line) : Type 0 where
  pub goes : is_quit line.asked ≡ false
  pub unopened : opens d line.asked ≡ None

-- whether a line of the head is blank, a comment or a header line
abbrev pub is_good : Draft → Line → Bool
is_good d line = is_some (with_head_line d line line.asked)

-- what is said to a line of a head, after header lines that said this
abbrev pub texts_at : Settings → Draft → Line → List (List ℕ)
texts_at settings d line = header_texts settings line (is_good d line)

-- what a line does before the fleet is opened
abbrev pub Follows : Draft → Line → After → Draft → Pen → Pen → Type 0
Follows d line after.More e old new = IsOfHead d line × (e ≡ unwrap_or (with_head_line d line line.asked) d) × IsAdded old new (all_of (texts_at old.settings d line))
Follows d line after.Opens e old new = (is_quit line.asked ≡ false) × (starts : List ℕ) × (opens d line.asked ≡ Some starts) × (e ≡ d) × IsKept old new
Follows d line after.Over e old new = (is_quit line.asked ≡ true) × IsKept old new

-- the lines of the head of these bytes before the one of this number were answered, this is what they said, and these bytes are left
pub record Hears (settings : Settings) (d : Draft) (bytes : List ℕ) (left : Option (List ℕ)) (e : Draft) (number : ℕ) (before after : Option (List ℕ)) (waited waits : List ℕ) : Type 0 where
  pub rest : List ℕ
  pub at : left ≡ Some rest
  pub said : List (List ℕ)
  pub same : head_of settings d 1 (heard_lines bytes) ≡ with_said said (head_of settings e number (heard_lines rest))
  pub says : Says before after waited waits (all_of said)

-- the head of these bytes was heard: to its end, or up to the line of this number, which opens the fleet
abbrev pub HearsAll : Settings → Draft → List ℕ → Option (List ℕ) → Draft → List ℕ → Option ℕ → Option (List ℕ) → Option (List ℕ) → List ℕ → List ℕ → Type 0
HearsAll settings d bytes left e line None before after waited waits =
    (said : List (List ℕ)) × (head_of settings d 1 (heard_lines bytes) ≡ record { said = said; opening = None }) × Says before after waited waits (all_of said)
HearsAll settings d bytes left e line (Some number) before after waited waits =
    (rest : List ℕ) × (left ≡ Some rest) × (starts : List ℕ) × (e.starts ≡ Some starts) × (said : List (List ℕ))
    × (head_of settings d 1 (heard_lines bytes) ≡ record { said = said; opening = Some (record { starts = starts; head = e; number = number; lines = line ∷ heard_lines rest }) })
    × Says before after waited waits (all_of said)

-- the first of the texts that answer the head of these bytes were said, and then came this fault
pub record HearsUntil (fault : TalkFault) (settings : Settings) (d : Draft) (bytes : List ℕ) (before after : Option (List ℕ)) (waited waits : List ℕ) : Type 0 where
  pub said : List (List ℕ)
  pub left : List (List ℕ)
  pub parts : (head_of settings d 1 (heard_lines bytes)).said ≡ said ++ left
  pub says : SaysUntil fault before after waited waits (all_of said)
