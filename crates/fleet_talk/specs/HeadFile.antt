-- The head that a file gives, before a conversation begins.
use Rattle.std.specs.Prelude.{◌≡◌, ℕ, ◌+◌, List, [], ◌∷◌, ◌++◌, length, Option, Some, None, nat_lt, if◌then◌else◌}
use Rattle.fleet_map.specs.Text.{words_of}
use Rattle.fleet_script.specs.Script.{Draft, blank_draft}
use Rattle.fleet_script.specs.declared.script.ScriptFault.{ScriptFault}
use Rattle.fleet_script.specs.declared.script.ScriptFault.TheVariants.{Line, NoMemory}
use Rattle.fleet_talk.specs.declared.ask.Asked.{Asked}
use Rattle.fleet_talk.specs.declared.ask.Asked.TheVariants.{Nothing, Other}
use Rattle.fleet_talk.specs.Ask.{asked_in}
use Rattle.fleet_talk.specs.Heard.{with_words}

-- what header lines said, with one more line that asks this; none where it is no line of a head
abbrev pub with_asked : Draft → List ℕ → Asked → Option Draft
with_asked d line Nothing = Some d
with_asked d line Other = with_words d (words_of line)
with_asked d line _ = None

-- what header lines said, with one more line; none where it is too long, neither a header line, blank nor a comment, or says what one before said
abbrev pub with_file_line : Draft → List ℕ → Option Draft
with_file_line d line = if nat_lt 8192 (length line) then None else with_asked d line (asked_in line)

-- what these lines say
pub data SaysHead : List (List ℕ) → Draft → Type 0 where
  none : SaysHead [] blank_draft
  next : {lines : List (List ℕ)} {d : Draft} (line : List ℕ) {all : List (List ℕ)} {e : Draft} → SaysHead lines d → with_file_line d line ≡ Some e → all ≡ lines ++ line ∷ [] → SaysHead all e

-- the first line, counted from 1, that is no line of a head
pub record IsFirstBad (lines : List (List ℕ)) (number : ℕ) : Type 0 where
  pub before : List (List ℕ)
  pub line : List ℕ
  pub rest : List (List ℕ)
  pub at : lines ≡ before ++ line ∷ rest
  pub counted : number ≡ length before + 1
  pub said : Draft
  pub good : SaysHead before said
  pub bad : with_file_line said line ≡ None

-- why these lines are no head; out of memory says nothing of them
abbrev pub IsHeadFault : List (List ℕ) → ScriptFault → Type 0
IsHeadFault lines (Line number) = IsFirstBad lines number
IsHeadFault lines NoMemory = Unit {0}
