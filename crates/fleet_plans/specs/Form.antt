-- The forms of plans' texts, and which of them a text has: its first bytes say so.
use Rattle.std.specs.Prelude.{ℕ, Bool, true, false, List, [], ◌∷◌, length, take, slice_index, nat_le, not, is_some, ◌==◌, ◌&&◌, ◌||◌, if◌then◌else◌, codes}
use Rattle.std.specs.Str.{bytes_eq}
use Rattle.std.specs.Char.{is_ascii_digit}
use Rattle.fleet_plans.specs.declared.form.TextForm.{TextForm}
use Rattle.fleet_plans.specs.declared.form.TextForm.TheVariants.{Headed, Bare, Agents, Json, PlannerJson, Table, Schedule}
use Rattle.fleet_map.specs.Text.{lines_of}
use Rattle.fleet_plans.specs.Head.{split_once}
use Rattle.fleet_plans.specs.Runners.{is_json}

-- whether a text begins with a digit: with a line TIME:CELLS, and no head before it
abbrev pub is_bare : List ℕ → Bool
is_bare text = not (length text == 0) && is_ascii_digit (slice_index text 0)

-- whether a text, or a line, is one of an agent
abbrev pub is_agent : List ℕ → Bool
is_agent text = nat_le 6 (length text) && bytes_eq (take 6 text) (codes "Agent ")

-- whether a line is the first one of a table
abbrev pub is_header : List ℕ → Bool
is_header line = bytes_eq line (codes "agent,time,row,column")

-- whether the first of the lines is that of a table
abbrev pub is_table : List (List ℕ) → Bool
is_table [] = false
is_table (line ∷ lines) = is_header line

-- whether a text begins with this word
abbrev pub begins_with : List ℕ → List ℕ → Bool
begins_with word text = nat_le (length word) (length text) && bytes_eq (take (length word) text) word

-- whether a text begins as YAML with a schedule does
abbrev pub is_schedule : List ℕ → Bool
is_schedule text = begins_with (codes "statistics:") text || begins_with (codes "schedule:") text

-- the form of a text, by its first bytes
abbrev pub form_of : List ℕ → TextForm
form_of text = if is_json text then Json else if is_bare text then Bare else if is_agent text then Agents else if is_table (lines_of text) then Table else if is_schedule text then Schedule else Headed

-- ---- a text that may be a plan, a script or a trace

-- whether this word stands somewhere in a text
unfoldable pub has_word : List ℕ → List ℕ → Bool
has_word word [] = false
has_word word (b ∷ text) = begins_with word (b ∷ text) || has_word word text

-- whether a line is KEY=VALUE, and no comment
abbrev pub is_pair : List ℕ → Bool
is_pair line = is_some (split_once 61 line) && not (slice_index line 0 == 35)

-- whether the first of the lines is KEY=VALUE
abbrev pub has_head : List (List ℕ) → Bool
has_head [] = false
has_head (line ∷ lines) = is_pair line

-- whether a text is taken for a plan: a text in JSON if it names paths, any other by its first line
abbrev pub is_plan_by : TextForm → List ℕ → Bool
is_plan_by Json text = has_word (codes "\"actualPaths\"") text
is_plan_by PlannerJson text = false
is_plan_by Bare text = true
is_plan_by Agents text = true
is_plan_by Table text = true
is_plan_by Schedule text = true
is_plan_by Headed text = has_head (lines_of text)

-- whether a text is taken for a plan
abbrev pub is_plan : List ℕ → Bool
is_plan text = is_plan_by (form_of text) text
