-- What a line says.
use Rattle.std.specs.Prelude.{ℕ, List, [], ◌∷◌, length, nat_lt, Option, Some, None, if◌then◌else◌, codes}
use Rattle.std.specs.Str.{bytes_eq}
use Rattle.std.specs.Str.Lines.{strip_carriage_return}
use Rattle.fleet_map.specs.Text.{words_of}
use Rattle.fleet_script.specs.Numbers.{most32, one_in}
use Rattle.fleet_execute.specs.declared.heard.Heard.{Heard}
use Rattle.fleet_execute.specs.declared.heard.Heard.TheVariants.{Nothing, Reached, Other}

-- what a line `reached` says, by its robot
abbrev pub report_in : Option ℕ → Heard
report_in None = Other
report_in (Some robot) = Reached robot

-- what a line of these words says
abbrev pub words_heard : List (List ℕ) → Heard
words_heard [] = Nothing
words_heard (word ∷ words) = if bytes_eq word (codes "reached") then report_in (one_in most32 words) else Other

-- what the line says, of which these are the first bytes; a line may have 8,192
abbrev pub said_by : List ℕ → Heard
said_by bytes = if nat_lt 8192 (length bytes) then Other else words_heard (words_of (strip_carriage_return bytes))
