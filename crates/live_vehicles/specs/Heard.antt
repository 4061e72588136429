-- What a line of the vehicles says.
use Rattle.std.specs.Prelude.{ℕ, List, [], ◌∷◌, length, nat_lt, Option, Some, None, if◌then◌else◌, codes}
use Rattle.std.specs.Str.{bytes_eq}
use Rattle.std.specs.Str.Lines.{strip_carriage_return}
use Rattle.fleet_map.specs.Text.{words_of}
use Rattle.fleet_script.specs.Numbers.{most32, one_in}
use Rattle.live_vehicles.specs.declared.heard.Heard.{Heard}
use Rattle.live_vehicles.specs.declared.heard.Heard.TheVariants.{Nothing, Reached, At, Look, Other}

abbrev pub report_in : Option ℕ → Heard
report_in None = Other
report_in (Some robot) = Reached robot

-- a robot stands on a cell
abbrev pub standing_in : Option ℕ → Option ℕ → Heard
standing_in (Some robot) (Some cell) = At robot cell
standing_in _ _ = Other

abbrev pub at_in : List (List ℕ) → Heard
at_in [] = Other
at_in (robot ∷ words) = standing_in (one_in most32 (words_of robot)) (one_in most32 words)

abbrev pub look_in : List (List ℕ) → Heard
look_in [] = Look
look_in (word ∷ words) = Other

abbrev pub words_heard : List (List ℕ) → Heard
words_heard [] = Nothing
words_heard (word ∷ words) =
    if bytes_eq word (codes "reached") then report_in (one_in most32 words) else
    if bytes_eq word (codes "at") then at_in words else
    if bytes_eq word (codes "look") then look_in words else Other

-- what the line says, of which these are the first bytes; a line may have 8,192
abbrev pub said_by : List ℕ → Heard
said_by bytes = if nat_lt 8192 (length bytes) then Other else words_heard (words_of (strip_carriage_return bytes))
