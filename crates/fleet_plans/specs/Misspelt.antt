-- Lines of a head whose key says nothing, and is like a key that says something: in other letters, with blanks, with or without an s
-- at its end.
use Rattle.std.specs.Prelude.{ℕ, ◌+◌, ◌-◌, Bool, List, [], ◌∷◌, ◌++◌, length, take, slice_index, slice_index_or, Option, Some, None, not, ◌==◌, ◌||◌, ◌&&◌, if◌then◌else◌, codes, decimal}
use Rattle.std.specs.Option.{option_or}
use Rattle.std.specs.Str.{bytes_eq, str_eq_ignore_ascii_case}
use Rattle.fleet_map.specs.Text.{words_of}
use Rattle.fleet_plans.specs.Head.{split_once}
use Rattle.fleet_plans.specs.declared.misspelt.KnownKey.{KnownKey}
use Rattle.fleet_plans.specs.declared.misspelt.KnownKey.TheVariants.{Starts, Goals, Form, Agents, Makespan, SumOfCosts, Solution}
use Rattle.fleet_plans.specs.declared.misspelt.Misspelt.{Misspelt}

-- the key itself
abbrev pub known_text : KnownKey → List ℕ
known_text Starts = codes "starts"
known_text Goals = codes "goals"
known_text Form = codes "form"
known_text Agents = codes "agents"
known_text Makespan = codes "makespan"
known_text SumOfCosts = codes "soc"
known_text Solution = codes "solution"

-- the word without an s at its end
abbrev pub without_s : List ℕ → List ℕ
without_s word = if (slice_index word (length word - 1) == 115) || (slice_index word (length word - 1) == 83) then take (length word - 1) word else word

-- whether a key is another than this one, and its first word is like it
abbrev pub is_like : KnownKey → List ℕ → Bool
is_like known key = not (bytes_eq key (known_text known)) && str_eq_ignore_ascii_case (without_s (slice_index_or (words_of key) 0 [])) (without_s (known_text known))

-- the first key that this one is like
abbrev pub like_of : List ℕ → Option KnownKey
like_of key =
    if is_like Starts key then Some Starts
    else if is_like Goals key then Some Goals
    else if is_like Form key then Some Form
    else if is_like Agents key then Some Agents
    else if is_like Makespan key then Some Makespan
    else if is_like SumOfCosts key then Some SumOfCosts
    else if is_like Solution key then Some Solution
    else None

-- the line of this number, where its key is like one
abbrev pub like_at : ℕ → Option KnownKey → Option Misspelt
like_at number None = None
like_at number (Some key) = Some (record { line = number; key = key })

-- the line of this number, where it has a key that is like one
abbrev pub like_in : ℕ → Option (List ℕ × List ℕ) → Option Misspelt
like_in number None = None
like_in number (Some p) = like_at number (like_of p.0)

-- the first such line before the line `solution=`, of lines numbered from this one on
unfoldable pub misspelt_of : ℕ → List (List ℕ) → Option Misspelt
misspelt_of number [] = None
misspelt_of number (line ∷ lines) = if bytes_eq line (codes "solution=") then None else option_or (like_in number (split_once 61 line)) (misspelt_of (number + 1) lines)

-- what is said of such a line
abbrev pub misspelt_text : Misspelt → List ℕ
misspelt_text m = codes "line " ++ (decimal m.line ++ (codes " is ignored, its key is like " ++ known_text m.key))
