-- Logs of executions: what `fleet execute` wrote and read, with or without times.
use Rattle.std.specs.Prelude.{◌≡◌, ℕ, Bool, true, false, ◌&&◌, ◌||◌, nat_lt, List, [], ◌∷◌, ◌++◌, length, Ok, Err, ◌==◌, codes, decimal}
use Rattle.std.specs.List.{list_all}
use Rattle.fleet_map.specs.Grammar.{Map, map_of}
use Rattle.fleet_view.specs.declared.pair.RunFault.{RunFault}
use Rattle.fleet_view.specs.declared.pair.RunFault.TheVariants as fault
use Rattle.fleet_view.specs.Runs.{runs_page}

abbrev pub is_digit : ℕ → Bool
is_digit b = nat_lt 47 b && nat_lt b 58

abbrev pub is_small : ℕ → Bool
is_small b = nat_lt 96 b && nat_lt b 123

-- a small letter, a digit, a space, a dot, a hyphen or a line feed
abbrev pub is_log_byte : ℕ → Bool
is_log_byte b = is_small b || is_digit b || (b == 32) || (b == 46) || (b == 45) || (b == 10)

-- it begins with `m`, as `move`, or with a digit, as a time
abbrev pub is_begun : List ℕ → Bool
is_begun [] = false
is_begun (b ∷ bs) = (b == 109) || is_digit b

-- a text that is taken for a log
abbrev pub is_log : List ℕ → Bool
is_log text = is_begun text && list_all is_log_byte text

-- its length, then the text
abbrev pub log_run : List ℕ → List ℕ
log_run text = (codes "log " ++ (decimal (length text) ++ codes "\n")) ++ text

-- the page of a log on the map of a text
pub record IsLogPage (bytes text page : List ℕ) : Type 0 where
  pub floor : Map
  pub read : map_of bytes ≡ Ok floor
  pub is : page ≡ runs_page floor (log_run text)

-- why there is none, unless memory ran out
abbrev pub IsNoLogPage : List ℕ → RunFault → Type 0
IsNoLogPage bytes (fault.Map f) = map_of bytes ≡ Err f
IsNoLogPage bytes (fault.Plan said) = ⊥
IsNoLogPage bytes (fault.Trace f) = ⊥
IsNoLogPage bytes (fault.OffMap number) = ⊥
IsNoLogPage bytes fault.NoMemory = Unit {0}
