-- What the head of a plan's text says of the plan: how many robots it has, how long it is, and what it costs.
use Rattle.std.specs.Prelude.{ℕ, ◌+◌, Bool, false, List, [], ◌∷◌, ◌++◌, length, Option, Some, None, min, nat_lt, not, ◌==◌, ◌&&◌, if◌then◌else◌, codes, decimal}
use Rattle.std.specs.Option.{option_map, option_or}
use Rattle.std.specs.Str.{bytes_eq}
use Rattle.fleet_map.specs.Text.{number_of}
use Rattle.fleet_plans.specs.Head.{split_once}
use Rattle.fleet_plans.specs.declared.claims.HeadKey.{HeadKey}
use Rattle.fleet_plans.specs.declared.claims.HeadKey.TheVariants.{Agents, Makespan, SumOfCosts}
use Rattle.fleet_plans.specs.declared.claims.HeadFault.{HeadFault}
use Rattle.fleet_plans.specs.declared.claims.HeadFault.TheVariants.{Unlike, Cut}
use Rattle.fleet_plans.specs.declared.report.PlanReport.{PlanReport}

-- the key of a head under which the figure stands
abbrev pub key_text : HeadKey → List ℕ
key_text Agents = codes "agents"
key_text Makespan = codes "makespan"
key_text SumOfCosts = codes "soc"

-- a fault as it prints
abbrev pub head_text : HeadFault → List ℕ
head_text (Unlike key) = key_text key
head_text (Cut line) = decimal line ++ codes " cut"

-- the number of a line KEY=NUMBER; those from 2^59 on are alike, since no text has a plan of such a figure
abbrev pub number_at : HeadKey → Option (List ℕ × List ℕ) → Option ℕ
number_at key None = None
number_at key (Some p) = if bytes_eq p.0 (key_text key) then option_map (λ n. min n 576460752303423488) (number_of p.1) else None

-- the number of the first line KEY=NUMBER before the line `solution=`
unfoldable pub said : HeadKey → List (List ℕ) → Option ℕ
said key [] = None
said key (line ∷ lines) = if bytes_eq line (codes "solution=") then None else option_or (number_at key (split_once 61 line)) (said key lines)

-- whether another number is said
abbrev pub differs : Option ℕ → ℕ → Bool
differs None n = false
differs (Some number) n = not (number == n)

-- whether a greater number is said
abbrev pub exceeds : Option ℕ → ℕ → Bool
exceeds None n = false
exceeds (Some number) n = nat_lt n number

-- whether another number is said than both the steps and the greatest cost
abbrev pub is_unlike_makespan : Option ℕ → PlanReport → Bool
is_unlike_makespan number r = differs number r.steps && differs number r.makespan

-- the first that a head of these lines says and that is not so of a plan with these figures. A plan that ends before its makespan is
-- cut, after its last line; the makespan is the number of steps, or the greatest cost
abbrev pub unmet : List (List ℕ) → PlanReport → Option HeadFault
unmet lines r =
    if differs (said Agents lines) r.robots then Some (Unlike Agents)
    else if exceeds (said Makespan lines) r.steps then Some (Cut (length lines + 1))
    else if is_unlike_makespan (said Makespan lines) r then Some (Unlike Makespan)
    else if differs (said SumOfCosts lines) r.sum_of_costs then Some (Unlike SumOfCosts)
    else None
