-- How many robots a text can have that is no longer than a plan may be.
use Rattle.std.specs.Prelude.{◌≤◌, length, IfSome}
use Rattle.fleet_plans.specs.declared.limit.TheConstants.{MOST_PLAN_BYTES}
use Rattle.fleet_plans.specs.Head.{Head}

abbrev pub HasFewStarts : Head → Type 0
HasFewStarts head = IfSome head.starts (λ starts. length starts ≤ MOST_PLAN_BYTES)
