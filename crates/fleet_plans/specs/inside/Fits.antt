-- Which placements a head lets stand at a time.
use Rattle.std.specs.Prelude.{ℕ, Bool, List, nat_lt, ◌||◌}
use Rattle.fleet_plans.specs.Head.{Head}
use Rattle.fleet_plans.specs.Places.{begins}

abbrev pub fits : Head → ℕ → List ℕ → Bool
fits head time place = nat_lt 0 time || begins head place
