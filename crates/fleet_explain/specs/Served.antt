-- Lines of a script that a serve does not take.
use Rattle.std.specs.Prelude.{ℕ, Bool, false, nat_lt, List, [], ◌∷◌, Option, Some, None, if◌then◌else◌}
use Rattle.fleet_book.specs.declared.event.Event.{Event}
use Rattle.fleet_book.specs.declared.event.Event.TheVariants.{Post, Take, Tick, Give, Collect, Shut}

-- a client's thread can run it: it is a post or a collect of one of this many clients
abbrev pub is_served : ℕ → Event → Bool
is_served clients (Post client order) = nat_lt client clients
is_served clients (Collect client) = nat_lt client clients
is_served clients (Take client) = false
is_served clients Tick = false
is_served clients (Give client) = false
is_served clients (Shut robot) = false

-- of events and the line of each, the line of the first that a serve does not take
abbrev pub first_unserved : ℕ → List Event → List ℕ → Option ℕ
first_unserved clients [] lines = None
first_unserved clients (event ∷ events) [] = None
first_unserved clients (event ∷ events) (line ∷ lines) = if is_served clients event then first_unserved clients events lines else Some line
