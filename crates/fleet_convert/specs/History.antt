-- Where a history's robots stand: at the opening, and after each tick.
use Rattle.std.specs.Prelude.{ℕ, List, [], ◌∷◌, map}
use Rattle.fleet_history.specs.declared.history.Entry.{Entry}
use Rattle.fleet_history.specs.declared.history.Entry.TheVariants.{Take, Tick, Shut}
use Rattle.fleet_history.specs.History.{History}

-- the cells after each tick of the entries
abbrev pub ticks_in : {A : Type 0} → List (Entry A) → List (List ℕ)
ticks_in [] = []
ticks_in (Tick to arrived farewells ∷ es) = to ∷ ticks_in es
ticks_in (Take client order verdict ∷ es) = ticks_in es
ticks_in (Shut robot farewell ∷ es) = ticks_in es

-- item t has the cells after t ticks
abbrev pub places_in : {A : Type 0} → History A → List (List ℕ)
places_in h = map (λ x. x.cell) h.opening.robots ∷ ticks_in h.entries
