-- A list of entries that ends in a tick.
use Rattle.std.specs.Prelude.{ℕ, ◌≡◌, ◌≤◌, List, [], ◌∷◌, ◌++◌, length}
use Rattle.fleet_history.specs.declared.history.Arrival.{Arrival}
use Rattle.fleet_history.specs.declared.history.Bye.{Bye}
use Rattle.fleet_history.specs.declared.history.Entry.{Entry}
use Rattle.fleet_history.specs.declared.history.Entry.TheVariants as entry
use Rattle.fleet_office.specs.Views.{TickView}

-- the last of the entries is a tick of no more robots than an office may have
pub record EndsInTick {A : Type 0} (entries : List (Entry A)) : Type 0 where
  pub before : List (Entry A)
  pub to : List ℕ
  pub arrived : List Arrival
  pub farewells : List Bye
  pub last : entries ≡ before ++ entry.Tick to arrived farewells ∷ []
  pub few : length to ≤ 512
  pub few_arrived : length arrived ≤ 512
  pub few_farewells : length farewells ≤ 512

-- the last of the entries is this tick
pub record IsEndOf {A : Type 0} (entries : List (Entry A)) (t : TickView) : Type 0 where
  pub before : List (Entry A)
  pub last : entries ≡ before ++ entry.Tick t.placement t.arrived t.farewells ∷ []
