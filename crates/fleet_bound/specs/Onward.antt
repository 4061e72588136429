-- How a history goes on.
use Rattle.std.specs.Prelude.{◌≡◌, ℕ, ◌++◌, ◌∷◌, List, Bool, true, false, All, count_by}
use Rattle.fleet_grid.specs.Floor.{Floor}
use Rattle.fleet_history.specs.declared.history.Arrival.{Arrival}
use Rattle.fleet_history.specs.declared.history.Bye.{Bye}
use Rattle.fleet_history.specs.declared.history.Entry.{Entry}
use Rattle.fleet_history.specs.declared.history.Entry.TheVariants.{Take, Tick, Shut}
use Rattle.fleet_history.specs.History.{History, with_entries, is_tick}
use Rattle.fleet_history.specs.Legal.{IsLegal}
use Rattle.fleet_planner.specs.Planned.{IsAdvancingTick}

-- the history with more entries
abbrev pub onward : {A : Type 0} → History A → List (Entry A) → History A
onward h more = with_entries h (h.entries ++ more)

-- a legal continuation by advancing ticks: with these entries the history is legal, and each tick among them is advancing
pub record GoesOn {A : Type 0} (m : Floor) (h : History A) (more : List (Entry A)) : Type 0 where
  pub legal : IsLegal m (onward h more)
  pub advancing : (before behind : List (Entry A)) (to : List ℕ) (arrived : List Arrival) (farewells : List Bye) →
      more ≡ before ++ Tick to arrived farewells ∷ behind → IsAdvancingTick m (onward h before) to

-- how many of the entries are ticks
abbrev pub tick_count : {A : Type 0} → List (Entry A) → ℕ
tick_count more = count_by is_tick more

-- whether the entry takes an order
abbrev pub is_take : {A : Type 0} → Entry A → Bool
is_take (Take client order verdict) = true
is_take (Tick to arrived farewells) = false
is_take (Shut robot farewell) = false

-- none of the entries takes an order
abbrev pub TakesNothing : {A : Type 0} → List (Entry A) → Type 0
TakesNothing more = All (λ e. is_take e ≡ false) more
