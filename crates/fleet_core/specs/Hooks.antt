-- The laws of a fleet's closures, and how the closures that a world has belong to it.
use Rattle.std.specs.Prelude.{ℕ, ◌≡◌, ◌<◌, Bool, true, false, List, [], ◌∷◌, Option, Some, None, All, map, length, is_some, slice_index, slice_index_or, slice_set}
use Rattle.std.specs.Option.{option_map}
use Rattle.fleet_hooks.specs.declared.law.StampLaw.{StampLaw}
use Rattle.fleet_hooks.specs.declared.law.TieLaw.{TieLaw}
use Rattle.fleet_hooks.specs.declared.hooks.Hooks.{Hooks}
use Rattle.fleet_hooks.specs.declared.farewell.Farewell.{Farewell}
use Rattle.fleet_hooks.specs.Law.{IsStampLaw, IsStamp}
use Rattle.fleet_history.specs.History.{History, robots}
use Rattle.fleet_history.specs.Legal.{no_law, arrival_law, farewell_law, is_done}

-- the laws of closures, by robot
pub record HookLaws : Type 0 where
  pub ties : List TieLaw
  pub arrivals : List StampLaw
  pub farewells : List StampLaw

-- the laws of a fleet's closures
abbrev pub laws_of : {A f g h : Type 0} {F : f → Type 0} {G : g → Type 0} {H : h → Type 0} {k l m : _} → Hooks A f g h F G H k l m → HookLaws
laws_of hooks = record {
  ties = map (λ x. x.law) hooks.ties.items;
  arrivals = map (λ x. x.law) hooks.arrivals.items;
  farewells = map (λ x. x.law) hooks.farewells.items;
}

-- the robot's law among these
abbrev pub law_at : List StampLaw → ℕ → StampLaw
law_at laws r = slice_index_or laws r no_law

-- the laws of the farewells that were not called yet
abbrev pub spare_laws : {f : Type 0} {F : f → Type 0} {k : _} → List (Option (Farewell f F k)) → List (Option StampLaw)
spare_laws farewells = map (λ f. option_map (λ x. x.law) f) farewells

-- the law of a robot's farewell, where it was not called yet
abbrev pub spare_at : {f : Type 0} {F : f → Type 0} {k : _} → List (Option (Farewell f F k)) → ℕ → Option StampLaw
spare_at farewells r = slice_index_or (spare_laws farewells) r None

-- each list has one closure a robot
pub record HaveCount (robots : ℕ) (laws : HookLaws) : Type 0 where
  pub ties : length laws.ties ≡ robots
  pub arrivals : length laws.arrivals ≡ robots
  pub farewells : length laws.farewells ≡ robots

-- the stamps of each closure have room between their bounds
pub record AreOrderly (laws : HookLaws) : Type 0 where
  pub arrivals : All IsStampLaw laws.arrivals
  pub farewells : All IsStampLaw laws.farewells

-- these are the laws of the robots' arrivals
pub record AreArrivals {A : Type 0} (h : History A) (laws : List StampLaw) : Type 0 where
  pub count : length laws ≡ robots h
  pub each : (r : ℕ) → r < robots h → law_at laws r ≡ arrival_law h r

-- the farewells that were not called yet keep their robots' laws, and a robot that is not done still has its own
pub record AreFarewells {A : Type 0} (h : History A) (spare : List (Option StampLaw)) : Type 0 where
  pub count : length spare ≡ robots h
  pub each : (r : ℕ) (law : StampLaw) → slice_index_or spare r None ≡ Some law → law ≡ farewell_law h r
  pub unspent : (r : ℕ) → r < robots h → is_done h r ≡ false → is_some (slice_index_or spare r None) ≡ true

-- the stamp lies in the law of the robot's farewell, which was not called yet
abbrev pub IsLastStamp : List (Option StampLaw) → ℕ → ℕ → Type 0
IsLastStamp spare r stamp = (law : StampLaw) × (slice_index_or spare r None ≡ Some law) × IsStamp law stamp

-- a farewell that is left has the robot's law, and where none is left the robot is done
abbrev pub IsLeft : Option StampLaw → StampLaw → Bool → Type 0
IsLeft (Some law) wanted done = law ≡ wanted
IsLeft None wanted done = done ≡ true

-- what is left of farewells when those of these robots are spent
abbrev pub without_all : List ℕ → List (Option StampLaw) → List (Option StampLaw)
without_all [] spare = spare
without_all (r ∷ rs) spare = without_all rs (slice_set spare r None)

-- each of the numbers is less than the next
abbrev pub DoRise : List ℕ → Type 0
DoRise rs = (i j : ℕ) → i < j → j < length rs → slice_index rs i < slice_index rs j
