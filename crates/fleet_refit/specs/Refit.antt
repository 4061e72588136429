-- A site after changes, and what its fleet goes on with.
use Rattle.std.specs.Prelude.{◌≡◌, ◌<◌, ℕ, List, [], ◌++◌, Some, length, slice_get, take}
use Rattle.fleet_grid.specs.Floor.{Floor}
use Rattle.fleet_refit.specs.declared.change.Change.{Change}
use Rattle.fleet_refit.specs.declared.change.ChangeFault.{ChangeFault}
use Rattle.fleet_refit.specs.declared.change.Dropped.{Dropped}
use Rattle.fleet_refit.specs.declared.seat.Seat.{Seat}
use Rattle.fleet_refit.specs.declared.refit.RefitFault.{RefitFault}
use Rattle.fleet_refit.specs.declared.refit.RefitFault.TheVariants as fault
use Rattle.fleet_refit.specs.declared.refit.Refit.{Refit}
use Rattle.fleet_refit.specs.Changed.{AreMade}
use Rattle.fleet_refit.specs.Fault.{fault_of}
use Rattle.fleet_refit.specs.Map.{plan_map}
use Rattle.fleet_refit.specs.Opening.{moving_numbers, opening_of}
use Rattle.fleet_refit.specs.Settled.{AreSettled}
use Rattle.fleet_refit.specs.Site.{SiteView, with_seats}

-- the change at this place cannot be made once those before it are
pub record IsRefusedAt {A : Type 0} (s : SiteView A) (changes : List Change) (place : ℕ) (why : ChangeFault) : Type 0 where
  pub change : Change
  pub there : slice_get changes place ≡ Some change
  pub reached : SiteView A
  pub gone : List Dropped
  pub before : AreMade s (take place changes) reached gone
  pub fault : fault_of reached change ≡ Some why

-- the changes were made, and the errands that cannot arrive were dropped
pub record IsReached {A : Type 0} (s : SiteView A) (changes : List Change) (t : SiteView A) (dropped : List Dropped) : Type 0 where
  pub changed : SiteView A
  pub seats : List (Seat A)
  pub first : List Dropped
  pub last : List Dropped
  pub made : AreMade s changes changed first
  pub settled : AreSettled (plan_map changed) changed.seats seats last
  pub is : t ≡ with_seats changed seats
  pub listed : dropped ≡ first ++ last

-- why a fleet has no opening, out of memory apart: no robot moves
abbrev pub IsUnopened : {A : Type 0} → List (Seat A) → RefitFault → Type 0
IsUnopened seats (fault.Change place why) = ⊥
IsUnopened seats fault.NoRobot = moving_numbers seats ≡ []
IsUnopened seats fault.NoMemory = Unit {0}

-- why changes were not made, out of memory apart
abbrev pub AreRefused : {A : Type 0} → SiteView A → List Change → RefitFault → Type 0
AreRefused s changes (fault.Change place why) = IsRefusedAt s changes place why
AreRefused s changes fault.NoRobot = (t : _) × (dropped : _) × IsReached s changes t dropped × (moving_numbers t.seats ≡ [])
AreRefused s changes fault.NoMemory = Unit {0}

-- a site on its map, with what its fleet goes on with
pub record IsHanded {A : Type 0} (s : SiteView A) (m : Floor) (out : List Dropped) (r : Refit A) : Type 0 where
  pub site : r.site ≡ s
  pub grid : r.grid ≡ m
  pub dropped : r.dropped.items ≡ out
  pub opening : r.opening ≡ opening_of s
  pub numbers : r.numbers.items ≡ moving_numbers s.seats
  -- at least one robot moves
  pub someone : 0 < length r.numbers.items

-- what the changes come to
pub record IsRefit {A : Type 0} (s : SiteView A) (changes : List Change) (r : Refit A) : Type 0 where
  pub reached : IsReached s changes r.site r.dropped.items
  pub grid : r.grid ≡ plan_map r.site
  pub opening : r.opening ≡ opening_of r.site
  pub numbers : r.numbers.items ≡ moving_numbers r.site.seats
  -- at least one robot moves
  pub someone : 0 < length r.numbers.items
