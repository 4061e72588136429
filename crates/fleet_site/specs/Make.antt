-- What changes make of a chapter's end.
use Rattle.std.specs.Prelude.{⊤, ◌≡◌, ◌≢◌, ◌≤◌, ◌⊎◌, ◌+◌, ℕ, zero, suc, List, [], Bool, true, false, Option, Some, None, if◌then◌else◌, length, slice_get, slice_set}
use Rattle.std.specs.Option.{option_map}
use Rattle.std.specs.declared.alloc.Global.{Global}
use Rattle.fleet_grid.specs.Floor.{Floor, floor_of}
use Rattle.fleet_history.specs.declared.history.Opening.{Opening}
use Rattle.fleet_history.specs.declared.history.RobotState.{RobotState}
use Rattle.fleet_history.specs.History.{History}
use Rattle.fleet_history.specs.Next.{next_opening}
use Rattle.fleet_refit.specs.declared.change.Change.{Change}
use Rattle.fleet_refit.specs.declared.refit.Refit.{Refit}
use Rattle.fleet_refit.specs.declared.refit.RefitFault.{RefitFault}
use Rattle.fleet_refit.specs.declared.seat.Standing.{Standing}
use Rattle.fleet_refit.specs.declared.seat.Standing.TheVariants.{Moving, Held, Gone}
use Rattle.fleet_refit.specs.After.{after_site}
use Rattle.fleet_refit.specs.Everyone.{site_of, standings_of}
use Rattle.fleet_refit.specs.InOrder.{everyone}
use Rattle.fleet_refit.specs.Refit.{AreRefused, IsRefit}
use Rattle.fleet_refit.specs.Site.{SiteView, first_site}
use Rattle.fleet_trace.specs.Chapters.{IsSound}
use Rattle.fleet_site.specs.declared.making.Made.{Made}
use Rattle.fleet_site.specs.declared.making.MakeFault.{MakeFault}
use Rattle.fleet_site.specs.declared.making.MakeFault.TheVariants as fault
use Rattle.fleet_site.specs.Checksum.{checksum}
use Rattle.fleet_site.specs.Record.{Record, record_of}

-- ---- the map without regard to robots: on the map of a chapter a robot that is held is a wall

-- whether there is a robot, and it is held
abbrev pub is_held_by : Option Standing → Bool
is_held_by None = false
is_held_by (Some Moving) = false
is_held_by (Some Held) = true
is_held_by (Some Gone) = false

-- whether there is a robot of that number, and it is held
abbrev pub is_held_at : List Standing → ℕ → Bool
is_held_at standings robot = is_held_by (slice_get standings robot)

-- the letters with a floor cell more
abbrev pub floor_at : List ℕ → Option ℕ → List ℕ
floor_at letters None = letters
floor_at letters (Some cell) = slice_set letters cell 46

-- the letters, where the robot's cell is floor if it is held
abbrev pub opened_one : {A : Type 0} → List ℕ → List Standing → List (RobotState A) → ℕ → List ℕ
opened_one letters standings robots robot = if is_held_at standings robot then floor_at letters (option_map (λ x. x.cell) (slice_get robots robot)) else letters

-- the letters, where the cells of the robots that are held are floor, of the robots below this number
abbrev pub opened : {A : Type 0} → List ℕ → List Standing → List (RobotState A) → ℕ → List ℕ
opened letters standings robots zero = letters
opened letters standings robots (suc robot) = opened_one (opened letters standings robots robot) standings robots robot

-- ---- the site at the end of a chapter

-- the lists of a record are of the same robots, 512 at most
pub record IsOfRobots {A : Type 0} (r : Record A) : Type 0 where
  pub same : length r.standings ≡ length r.everyone.robots
  pub few : length r.everyone.robots ≤ 512

-- the site of a record, as its chapter begins
abbrev pub opened_site : {A : Type 0} → Floor → Record A → SiteView A
opened_site m r = site_of (floor_of m.height m.width (opened m.letters r.standings r.everyone.robots (length r.everyone.robots))) r.everyone r.standings

-- the site at the end of a chapter on that map, after the changes of the record, if there is one
abbrev pub IsSiteAt : {A : Type 0} → Floor → Option (Record A) → Opening A → SiteView A → Type 0
IsSiteAt m None end s = s ≡ first_site m end
IsSiteAt m (Some r) end s = IsOfRobots r × (s ≡ after_site (opened_site m r) end)

-- ---- what the changes make of it

-- the record of changes that were made, before the chapter of this number
abbrev pub record_after : ℕ → List Change → Refit Global → Record Global
record_after chapter changes refit = record { chapter = chapter; map = checksum refit.grid; changes = changes; dropped = refit.dropped.items; standings = standings_of refit.site.seats; everyone = everyone refit.site }

-- what changes made of the end of a chapter of this number and history, after the record before it if there is one
pub record IsMade (m : Floor) (before : Option (Record Global)) (number : ℕ) (h : History Global) (changes : List Change) (made : Made) : Type 0 where
  -- the chapter is legal
  pub sound : IsSound m h
  -- the site at its end
  pub site : SiteView Global
  pub ended : IsSiteAt m before (next_opening h) site
  -- the changes were made there
  pub refit : IsRefit site changes made.refit
  -- and this is their record
  pub recorded : record_of made.record ≡ record_after (number + 1) changes made.refit

-- ---- why not, out of memory apart

-- why there is no end of the chapter: its history is not sound
abbrev pub IsEndFault : Floor → History Global → MakeFault → Type 0
IsEndFault m h fault.Chapter = IsSound m h → ⊥
IsEndFault m h fault.Robots = ⊥
IsEndFault m h (fault.Refit why) = ⊥
IsEndFault m h fault.NoMemory = ⊤

-- why there is no site of the record: its lists are not of the same robots
abbrev pub IsSiteFault : Record Global → MakeFault → Type 0
IsSiteFault r fault.Chapter = ⊥
IsSiteFault r fault.Robots = IsOfRobots r → ⊥
IsSiteFault r (fault.Refit why) = ⊥
IsSiteFault r fault.NoMemory = ⊤

-- no site has come to that end after the changes of the record
abbrev pub AreUnlike : Option (Record Global) → Opening Global → MakeFault → Type 0
AreUnlike before end fault.Chapter = ⊥
AreUnlike before end fault.Robots = ⊤
AreUnlike before end (fault.Refit why) = ⊥
AreUnlike before end fault.NoMemory = ⊤
