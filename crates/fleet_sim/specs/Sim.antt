-- Which runs begin, and how they go on.
use Rattle.std.specs.Prelude.{◌≡◌, ◌≢◌, ◌⊎◌, ℕ, ◌<◌, ◌≤◌, List, [], ◌∷◌, None, map}
use Rattle.std.specs.declared.alloc.Global.{Global}
use Rattle.fleet_grid.specs.Floor.{Floor}
use Rattle.fleet_grid.specs.Counts.{floor_count}
use Rattle.fleet_history.specs.Legal.{IsLegal}
use Rattle.fleet_trace.specs.Trace.{trace_of}
use Rattle.fleet_core.specs.Core.{World}
use Rattle.mover.specs.declared.manner.Manner.TheVariants as manner
use Rattle.fleet_sim.specs.declared.setting.Setting.{Setting}
use Rattle.fleet_sim.specs.declared.sim.Ended.{Ended}
use Rattle.fleet_sim.specs.declared.fault.SimFault.{SimFault}
use Rattle.fleet_sim.specs.declared.fault.SimFault.TheVariants as fault

-- there are 1 to 512 robots, and a floor cell for each
pub record IsSet (m : Floor) (robots : ℕ) : Type 0 where
  pub some : 1 ≤ robots
  pub few : robots ≤ 512
  pub room : robots ≤ floor_count m

-- why a run of this setting does not begin on a map; memory may run out in any case
abbrev pub IsUnset : Floor → Setting → SimFault → Type 0
IsUnset m s fault.Robots = (s.robots ≡ 0) ⊎ (512 < s.robots)
IsUnset m s fault.Floor = (1 ≤ s.robots) × (s.robots ≤ 512) × (floor_count m < s.robots)
IsUnset m s fault.Starts = s.starts ≢ None
IsUnset m s fault.Turns = s.manner ≡ manner.Turns
IsUnset m s fault.Full = ⊥
IsUnset m s fault.NoMemory = Unit {0}

-- what a run leaves: its map, and its history, which is legal on it
pub record IsEnd (w : World Global) (e : Ended) : Type 0 where
  pub floor : e.grid ≡ w.floor
  pub chapters : map trace_of e.chapters.items ≡ (record { number = w.number; history = w.history }) ∷ []
  pub legal : IsLegal w.floor w.history
