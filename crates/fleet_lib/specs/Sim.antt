-- The word `sim`.
use Rattle.std.specs.Prelude.{◌≡◌, ℕ, ◌≤◌, List, [], ◌++◌, map, Ok, codes, decimal}
use Rattle.std.specs.declared.alloc.Global.{Global}
use Rattle.fleet_map.specs.Grammar.{Map, map_of}
use Rattle.fleet_grid.specs.Floor.{Floor, floor_of_map}
use Rattle.fleet_trace.specs.Trace.{trace_of}
use Rattle.fleet_core.specs.Core.{World}
use Rattle.fleet_stats.specs.Later.{AreLater}
use Rattle.fleet_sim.specs.Sim.{IsEnd}
use Rattle.fleet_lib.specs.declared.sim.SimPlan.{SimPlan}
use Rattle.fleet_text.specs.declared.said.Complaint.TheVariants as complaint
use Rattle.fleet_text.specs.Complaint.{complaint_text}
use Rattle.fleet_lib.specs.declared.sim.SimWordFault.{SimWordFault}
use Rattle.fleet_lib.specs.declared.sim.SimWordFault.TheVariants as word
use Rattle.fleet_lib.specs.declared.simulating.Played.{Played}
use Rattle.fleet_lib.specs.declared.simulating.SimTrouble.{SimTrouble}
use Rattle.fleet_lib.specs.declared.simulating.SimTrouble.TheVariants as trouble
use Rattle.fleet_lib.specs.Said.{Outcome}

-- the ranges of an experiment
pub record IsSimPlan (plan : SimPlan) : Type 0 where
  pub some_ticks : 1 ≤ plan.ticks
  pub few_ticks : plan.ticks ≤ 1000000
  pub short_warm_up : plan.warm_up ≤ 1000000
  pub some_seeds : 1 ≤ plan.seeds
  pub few_seeds : plan.seeds ≤ 1000

-- the status of words that are wrong
abbrev pub sim_word_status : SimWordFault → ℕ
sim_word_status word.Robots = 2
sim_word_status word.Ticks = 2
sim_word_status word.WarmUp = 2
sim_word_status word.Seeds = 2
sim_word_status word.Sources = 2
sim_word_status word.Planner = 2
sim_word_status word.Ties = 2
sim_word_status word.Form = 2
sim_word_status word.NoMemory = 7

-- how a trouble is named
abbrev pub trouble_text : SimTrouble → List ℕ
trouble_text (trouble.Map f) = complaint_text (complaint.Map f)
trouble_text (trouble.Cells line) = codes "cells " ++ decimal line
trouble_text (trouble.Scenario line) = codes "scenario " ++ decimal line
trouble_text (trouble.Tasks line) = codes "tasks " ++ decimal line
trouble_text trouble.Starts = codes "starts"
trouble_text (trouble.Floor robots) = codes "robots " ++ decimal robots ++ codes " too many for the floor"
trouble_text trouble.Turns = codes "turns"
trouble_text trouble.Full = codes "history full"
trouble_text trouble.Illegal = codes "history illegal"
trouble_text trouble.NoMemory = codes "memory"

-- the status of a trouble: 4 the map or its floor, 5 the list of cells, 6 the run, 7 memory
abbrev pub trouble_status : SimTrouble → ℕ
trouble_status (trouble.Map f) = 4
trouble_status (trouble.Cells line) = 5
trouble_status (trouble.Scenario line) = 5
trouble_status (trouble.Tasks line) = 5
trouble_status trouble.Starts = 5
trouble_status (trouble.Floor robots) = 4
trouble_status trouble.Turns = 6
trouble_status trouble.Full = 6
trouble_status trouble.Illegal = 6
trouble_status trouble.NoMemory = 7

-- what is said of a trouble, with its status
abbrev pub troubled : SimTrouble → Outcome
troubled t = record { output = []; status = trouble_status t; complaint = codes "fleet: " ++ (trouble_text t ++ codes "\n") }

-- the floor of a map's text
pub record IsFloorOf (map : List ℕ) (m : Floor) : Type 0 where
  pub floor : Map
  pub read : map_of map ≡ Ok floor
  pub is : m ≡ floor_of_map floor

-- what a run leaves, and the figures that its history says, after a clock
pub record IsPlayed (w : World Global) (clock : ℕ) (p : Played) : Type 0 where
  pub ended : IsEnd w p.ended
  pub figures : AreLater p.ended.grid (map trace_of p.ended.chapters.items) clock p.figures
