-- What a map and a trace come to as a plan.
use Rattle.std.specs.Prelude.{◌≡◌, ◌≢◌, ℕ, List, Ok, Err}
use Rattle.std.specs.declared.alloc.Global.{Global}
use Rattle.fleet_map.specs.Grammar.{Map, map_of}
use Rattle.fleet_grid.specs.Floor.{Floor, floor_of_map}
use Rattle.fleet_history.specs.History.{History}
use Rattle.fleet_history.specs.Legal.{IsLegal}
use Rattle.fleet_trace.specs.Trace.{Trace}
use Rattle.fleet_trace.specs.Reads.{Tells, IsTraceFault}
use Rattle.fleet_trace.specs.declared.fault.TraceFault.TheVariants as trace_fault
use Rattle.fleet_trace.specs.Judged.{IsFirstIllegal}
use Rattle.fleet_convert.specs.declared.conversion.PlanForm.{PlanForm}
use Rattle.fleet_convert.specs.declared.conversion.PlanForm.TheVariants.{Pibt2, Moves, Runners, Listed}
use Rattle.fleet_convert.specs.declared.conversion.ConvertFault.{ConvertFault}
use Rattle.fleet_convert.specs.declared.conversion.ConvertFault.TheVariants as fault
use Rattle.fleet_convert.specs.History.{places_in}
use Rattle.fleet_convert.specs.Cells.{cells_plan}
use Rattle.fleet_convert.specs.Moves.{moves_plan}
use Rattle.fleet_convert.specs.Runners.{runners_plan}
use Rattle.fleet_convert.specs.Listing.{listed_plan}

-- the text of placements in a form, on a map of this width
abbrev pub plan_text : PlanForm → ℕ → List (List ℕ) → List ℕ
plan_text Pibt2 width places = cells_plan width places
plan_text Moves width places = moves_plan width places
plan_text Runners width places = runners_plan width places
plan_text (Listed listing) width places = listed_plan listing width places

-- the text is that of the placements of a history that is legal on the map
pub record IsPlanOn (form : PlanForm) (m : Map) (h : History Global) (text : List ℕ) : Type 0 where
  pub legal : IsLegal (floor_of_map m) h
  pub is : text ≡ plan_text form m.width (places_in h)

-- why a history gives no plan, unless memory ran out: the first entry that breaks a rule
abbrev pub IsNoPlanOn : Map → History Global → ConvertFault → Type 0
IsNoPlanOn m h (fault.Map f) = ⊥
IsNoPlanOn m h (fault.Trace f) = ⊥
IsNoPlanOn m h (fault.Illegal at rule) = IsFirstIllegal (floor_of_map m) h at rule
IsNoPlanOn m h fault.NoMemory = Unit {0}

-- the text is that of the map and the trace that these texts are
pub record IsConverted (form : PlanForm) (map trace text : List ℕ) : Type 0 where
  pub floor : Map
  pub read : map_of map ≡ Ok floor
  pub told : Trace Global
  pub tells : Tells trace told
  pub plan : IsPlanOn form floor told.history text

-- the text is a map's
abbrev pub IsMapRead : List ℕ → Type 0
IsMapRead map = (floor : Map) × (map_of map ≡ Ok floor)

-- the trace is illegal on the map
abbrev pub IsIllegalOn : List ℕ → List ℕ → ℕ → ℕ → Type 0
IsIllegalOn map trace at rule = (floor : Map) × (map_of map ≡ Ok floor) × (told : Trace Global) × Tells trace told × IsFirstIllegal (floor_of_map floor) told.history at rule

-- why there is no text: the map, the trace, the first entry that breaks a rule; that memory ran out is a fault of its own
abbrev pub IsUnconverted : List ℕ → List ℕ → ConvertFault → Type 0
IsUnconverted map trace (fault.Map f) = map_of map ≡ Err f
IsUnconverted map trace (fault.Trace f) = IsMapRead map × IsTraceFault trace f × (f ≢ trace_fault.NoMemory)
IsUnconverted map trace (fault.Illegal at rule) = IsIllegalOn map trace at rule
IsUnconverted map trace fault.NoMemory = Unit {0}
