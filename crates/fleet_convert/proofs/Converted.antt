-- A map and a trace that are read, and what is made of both.
use Rattle.std.proofs.Common.{◌≡◌, ◌≢◌, ℕ, List, Result, Ok, Err, refl}
use Rattle.std.specs.declared.alloc.Global.{Global}
use Rattle.fleet_map.specs.Grammar.{Map, Fails, map_of}
use Rattle.fleet_map.specs.declared.fault.MapFault.{MapFault}
use Rattle.fleet_map.specs.declared.fault.MapFault.TheVariants as map_fault
use Rattle.fleet_trace.specs.Trace.{Trace}
use Rattle.fleet_trace.specs.Reads.{Tells}
use Rattle.fleet_convert.specs.declared.conversion.PlanForm.{PlanForm}
use Rattle.fleet_convert.specs.declared.conversion.ConvertFault.{ConvertFault}
use Rattle.fleet_convert.specs.declared.conversion.ConvertFault.TheVariants as fault
use Rattle.fleet_convert.specs.Converted.{IsPlanOn, IsNoPlanOn, IsConverted, IsUnconverted}

module _ (map trace : List ℕ) (m : Map) (t : Trace Global) (read : map_of map ≡ Ok m) (tells : Tells trace t) where
  pub unconverted : (f : ConvertFault) → IsNoPlanOn m t.history f → IsUnconverted map trace f
  unconverted (fault.Map f) why = absurd why
  unconverted (fault.Trace f) why = absurd why
  unconverted (fault.Illegal at rule) why = (m, read, t, tells, why)
  unconverted fault.NoMemory why = tt

-- a fault that does not say that memory ran out is what reading gives
pub map_fails : {X : Type 0} (fault : MapFault) (read : Result X MapFault) → Fails fault read → fault ≢ map_fault.NoMemory → read ≡ Err fault
map_fails map_fault.NoMemory read fails named = absurd (named refl)
map_fails (map_fault.Header line) read fails named = fails
map_fails map_fault.Size read fails named = fails
map_fails (map_fault.Row row) read fails named = fails
map_fails (map_fault.Cell row column) read fails named = fails
map_fails (map_fault.Trailing line) read fails named = fails

pub converted : (form : PlanForm) (map trace text : List ℕ) (m : Map) (t : Trace Global) → map_of map ≡ Ok m → Tells trace t → IsPlanOn form m t.history text → IsConverted form map trace text
converted form map trace text m t read tells plan = record { floor = m; read = read; told = t; tells = tells; plan = plan }
