-- What the judge says of a map and a trace.
use Rattle.std.proofs.Common.{◌≡◌, ◌≢◌, ℕ, List, Result, Err, refl, sym, subst}
use Rattle.std.specs.declared.alloc.Global.{Global}
use Rattle.fleet_grid.specs.Floor.{Floor}
use Rattle.fleet_history.specs.History.{History}
use Rattle.fleet_map.specs.declared.fault.MapFault.{MapFault}
use Rattle.fleet_map.specs.declared.fault.MapFault.TheVariants as map_fault
use Rattle.fleet_map.specs.Grammar.{Fails}
use Rattle.fleet_trace.specs.declared.fault.JudgeFault.{JudgeFault}
use Rattle.fleet_trace.specs.declared.fault.JudgeFault.TheVariants.{Illegal}
use Rattle.fleet_trace.specs.declared.fault.TraceFault.{TraceFault}
use Rattle.fleet_trace.specs.Judged.{IsFirstIllegal, IsJudgeFault}
use Rattle.fleet_trace.specs.Reads.{IsTraceFault}

-- the first illegal entry on a grid is that on its map
pub illegal_on : (m g : Floor) (h : History Global) (f : JudgeFault) (at rule : ℕ) → g ≡ m → f ≡ Illegal at rule → IsJudgeFault g h f → IsFirstIllegal m h at rule
illegal_on m g h f at rule same is fault = subst (λ (x : Floor). IsFirstIllegal x h at rule) same (subst (λ (x : JudgeFault). IsJudgeFault g h x) is fault)

pub map_fails : {X : Type 0} (f : MapFault) (read : Result X MapFault) → Fails f read → f ≢ map_fault.NoMemory → read ≡ Err f
map_fails map_fault.NoMemory read fails ne = absurd (ne refl)
map_fails (map_fault.Header line) read fails ne = fails
map_fails map_fault.Size read fails ne = fails
map_fails (map_fault.Row row) read fails ne = fails
map_fails (map_fault.Cell row column) read fails ne = fails
map_fails (map_fault.Trailing line) read fails ne = fails

pub same_fault : (bytes : List ℕ) (f named : TraceFault) → named ≡ f → IsTraceFault bytes f → IsTraceFault bytes named
same_fault bytes f named same is = subst (λ (x : TraceFault). IsTraceFault bytes x) (sym same) is
