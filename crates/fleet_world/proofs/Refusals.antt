-- What a run that was refused answers: a lemma apart from all that is known where it is asked.
use Rattle.std.proofs.Common.{◌≡◌, ◌↔◌}
use Rattle.std.specs.Prelude.{Result, Ok, Err}
use Rattle.fleet_core.specs.declared.faults.OpenFault.{OpenFault}

-- what was done was not refused
pub done : {X E P : Type 0} {x : X} {e : E} → ◌≡◌ {A = Result X E} (Ok x) (Err e) → P
done e = cc

-- an opening's fault is the same fault of whatever is opened
pub fault-at : {X Y P : Type 0} {e f : OpenFault} → (◌≡◌ {A = Result X OpenFault} (Err e) (Err f)) ↔ P → (◌≡◌ {A = Result Y OpenFault} (Err e) (Err f)) ↔ P
fault-at k = (λ s. k.0 cc, λ p. let same = k.1 p in cc)
