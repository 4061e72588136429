-- A shut, or none.
use Rattle.std.proofs.Common.{◌≡◌, ℕ, List, Option, refl, sym, subst}
use Rattle.std.specs.Prelude.{Ok, Err, Result, OnErr, IfOk}
use Rattle.fleet_core.specs.Core.{World, Shuts}
use Rattle.fleet_core.specs.declared.faults.ShutFault.{ShutFault}
use Rattle.fleet_lanes.specs.Names.{LaneName}
use Rattle.fleet_lanes.specs.Ends.{EndView}
use Rattle.fleet_office.specs.Hall.{IsLawful}
use Rattle.fleet_office.proofs.Laws.{lawful_shut}

pub kept-shut : {A : Type 0} (rings : List (LaneName A)) (began : World A) (w v : World A) (ends : List (EndView A)) (t robot : ℕ) (r : Result (Option ℕ) ShutFault) →
    IfOk r (λ f. Shuts w robot f v) → OnErr r (v ≡ w) → IsLawful rings began w ends t → IsLawful rings began v ends t
kept-shut rings began w v ends t robot (Ok f) ok err h = subst (λ x. IsLawful rings began x ends t) (sym ok.world) (lawful_shut rings began w ends t robot f ok.fits h)
kept-shut rings began w v ends t robot (Err e) ok err h = subst (λ x. IsLawful rings began x ends t) (sym err) h

-- a shut changes the world alone
pub told-shut : {A : Type 0} (w v : World A) (ends : List (EndView A)) (t robot : ℕ) (r : Result (Option ℕ) ShutFault) → IfOk r (λ f. Shuts w robot f v) → IfOk r (λ f. Shuts w robot f v × (ends ≡ ends) × (t ≡ t))
told-shut w v ends t robot (Ok f) ok = (ok, refl, refl)
told-shut w v ends t robot (Err e) ok = tt
