-- Clients that come home are on their office's rings again.
use Rattle.std.proofs.Common.{◌≡◌, List, Result, subst, sym}
use Rattle.std.specs.Result.{IfErr}
use Rattle.std.proofs.lemmas.Result.{IfErr-weaker}
use Rattle.fleet_lanes.specs.Names.{LaneName}
use Rattle.fleet_office.specs.Views.{AreOn, ClientCore}

module _ {A T E : Type 0} (rings : List (LaneName A)) (r : Result T E) (of : E → List (ClientCore A)) (more : E → Type 0) (before : List (ClientCore A)) where
  pub home_again : AreOn rings before → IfErr r (λ e. (of e ≡ before) × more e) → IfErr r (λ e. AreOn rings (of e))
  home_again on back = IfErr-weaker r (λ e. (of e ≡ before) × more e) (λ e. AreOn rings (of e)) (λ e is. subst (λ cs. AreOn rings cs) (sym is.0) on) back
