-- Laws that are made of robots are as many as they.
use Rattle.std.proofs.Common.{◌≡◌, ℕ, List, length, refl, subst, sym}
use Rattle.std.proofs.lemmas.List.{length-map}
use Rattle.fleet_book.specs.declared.limits.Limits.{Limits}
use Rattle.fleet_grid.specs.Floor.{Floor}
use Rattle.fleet_core.specs.Hooks.{HookLaws, HaveCount}
use Rattle.fleet_core.specs.OpeningFaults.{IsRefused}
use Rattle.fleet_core.specs.declared.faults.OpenFault.{OpenFault}
use Rattle.fleet_c.specs.declared.robot.Robot.{Robot}
use Rattle.fleet_c.specs.Forms.{starts_of, laws_of_robots}

of_robots : (robots : List Robot) → HaveCount (length (starts_of robots)) (laws_of_robots robots)
of_robots robots = record { ties = simp length-map refl; arrivals = simp length-map refl; farewells = simp length-map refl }

pub counted : (robots : List Robot) (starts : List ℕ) (laws : HookLaws) → starts ≡ starts_of robots → laws ≡ laws_of_robots robots → HaveCount (length starts) laws
counted robots starts laws s l = subst (λ xs. HaveCount (length xs) laws) (sym s) (subst (λ ls. HaveCount (length (starts_of robots)) ls) (sym l) (of_robots robots))

-- what is refused for some lists is refused for equal ones
pub refused_as : (m : Floor) (n : ℕ) (why : OpenFault) {starts starts' : List ℕ} {limits limits' : Limits} {laws laws' : HookLaws} → starts ≡ starts' → limits ≡ limits' → laws ≡ laws'
    → IsRefused m starts n limits laws why → IsRefused m starts' n limits' laws' why
refused_as m n why {starts} {starts'} {limits} {limits'} {laws} {laws'} s l h is =
    subst (λ ls. IsRefused m starts' n limits' ls why) h (subst (λ x. IsRefused m starts' n x laws why) l (subst (λ xs. IsRefused m xs n limits laws why) s is))
