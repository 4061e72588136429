use Rattle.std.proofs.Common.{◌≡◌, ◌<◌, ◌∙◌, ℕ, List, length, map, refl, sym, arith}
use Rattle.std.specs.Prelude.{slice_index_or}
use Rattle.std.proofs.lemmas.List.{length-map, ext_get_or}
use Rattle.fleet_hooks.specs.declared.law.StampLaw.{StampLaw}
use Rattle.fleet_history.specs.declared.history.RobotState.{RobotState}
use Rattle.fleet_history.specs.Legal.{no_law}
use Rattle.fleet_core.specs.Hooks.{law_at}
use Rattle.fleet_core.proofs.hook_laws.are_arrivals.Goals as goal

same : {A : Type 0} (laws : List StampLaw) (robots : List (RobotState A)) (n : ℕ) → length laws ≡ length robots → length laws ≡ n →
    ((q : ℕ) → q < n → law_at laws q ≡ slice_index_or (map (λ x. x.arrival_law) robots) q no_law) → laws ≡ map (λ x. x.arrival_law) robots
same {A = A} laws robots n count all each =
    ext_get_or no_law laws (map (λ x. x.arrival_law) robots) (count ∙ sym (length-map robots (λ (x : RobotState A). x.arrival_law))) (λ q l. each q (omega (arith, l, all)))

pub returns : goal.returns
returns g c = (
  λ t. same c.args.laws.now c.args.robots.now c.loop-r.r c.if-laws-robots.false (omega (arith, c.loop-r.auto.r-end, c.loop-r-test.false)) c.loop-r.invariant,
  λ e. refl,
)
