-- What a shut shows together with what is known of its robot.
use Rattle.std.proofs.Common.{◌≡◌, ℕ, Bool, true, false, List, [], ◌∷◌, Option, Some, None, map, slice_index_or, refl, sym, ap, subst, ◌∙◌}
use mathlib.Core.Bool.{not, beq}
use Rattle.std.specs.Prelude.{is_some, slice_get}
use Rattle.fleet_hooks.specs.Law.{IsStamp}
use Rattle.fleet_queue.specs.declared.errand.Errand.{Errand}
use Rattle.fleet_history.specs.declared.history.RobotState.{RobotState}
use Rattle.fleet_history.specs.History.{History, front, unfinished}
use Rattle.fleet_history.specs.Legal.{IsFarewell, is_none_left, no_law}
use Rattle.fleet_trace.specs.Judged.{ShowsFarewell}
use Rattle.fleet_trace.proofs.ErrandNames.{impossible}

no_front : (errands : List Errand) (none : Bool) → is_some (slice_get errands 0) ≡ not none → none ≡ is_none_left errands
no_front [] true e = refl
no_front [] false e = absurd (impossible e)
no_front (x ∷ errands) true e = absurd (impossible (sym e))
no_front (x ∷ errands) false e = refl

same : (a b : Bool) → not (beq a b) ≡ false → a ≡ b
same true true e = refl
same true false e = absurd (impossible (sym e))
same false true e = absurd (impossible (sym e))
same false false e = refl

differ : (a b : Bool) → not (beq a b) ≡ true → a ≡ b → ⊥
differ true true e s = impossible e
differ true false e s = impossible (sym s)
differ false true e s = impossible s
differ false false e s = impossible e

module _ {A : Type 0} (h : History A) (robot : ℕ) (farewell : Option ℕ) where
  -- the answers to whether there is a farewell, and whether the robot has no front
  module _ (some none : Bool) (f : Option Errand) (shown : some ≡ is_some farewell) (has : is_some f ≡ not none) (is : f ≡ front h robot) where
    nobody : none ≡ is_none_left (unfinished h robot)
    nobody = no_front (unfinished h robot) none (ap (λ (o : Option Errand). is_some o) (sym is) ∙ has)

    pub shows_farewell : not (beq some none) ≡ false → ShowsFarewell h robot farewell
    shows_farewell e = sym shown ∙ same some none e ∙ nobody

    pub shows_no_farewell : not (beq some none) ≡ true → ShowsFarewell h robot farewell → ⊥
    shows_no_farewell e shows = differ some none e (shown ∙ shows ∙ sym nobody)

  module _ (robots : List (RobotState A)) (stamp : ℕ) (with_robots : h.opening.robots ≡ robots) (some : farewell ≡ Some stamp) where
    pub farewell_stamp : IsStamp (slice_index_or (map (λ x. x.farewell_law) robots) robot no_law) stamp → IsFarewell h robot farewell
    farewell_stamp is = subst (λ (f : Option ℕ). IsFarewell h robot f) (sym some) (subst (λ (xs : List (RobotState A)). IsStamp (slice_index_or (map (λ x. x.farewell_law) xs) robot no_law) stamp) (sym with_robots) is)

    pub stamp_farewell : IsFarewell h robot farewell → IsStamp (slice_index_or (map (λ x. x.farewell_law) robots) robot no_law) stamp
    stamp_farewell is = subst (λ (xs : List (RobotState A)). IsStamp (slice_index_or (map (λ x. x.farewell_law) xs) robot no_law) stamp) with_robots (subst (λ (f : Option ℕ). IsFarewell h robot f) some is)

  pub no_farewell : farewell ≡ None → IsFarewell h robot farewell
  no_farewell none = subst (λ (f : Option ℕ). IsFarewell h robot f) (sym none) tt
