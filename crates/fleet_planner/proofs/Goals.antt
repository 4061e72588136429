-- What a world keeps, waits, aims and cells, is what a step by priority inheritance asks for.
use Rattle.std.proofs.Common.{◌≡◌, ℕ, ◌<◌, ◌↔◌, List, length, Option, Some, None, IsSome, sym, refl, ap, ◌∙◌, subst, arith, slice_index, slice_index_or}
use Rattle.fleet_grid.specs.Floor.{Floor, IsNeighbour}
use Rattle.fleet_grid.specs.Walk.{AreJoined, IsBridgeless}
use Rattle.fleet_hooks.specs.declared.law.TieLaw.{TieLaw}
use Rattle.fleet_queue.specs.declared.errand.Errand.{Errand}
use Rattle.fleet_history.specs.History.{History, robots, place, front}
use Rattle.fleet_history.specs.Waits.{wait, wait_for}
use Rattle.fleet_history.specs.Legal.{IsLegal}
use Rattle.fleet_history.proofs.Legal.{length-place}
use Rattle.fleet_history.proofs.Reach.{front-reach}
use Rattle.fleet_planner.specs.Courses.{Courses, goals_of, goal, away}
use Rattle.fleet_planner.proofs.Measured.{are_goals}
use Rattle.fleet_pibt.specs.Goals.{AreGoals}
use Rattle.fleet_pibt.specs.Order.{wait_of}
use Rattle.fleet_pibt.specs.Eldest.{IsEldest}
use Rattle.fleet_pibt.specs.Advancing.{IsAdvancing, HasWayAhead}
use Rattle.fleet_planner.specs.Planned.{waits, goals, goal_of, cell_of, IsPlannedBy}
use Rattle.fleet_planner.proofs.Lists.{item_of}

-- a wait is there where a front is
waits_some : {A : Type 0} (h : History A) (r : ℕ) (o : Option Errand) → IsSome (cell_of o) ↔ IsSome (wait_for h r o)
waits_some h r None = ((λ x. x), (λ x. x))
waits_some h r (Some f) = ((λ x. search), (λ x. search))

front_of : (o : Option Errand) (g : ℕ) → cell_of o ≡ Some g → (f : Errand) × (o ≡ Some f) × (f.cell ≡ g)
front_of None g e = cc
front_of (Some f) g e = (f, refl, cc)

-- after a legal history the courses to the fronts' cells have goals that the robots can reach, with their distances
pub kept_goals : {A : Type 0} (m : Floor) (h : History A) (aims : Courses) → IsLegal m h → goals_of aims ≡ goals h →
    AreGoals m (place h) (waits h) (goal aims) (away aims m)
kept_goals m h aims legal same =
    let at : (r : ℕ) → r < length (place h) → goal aims r ≡ cell_of (front h r) =
    (λ r l. ap (λ (gs : List (Option ℕ)). slice_index_or gs r None) same ∙ item_of (λ q. cell_of (front h q)) (robots h) r (omega (arith, length-place m h legal))) in
    are_goals m (place h) (waits h) aims
    (λ r l.
    let w : wait_of (waits h) r ≡ wait h r = item_of (wait h) (robots h) r (omega (arith, length-place m h legal)) in
    rw (at r l, w) (waits_some h r (front h r)))
    (λ r g l e.
    let f = front_of (front h r) g (sym (at r l) ∙ e) in
    subst (λ c. AreJoined (IsNeighbour m) (slice_index (place h) r) c) f.2 (front-reach m h r f.0 legal (omega (arith, length-place m h legal)) f.1).joined)

-- on a bridgeless map a planned tick advances
pub planned-advances : (m : Floor) (ties : List TieLaw) (ws gs : List (Option ℕ)) (from to : List ℕ) → IsBridgeless (IsNeighbour m) →
    IsPlannedBy m ties ws gs from to → IsAdvancing m ws (goal_of gs) from to
planned-advances m ties ws gs from to none planned e g eldest is = planned.advances e g eldest is (λ w near nearer full. none (slice_index from e) w full.bridge)

-- so does one before which the eldest has a way ahead
pub planned-way : (m : Floor) (ties : List TieLaw) (ws gs : List (Option ℕ)) (from to : List ℕ) → ((e g : ℕ) → IsEldest ws e → goal_of gs e ≡ Some g → HasWayAhead m from g (slice_index from e)) →
    IsPlannedBy m ties ws gs from to → IsAdvancing m ws (goal_of gs) from to
planned-way m ties ws gs from to way planned e g eldest is = planned.advances e g eldest is (way e g eldest is)
