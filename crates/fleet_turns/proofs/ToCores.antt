-- The way to a core, read from a list.
use Rattle.std.proofs.Common.{◌≡◌, ℕ, inl, inr, List, Option, Some, None, refl, sym, subst, ap, ◌∙◌}
use Rattle.std.specs.Prelude.{◌↔◌, slice_index}
use Rattle.std.proofs.lemmas.Bool.Decides.{eqb_tells}
use Rattle.fleet_grid.specs.Floor.{Floor, IsFloor, IsNeighbour}
use Rattle.fleet_grid.specs.Ways.{IsWay, IsLess, AreNearer}
use Rattle.fleet_grid.specs.Walk.{IsDistance}
use Rattle.fleet_grid.specs.Distance.{distance}
use Rattle.fleet_grid.proofs.Walks.{same_along}
use Rattle.fleet_grid.proofs.Shortest.{is_distance, apart_is}
use Rattle.fleet_planner.specs.Courses.{Courses, goal}
use Rattle.turns_law.specs.Turns.{AreAway}
use Rattle.fleet_turns.specs.inside.Cores.{way_to_core}
use Rattle.fleet_turns.specs.inside.Lent.{goal_lent}

module _ (m : Floor) (core away : List ℕ) (are : AreAway m core away) (goal_ : ℕ) (own : slice_index core goal_ ≡ goal_) where
  -- it is the distance on the map
  pub way_is : (c : ℕ) → IsFloor m c → way_to_core core away goal_ c ≡ distance m c goal_
  way_is c floor = elim (eqb_tells (slice_index core c) goal_) [
    | inl p ↦ (
        let there : distance m c goal_ ≡ Some (slice_index away c) = is_distance m c goal_ (slice_index away c) floor (subst (λ (k : ℕ). IsDistance (IsNeighbour m) c k (slice_index away c)) p.1 (are.measured c floor)) in
        rw p.0 (sym there))
    | inr p ↦ (
        let none : distance m c goal_ ≡ None = apart_is m c goal_ (λ cs walk. p.1 (same_along (IsNeighbour m) (slice_index core) are.same c goal_ cs walk ∙ own)) in
        rw p.0 (sym none))
  ]

-- ways that are nearer by equal distances
pub nearer_by : (m : Floor) (f g : ℕ → Option ℕ) → ((c : ℕ) → IsFloor m c → f c ≡ g c) → (cell ways : ℕ) → IsFloor m cell → AreNearer m f cell ways → AreNearer m g cell ways
nearer_by m f g same cell ways floor are dir w near =
    subst (λ (o : Option ℕ). IsWay ways dir ↔ IsLess o (g cell)) (same w near.to)
    (subst (λ (o : Option ℕ). IsWay ways dir ↔ IsLess (f w) o) (same cell floor) (are dir w near))

-- the lender's goal, and the others'
pub goal_lender : (lender : Option ℕ) (core robot : ℕ) (courses : Courses) → lender ≡ Some robot → goal_lent lender core courses robot ≡ Some core
goal_lender lender core robot courses is = ap (λ (o : Option ℕ). goal_lent o core courses robot) is ∙ own
  where
    own : goal_lent (Some robot) core courses robot ≡ Some core
    own = elim (eqb_tells robot robot) [ inl p ↦ rw p.0 refl | inr p ↦ absurd (p.1 refl) ]

pub goal_other : (lender : Option ℕ) (core robot : ℕ) (courses : Courses) → (lender ≡ Some robot → ⊥) → goal_lent lender core courses robot ≡ goal courses robot
goal_other None core robot courses ne = refl
goal_other (Some x) core robot courses ne = elim (eqb_tells robot x) [ inl p ↦ absurd (ne (ap Some (sym p.1))) | inr p ↦ rw p.0 refl ]
