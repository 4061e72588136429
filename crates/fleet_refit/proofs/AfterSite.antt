-- A site once its fleet has played a chapter, and what its fleet goes on with.
use Rattle.std.proofs.Common.{◌≡◌, ◌∙◌, ℕ, ap, arith, subst, sym, length}
use Rattle.std.specs.Prelude.{List, Some, slice_get}
use Rattle.fleet_grid.specs.Floor.{HasForm, floor_of}
use Rattle.fleet_history.specs.declared.history.Opening.{Opening}
use Rattle.fleet_history.specs.declared.history.RobotState.{RobotState}
use Rattle.fleet_refit.specs.After.{AreTheMoving, DoOthersStay, IsAfter, after_site, moving_count}
use Rattle.fleet_refit.specs.Map.{plan_map}
use Rattle.fleet_refit.specs.Opening.{moving_numbers, opening_of}
use Rattle.fleet_refit.specs.Site.{SiteView, moving}
use Rattle.fleet_refit.proofs.AfterInOrder.{after-in_order}
use Rattle.fleet_refit.proofs.SeatsAfter.{after-numbers, after-robots, after-walls}
use Rattle.fleet_refit.proofs.SeatsWhere.{at-number, at-other}

-- the opening with other robots
abbrev with_robots : {A : Type 0} → Opening A → List (RobotState A) → Opening A
with_robots o robots = record { tick = o.tick; queue = o.queue; life = o.life; clients = o.clients; robots = robots }

same-opening : {A : Type 0} (s t : SiteView A) (o : Opening A) → t ≡ after_site s o → moving_count s.seats ≡ length o.robots → opening_of t ≡ o
same-opening {A} s t o is many = ap opening_of is ∙ ap (with_robots o) (after-robots s.seats o.robots many)

same-numbers : {A : Type 0} (s t : SiteView A) (o : Opening A) → t ≡ after_site s o → moving_numbers t.seats ≡ moving_numbers s.seats
same-numbers {A} s t o is = ap (λ (u : SiteView A). moving_numbers u.seats) is ∙ after-numbers 0 s.seats o.robots

same-plan : {A : Type 0} (s t : SiteView A) (o : Opening A) → t ≡ after_site s o → plan_map t ≡ plan_map s
same-plan s t o is = ap plan_map is ∙ ap (λ l. floor_of s.map.height s.map.width l) (after-walls s.map.letters s.seats o.robots)

the-moving : {A : Type 0} (s t : SiteView A) (o : Opening A) → t ≡ after_site s o → AreTheMoving s o t
the-moving {A} s t o is k number z numbered at =
    let (r, same, there) = at-number 0 s.seats o.robots k number z numbered at in
    let one : number ≡ r = omega (arith, same) in
    subst (λ (u : SiteView A). slice_get u.seats number ≡ Some (moving z)) (sym is) (subst (λ n. slice_get (after_site s o).seats n ≡ Some (moving z)) (sym one) there)

the-others : {A : Type 0} (s t : SiteView A) (o : Opening A) → t ≡ after_site s o → DoOthersStay s t
the-others {A} s t o is number x was stays = subst (λ (u : SiteView A). slice_get u.seats number ≡ Some x) (sym is) (at-other s.seats o.robots number x was stays)

pub is-after : {A : Type 0} (s t : SiteView A) (o : Opening A) → t ≡ after_site s o → moving_count s.seats ≡ length o.robots → IsAfter s o t
is-after s t o is many = record {
  site = is;
  opening = same-opening s t o is many;
  numbers = same-numbers s t o is;
  the_moving = the-moving s t o is;
  others = the-others s t o is;
  map = same-plan s t o is;
  in_order = after-in_order s t o is;
}

-- a copy of a map has its form
pub same-form : (h w h2 w2 : ℕ) (l l2 : List ℕ) → h2 ≡ h → w2 ≡ w → l2 ≡ l → HasForm (floor_of h w l) → HasForm (floor_of h2 w2 l2)
same-form h w h2 w2 l l2 tall wide same form =
    subst (λ n. HasForm (floor_of n w2 l2)) (sym tall) (subst (λ n. HasForm (floor_of h n l2)) (sym wide) (subst (λ k. HasForm (floor_of h w k)) (sym same) form))
