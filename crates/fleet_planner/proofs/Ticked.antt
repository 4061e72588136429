-- A robot's goal after one more entry.
use Rattle.std.proofs.Common.{◌≡◌, ℕ, ◌<◌, List, [], ◌∷◌, ◌++◌, length, map, drop, eqb, Option, refl, ap, ◌∙◌, inl, inr}
use Rattle.std.specs.Prelude.{slice_get, slice_index}
use Rattle.std.proofs.lemmas.Bool.{cases_Bool}
use Rattle.fleet_grid.specs.Floor.{Floor}
use Rattle.fleet_queue.specs.declared.errand.Errand.{Errand}
use Rattle.fleet_book.specs.declared.order.Order.{Order}
use Rattle.fleet_book.specs.declared.verdict.Verdict.{Verdict}
use Rattle.fleet_history.specs.declared.history.Arrival.{Arrival}
use Rattle.fleet_history.specs.declared.history.Bye.{Bye}
use Rattle.fleet_history.specs.declared.history.Entry.TheVariants.{Take, Tick, Shut}
use Rattle.fleet_history.specs.History.{History, after, robots, unfinished, front, errand_for}
use Rattle.fleet_history.specs.Legal.{due_of, due, IsLegal}
use Rattle.fleet_history.specs.Verdicts.{IsVerdict}
use Rattle.fleet_history.specs.inside.Landing.{landed}
use Rattle.fleet_history.proofs.Arrivals.{unfinished-after_tick, unfinished-after_shut}
use Rattle.fleet_history.proofs.Places.{front-after_take}
use Rattle.fleet_planner.specs.Planned.{cell_of}
use Rattle.fleet_planner.specs.Counted.{goal_ticked}

ticked : (to : List ℕ) (r : ℕ) (u : List Errand) → cell_of (slice_get (drop (length (landed to r (slice_get u 0))) u) 0) ≡ goal_ticked to r u
ticked to r [] = refl
ticked to r (f ∷ rest) =
    elim (cases_Bool (eqb f.cell (slice_index to r))) [
      | inl e ↦ rw (e) refl
      | inr e ↦ rw (e) refl
    ]

pub goal-after_tick : {A : Type 0} (h : History A) (to : List ℕ) (arrived : List Arrival) (farewells : List Bye) (r : ℕ) → r < robots h → map due_of arrived ≡ due h to →
    cell_of (front (after h (Tick to arrived farewells)) r) ≡ goal_ticked to r (unfinished h r)
goal-after_tick h to arrived farewells r l shows =
    ap (λ (u : List Errand). cell_of (slice_get u 0)) (unfinished-after_tick h to arrived farewells r l shows) ∙ ticked to r (unfinished h r)

-- errands after others change no goal
pub goal-after_take : {A : Type 0} (m : Floor) (h : History A) (c : ℕ) (order : Order) (v : Verdict) (r : ℕ) → IsLegal m h → IsVerdict m h c order v → r < robots h →
    cell_of (front (after h (Take c order v)) r) ≡ cell_of (slice_get (unfinished h r ++ errand_for r c order v) 0)
goal-after_take m h c order v r legal is l = ap cell_of (front-after_take m h c order v r legal is l)

pub goal-after_shut : {A : Type 0} (h : History A) (robot : ℕ) (farewell : Option ℕ) (r : ℕ) → cell_of (front (after h (Shut robot farewell)) r) ≡ cell_of (front h r)
goal-after_shut h robot farewell r = ap (λ (u : List Errand). cell_of (slice_get u 0)) (unfinished-after_shut h robot farewell r)
