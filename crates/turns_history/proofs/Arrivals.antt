-- A served front errand arrives.
use Rattle.std.proofs.Common.{◌≡◌, ◌≢◌, ℕ, ◌+◌, ◌*◌, ◌<◌, ◌≤◌, inl, inr, List, [], ◌∷◌, ◌++◌, cond, Option, Some, sym, refl, ap, subst, ◌∙◌, arith}
use Rattle.std.specs.Prelude.{slice_get, slice_index, Contains}
use Rattle.std.proofs.lemmas.Bool.{cases_eq, eq-eqb}
use Rattle.std.proofs.lemmas.List.Elements.{Contains-append_left, Contains-push}
use Rattle.fleet_grid.specs.Floor.{Floor}
use Rattle.fleet_hooks.specs.declared.law.TieLaw.{TieLaw}
use Rattle.fleet_queue.specs.declared.errand.Errand.{Errand}
use Rattle.fleet_history.specs.declared.history.Entry.{Entry}
use Rattle.fleet_history.specs.declared.history.Entry.TheVariants.{Take, Tick, Shut}
use Rattle.fleet_history.specs.History.{History, after, robots, place, front, arrivals, arrivals_by, is_tick}
use Rattle.fleet_history.specs.Legal.{IsLegal, Fits, grown}
use Rattle.fleet_history.specs.inside.Landing.{landed}
use Rattle.fleet_history.proofs.After.{arrivals-after, place-after}
use Rattle.fleet_history.proofs.Arrivals.{arrivals_by-fits, unfinished-after_shut}
use Rattle.fleet_planner.specs.Planned.{cell_of}
use Rattle.fleet_bound.specs.Onward.{onward, tick_count}
use Rattle.fleet_bound.proofs.Fronts.{wait-some}
use Rattle.fleet_bound.proofs.Ticks.{is_landing, landed-one}
use Rattle.turns_law.specs.Turns.{Turns}
use Rattle.turns_law.specs.Fleet.{IsFleet, IsPause, Follows, begins, ticked, paused}
use Rattle.turns_law.proofs.Steps.{follows_bound}
use Rattle.turns_history.specs.Fleets.{TurnLimits, AreTurnsFor, IsEarly, IsEntryInTurns, as_fleet}
use Rattle.turns_history.specs.Arriving.{FrontsArrive}
use Rattle.turns_history.proofs.Views.{goal-at}
use Rattle.turns_history.proofs.Ticking.{front-stays, tick-in-turns}
use Rattle.turns_history.proofs.Pausing.{front-kept, take-in-turns, shut-in-turns}
use Rattle.turns_history.proofs.Keeping.{fleet-of, served-front}
use Rattle.turns_history.proofs.Going.{all-entries, began}

-- since the moment `from` the robot's errand arrived, or it is its front still, after this number of ticks
data IsComing {A : Type 0} (m : Floor) (t : Turns) (laws : List TieLaw) (from : History A) (r : ℕ) (x : Errand) (now : History A) (ticks : ℕ) : Type 0 where
  arrived : Contains (arrivals now r) x → IsComing m t laws from r x now ticks
  coming : front now r ≡ Some x → Follows m t laws r (as_fleet from) (as_fleet now) ticks → IsComing m t laws from r x now ticks

arrived-after : {A : Type 0} (now : History A) (r : ℕ) (x : Errand) (e : Entry A) → Contains (arrivals now r) x → Contains (arrivals (after now e) r) x
arrived-after now r x e there = subst (λ xs. Contains xs x) (sym (arrivals-after now r e)) (Contains-append_left (arrivals now r) (arrivals_by r e) x there)

module _ {A : Type 0} (m : Floor) (t : Turns) (l : TurnLimits) (laws : List TieLaw) (from : History A) (r : ℕ) (x : Errand) where
  module _ (now : History A) (ticks : ℕ) (are : AreTurnsFor m t l (robots now)) (legal : IsLegal m now) (known : r < robots now) where
    after-entry : (e : Entry A) → Fits m now e → IsEarly (after now e) → IsEntryInTurns m t laws now e → IsComing m t laws from r x now ticks → IsComing m t laws from r x (after now e) (ticks + cond (is_tick e) 1 0)
    after-entry e fits early planned (arrived there) = arrived (arrived-after now r x e there)
    after-entry (Take c order v) fits early planned (coming is run) =
        let g = after now (Take c order v) in
        let pause = subst (λ (n : ℕ). IsPause n (as_fleet now) (as_fleet g)) (sym are.robots) (take-in-turns m now legal c order v fits.1) in
        let same : ticks ≡ ticks + 0 = omega arith in
        coming (front-kept m now legal c order v fits.1 r x known is)
        (subst (λ (n : ℕ). Follows m t laws r (as_fleet from) (as_fleet g) n) same
        (paused (as_fleet g) run pause (fleet-of m t l g are (grown (Take c order v) legal fits refl) early)))
    after-entry (Shut robot farewell) fits early planned (coming is run) =
        let g = after now (Shut robot farewell) in
        let same : ticks ≡ ticks + 0 = omega arith in
        coming (ap (λ u. slice_get u 0) (unfinished-after_shut now robot farewell r) ∙ is)
        (subst (λ (n : ℕ). Follows m t laws r (as_fleet from) (as_fleet g) n) same
        (subst (λ f. Follows m t laws r (as_fleet from) f ticks) (sym (shut-in-turns now robot farewell)) run))
    after-entry (Tick to arrivals_shown farewells) fits early planned (coming is run) =
        let g = after now (Tick to arrivals_shown farewells) in
        elim (cases_eq (slice_index to r) x.cell) [
          | inl here ↦ (
              let one : landed to r (front now r) ≡ x ∷ [] = ap (landed to r) is ∙ landed-one to r x (eq-eqb x.cell (slice_index to r) (sym here)) in
              let shown : arrivals g r ≡ arrivals now r ++ x ∷ [] = arrivals-after now r (Tick to arrivals_shown farewells)
              ∙ ap (λ (xs : List Errand). arrivals now r ++ xs) (arrivals_by-fits now to arrivals_shown farewells r known fits.shows ∙ one) in
              arrived (subst (λ xs. Contains xs x) (sym shown) (Contains-push (arrivals now r) x)))
          | inr off ↦ (
              let away : slice_index (place g) r ≢ x.cell = λ e. off (ap (λ (p : List ℕ). slice_index p r) (sym (place-after now (Tick to arrivals_shown farewells))) ∙ e) in
              coming (front-stays m now to arrivals_shown farewells legal fits r x known is off)
              (ticked (as_fleet g) (ticks + 1) x.cell run (tick-in-turns m now to arrivals_shown farewells legal fits t laws planned)
              (fleet-of m t l g are (grown (Tick to arrivals_shown farewells) legal fits refl) early) (goal-at now r known ∙ ap cell_of is) away refl))
        ]

ended : {A : Type 0} (m : Floor) (t : Turns) (l : TurnLimits) (laws : List TieLaw) (from : History A) (r : ℕ) (x : Errand) (now : History A) (ticks : ℕ) → AreTurnsFor m t l (robots from) → r < robots from → robots from * l.turn ≤ ticks →
    IsComing m t laws from r x now ticks → Contains (arrivals now r) x
ended m t l laws from r x now ticks are known enough (arrived there) = there
ended m t l laws from r x now ticks are known enough (coming is run) =
    let there : r < t.robots = subst (λ (n : ℕ). r < n) (sym are.robots) known in
    let short = subst (λ (n : ℕ). ticks < n * l.turn) are.robots (follows_bound m t are.turns l.reach l.depth l.turn are.limits laws r (as_fleet from) (as_fleet now) ticks there run) in
    absurd (omega (arith, short, enough))

pub fronts-arrive : {A : Type 0} (m : Floor) (t : Turns) (l : TurnLimits) (laws : List TieLaw) (h : History A) → AreTurnsFor m t l (robots h) → FrontsArrive m t laws (robots h * l.turn) h
fronts-arrive m t l laws h are r x more known is served goes enough =
    let start_at = began m t l laws h are more goes in
    let waited = wait-some h r x is in
    let last = all-entries m t l laws h (λ ticks now. IsComing m t laws h r x now ticks)
    (λ now ticks e same legal fits early planned it.
    after-entry m t l laws h r x now ticks (subst (λ (n : ℕ). AreTurnsFor m t l n) (sym same) are) legal (subst (λ (n : ℕ). r < n) (sym same) known) e fits early planned it)
    more goes (coming is (begins waited.0 (fleet-of m t l h are start_at.0 start_at.1) (served-front m t l h r waited.0 x are known is served waited.1))) in
    ended m t l laws h r x (onward h more) (tick_count more) are known enough last
