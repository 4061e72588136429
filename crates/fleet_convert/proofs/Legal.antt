-- The placements of a legal history.
use Rattle.std.proofs.Common.{◌≡◌, ℕ, zero, suc, add-one, ◌+◌, ◌<◌, ◌≤◌, List, [], ◌∷◌, ◌++◌, length, map, slice_index_or, refl, sym, ap, subst, ◌∙◌, arith}
use Rattle.std.proofs.lemmas.List.{append_assoc}
use Rattle.fleet_grid.specs.Floor.{Floor}
use Rattle.fleet_grid.specs.Step.{IsConflictFree}
use Rattle.fleet_history.specs.declared.history.Entry.{Entry}
use Rattle.fleet_history.specs.declared.history.Entry.TheVariants.{Take, Tick, Shut}
use Rattle.fleet_history.specs.History.{History, place_after}
use Rattle.fleet_history.specs.Legal.{IsInOrder, IsLegal, opened, grown}
use Rattle.fleet_history.specs.Laws.{HasNoConflict}
use Rattle.fleet_history.proofs.Legal.{no_conflict-legal}
use Rattle.fleet_plans.specs.Valid.{place_at, IsValidPlan}
use Rattle.fleet_convert.specs.History.{ticks_in, places_in}

in_order : {A : Type 0} (m : Floor) (h : History A) → IsLegal m h → IsInOrder m h.opening
in_order m h (opened i) = i
in_order m g (grown {h} e legal f same) = subst (λ x. IsInOrder m x.opening) (sym same) (in_order m h legal)

after_tick : {A : Type 0} (cells : List ℕ) (es : List (Entry A)) (e : Entry A) → place_after cells (es ++ e ∷ []) ≡ place_after (place_after cells es) (e ∷ [])
after_tick cells [] e = refl
after_tick cells (Take client order verdict ∷ es) e = after_tick cells es e
after_tick cells (Tick to arrived farewells ∷ es) e = after_tick to es e
after_tick cells (Shut robot farewell ∷ es) e = after_tick cells es e

module _ {A : Type 0} (m : Floor) (h : History A) (legal : IsLegal m h) where
  abbrev cells : List ℕ
  cells = map (λ x. x.cell) h.opening.robots

  -- the steps after these entries
  steps_after : (before es : List (Entry A)) (here : List ℕ) → h.entries ≡ before ++ es → here ≡ place_after cells before → (t : ℕ) → t + 1 < length (here ∷ ticks_in es)
      → IsConflictFree m (place_at (here ∷ ticks_in es) t) (place_at (here ∷ ticks_in es) (t + 1))
  steps_after before [] here split is t less = absurd (omega (arith, less))
  steps_after before (Take client order verdict ∷ es) here split is t less =
      let e = Take client order verdict in
      steps_after (before ++ e ∷ []) es here (split ∙ sym (append_assoc before (e ∷ []) es)) (is ∙ sym (after_tick cells before e)) t less
  steps_after before (Shut robot farewell ∷ es) here split is t less =
      let e = Shut robot farewell in
      steps_after (before ++ e ∷ []) es here (split ∙ sym (append_assoc before (e ∷ []) es)) (is ∙ sym (after_tick cells before e)) t less
  steps_after before (Tick to arrived farewells ∷ es) here split is zero less =
      subst (λ (from : List ℕ). IsConflictFree m from to) (sym is) (no_conflict-legal m h legal before es to arrived farewells split)
  steps_after before (Tick to arrived farewells ∷ es) here split is (suc t) less =
      let e = Tick to arrived farewells in
      let next = steps_after (before ++ e ∷ []) es to (split ∙ sym (append_assoc before (e ∷ []) es)) (sym (after_tick cells before e)) t (omega (arith, less)) in
      let same : suc (t + 1) ≡ suc t + 1 = omega arith in
      subst (λ (k : ℕ). IsConflictFree m (place_at (to ∷ ticks_in es) t) (place_at (here ∷ to ∷ ticks_in es) k)) same next

  pub valid_places : IsValidPlan m (places_in h)
  valid_places = record {
    starts = (in_order m h legal).placed;
    steps = λ t less. steps_after [] h.entries cells refl refl t less;
  }
