-- What a judge knows after one more placement.
use Rattle.std.proofs.Common.{◌≡◌, ℕ, ◌+◌, ◌-◌, ◌<◌, ◌≤◌, inl, inr, List, [], ◌∷◌, ◌++◌, length, slice_index, Option, Some, None, option_map, refl, sym, ap, subst, ◌∙◌, arith}
use Rattle.std.proofs.lemmas.Bool.{cases_eq, false≢true}
use Rattle.std.proofs.lemmas.List.{get_or_append_left, get_or_push, length-append}
use Rattle.std.specs.Prelude.{IsSome}
use Rattle.fleet_grid.specs.Floor.{Floor}
use Rattle.fleet_grid.specs.Step.{IsPlacement, IsConflictFree}
use Rattle.fleet_check.specs.Fault.{IsPlacementFault, IsFirstFault}
use Rattle.fleet_plans.specs.declared.judging.PlanFault.{PlanFault}
use Rattle.fleet_plans.specs.Valid.{place_at, AreStepsFree, robot_at_fault, HasCells}
use Rattle.fleet_plans.specs.Costs.{AreCostsBy, IsNoted}
use Rattle.fleet_plans.specs.Judge.{Judged, HasPassed, HasFailed, IsSoFar, AreKept, HasJudged}
use Rattle.fleet_plans.proofs.Moves.{costs_along, costs_more}

length_more : (places : List (List ℕ)) (place : List ℕ) → length (places ++ place ∷ []) ≡ length places + 1
length_more places place = length-append places (place ∷ []) ∙ omega arith

module _ (m : Floor) (places : List (List ℕ)) (place : List ℕ) where
  same_at : (t : ℕ) → t < length places → place_at (places ++ place ∷ []) t ≡ place_at places t
  same_at t less = get_or_append_left places (place ∷ []) [] t less

  last_at : (t : ℕ) → t ≡ length places → place_at (places ++ place ∷ []) t ≡ place
  last_at t is = get_or_push places place [] t (sym is)

  steps_along : (n : ℕ) → n < length places → AreStepsFree m places n → AreStepsFree m (places ++ place ∷ []) n
  steps_along n inner free = λ t less.
      subst (λ (q : List ℕ). IsConflictFree m q (place_at (places ++ place ∷ []) (t + 1))) (sym (same_at t (omega (arith, less, inner))))
      (subst (λ (q : List ℕ). IsConflictFree m (place_at places t) q) (sym (same_at (t + 1) (omega (arith, less, inner)))) (free t less))

  -- the step to the new placement
  module _ (first last costs : List ℕ) (some : 1 ≤ length places) (was : HasPassed m places first last costs) where
    from_is : place_at (places ++ place ∷ []) (length places - 1) ≡ last
    from_is = same_at (length places - 1) (omega (arith, some)) ∙ sym was.last_one

    starts_are : place_at (places ++ place ∷ []) 0 ≡ place_at places 0
    starts_are = same_at 0 (omega (arith, some))

    pub passed_more : (new : List ℕ) → IsConflictFree m last place → length new ≡ length costs
        → ((r : ℕ) → r < length costs → IsNoted last place (length places) r (slice_index costs r) (slice_index new r)) → HasPassed m (places ++ place ∷ []) first place new
    passed_more new free count noted =
        let size = length_more places place in
        let ends : length (places ++ place ∷ []) - 1 ≡ length places = omega (arith, size) in
        let to_is = last_at (length places) refl in
        record {
          first_one = was.first_one ∙ sym starts_are;
          starts = subst (λ (q : List ℕ). IsPlacement m q) (sym starts_are) was.starts;
          steps = λ t less. elim (cases_eq t (length places - 1)) [
            | inl same ↦
                let next : t + 1 ≡ length places = omega (arith, same, some) in
                let P : ℕ → Type 0 = λ x. IsConflictFree m (place_at (places ++ place ∷ []) x) (place_at (places ++ place ∷ []) (t + 1)) in
                subst P (sym same)
                (subst (λ (q : List ℕ). IsConflictFree m q (place_at (places ++ place ∷ []) (t + 1))) (sym from_is)
                (subst (λ (q : List ℕ). IsConflictFree m last q) (sym (last_at (t + 1) next)) free))
            | inr other ↦ steps_along (length places - 1) (omega (arith, some)) was.steps t (omega (arith, less, ends, other))
          ];
          last_one = sym (last_at (length (places ++ place ∷ []) - 1) ends);
          costs_by =
              let along = costs_along places place (length places - 1) costs (omega (arith, some)) was.costs_by in
              let noted_there : (r : ℕ) → r < length costs → IsNoted (place_at (places ++ place ∷ []) (length places - 1)) (place_at (places ++ place ∷ []) (length places)) (length places) r (slice_index costs r) (slice_index new r) =
              λ r less.
              subst (λ (q : List ℕ). IsNoted q (place_at (places ++ place ∷ []) (length places)) (length places) r (slice_index costs r) (slice_index new r)) (sym from_is)
              (subst (λ (q : List ℕ). IsNoted last q (length places) r (slice_index costs r) (slice_index new r)) (sym to_is) (noted r less)) in
              let now = costs_more (places ++ place ∷ []) (length places) costs new some along count noted_there in
              let same : length places + 1 - 1 ≡ length (places ++ place ∷ []) - 1 = omega (arith, size) in
              subst (λ (k : ℕ). AreCostsBy (places ++ place ∷ []) k new) same now;
        }

    -- the cells are those of the last placement and of the new one
    cells_now : (f : PlanFault) → f.time ≡ length places → f.from ≡ slice_index last (robot_at_fault f.fault) → f.to ≡ slice_index place (robot_at_fault f.fault) → HasCells (places ++ place ∷ []) f
    cells_now f when from to =
        let at : ℕ → List ℕ = λ t. place_at (places ++ place ∷ []) t in
        let robot = robot_at_fault f.fault in
        record {
          before = from ∙ ap (λ (q : List ℕ). slice_index q robot) (sym from_is) ∙ ap (λ (t : ℕ). slice_index (at (t - 1)) robot) (sym when);
          there = to ∙ ap (λ (q : List ℕ). slice_index q robot) (sym (last_at f.time when));
        }

    pub failed_now : (f : PlanFault) → f.time ≡ length places → IsFirstFault m last place f.fault → f.from ≡ slice_index last (robot_at_fault f.fault) → f.to ≡ slice_index place (robot_at_fault f.fault)
        → HasFailed m (places ++ place ∷ []) f
    failed_now f when first from to =
        let size = length_more places place in
        let before : f.time ≡ length places - 1 + 1 = omega (arith, when, some) in
        let next : length places - 1 + 1 ≡ length places = omega (arith, some) in
        record {
          inside = omega (arith, when, size);
          first = inr (
            length places - 1,
            before,
            record {
              starts = subst (λ (q : List ℕ). IsPlacement m q) (sym starts_are) was.starts;
              before = steps_along (length places - 1) (omega (arith, some)) was.steps;
              inside = omega (arith, some, size);
              first =
                  subst (λ (q : List ℕ). IsFirstFault m q (place_at (places ++ place ∷ []) (length places - 1 + 1)) f.fault) (sym from_is)
                  (subst (λ (q : List ℕ). IsFirstFault m last q f.fault) (sym (last_at (length places - 1 + 1) next)) first);
            },
          );
          cells = cells_now f when from to;
        }

-- what was at fault stays at fault, whatever comes after
module _ (m : Floor) (places more : List (List ℕ)) where
  still_at : (t : ℕ) → t < length places → place_at (places ++ more) t ≡ place_at places t
  still_at t less = get_or_append_left places more [] t less

  still_free : (n : ℕ) → n < length places → AreStepsFree m places n → AreStepsFree m (places ++ more) n
  still_free n inner free = λ t less.
      subst (λ (q : List ℕ). IsConflictFree m q (place_at (places ++ more) (t + 1))) (sym (still_at t (omega (arith, less, inner))))
      (subst (λ (q : List ℕ). IsConflictFree m (place_at places t) q) (sym (still_at (t + 1) (omega (arith, less, inner)))) (free t less))

  cells_stay : (f : PlanFault) → f.time < length places → HasCells places f → HasCells (places ++ more) f
  cells_stay f inside was = record {
    before = was.before ∙ ap (λ (q : List ℕ). slice_index q (robot_at_fault f.fault)) (sym (still_at (f.time - 1) (omega (arith, inside))));
    there = was.there ∙ ap (λ (q : List ℕ). slice_index q (robot_at_fault f.fault)) (sym (still_at f.time inside));
  }

  pub failed_more : (f : PlanFault) → HasFailed m places f → HasFailed m (places ++ more) f
  failed_more f was =
      let some : 0 < length places = omega (arith, was.inside) in
      record {
        inside = omega (arith, was.inside, length-append places more);
        first = elim was.first [
          | inl p ↦ inl (p.0, subst (λ (q : List ℕ). IsPlacementFault m q f.fault) (sym (still_at 0 some)) p.1)
          | inr p ↦
              let step = p.2 in
              let inner : p.0 < length places = omega (arith, step.inside) in
              inr (
                p.0,
                p.1,
                record {
                  starts = subst (λ (q : List ℕ). IsPlacement m q) (sym (still_at 0 some)) step.starts;
                  before = still_free p.0 inner step.before;
                  inside = omega (arith, step.inside, length-append places more);
                  first =
                      subst (λ (q : List ℕ). IsFirstFault m q (place_at (places ++ more) (p.0 + 1)) f.fault) (sym (still_at p.0 inner))
                      (subst (λ (q : List ℕ). IsFirstFault m (place_at places p.0) q f.fault) (sym (still_at (p.0 + 1) step.inside)) step.first);
                },
              )
        ];
        cells = cells_stay f was.inside was.cells;
      }

-- a judge that has found a fault and keeps nothing, before and after it counts more placements
module _ (m : Floor) (places more : List (List ℕ)) (old new : Judged) (was : HasJudged m places old) (on : new.floor ≡ old.floor) (counted : new.count ≡ old.count + length more) where
  pub judged_over : (fault : Option PlanFault) → old.fault ≡ fault → IsSome fault → new.fault ≡ fault → new.kept ≡ None → HasJudged m (places ++ more) new
  judged_over None before some after none = absurd (false≢true some)
  judged_over (Some f) before some after none = record {
    on = on ∙ was.on;
    count_is = counted ∙ omega (arith, was.count_is, length-append places more);
    so_far =
        subst (λ (o : Option PlanFault). IsSoFar m (places ++ more) new.first new.last new.costs o) (sym after)
        (failed_more m places more f (subst (λ (o : Option PlanFault). IsSoFar m places old.first old.last old.costs o) before was.so_far));
    keeps = subst (λ (o : Option (List (List ℕ))). AreKept o (places ++ more)) (sym none) tt;
  }

-- what is kept grows with what was given
pub kept_more : (kept : Option (List (List ℕ))) (places : List (List ℕ)) (place : List ℕ) → AreKept kept places → AreKept (option_map (λ (ps : List (List ℕ)). ps ++ place ∷ []) kept) (places ++ place ∷ [])
kept_more None places place are = tt
kept_more (Some kept) places place are = ap (λ (ps : List (List ℕ)). ps ++ place ∷ []) are

-- a judge before and after it takes one more placement
module _ (m : Floor) (places : List (List ℕ)) (place : List ℕ) (old new : Judged) (was : HasJudged m places old) (on : new.floor ≡ old.floor) (counted : new.count ≡ old.count + 1)
    (grown : new.kept ≡ option_map (λ (ps : List (List ℕ)). ps ++ place ∷ []) old.kept) where
  count_more : new.count ≡ length (places ++ place ∷ [])
  count_more = omega (arith, counted, was.count_is, length_more places place)

  so_far_is : (fault : Option PlanFault) → old.fault ≡ fault → IsSoFar m places old.first old.last old.costs fault
  so_far_is fault is = subst (λ (o : Option PlanFault). IsSoFar m places old.first old.last old.costs o) is was.so_far

  judged_by : (fault : Option PlanFault) → new.fault ≡ fault → IsSoFar m (places ++ place ∷ []) new.first new.last new.costs fault → HasJudged m (places ++ place ∷ []) new
  judged_by fault is far = record {
    on = on ∙ was.on;
    count_is = count_more;
    so_far = subst (λ (o : Option PlanFault). IsSoFar m (places ++ place ∷ []) new.first new.last new.costs o) (sym is) far;
    keeps = subst (λ (o : Option (List (List ℕ))). AreKept o (places ++ place ∷ [])) (sym grown) (kept_more old.kept places place was.keeps);
  }

  pub judged_on : (f : PlanFault) → old.fault ≡ Some f → new.fault ≡ Some f → HasJudged m (places ++ place ∷ []) new
  judged_on f before after = judged_by (Some f) after (failed_more m places (place ∷ []) f (so_far_is (Some f) before))

  pub judged_at_fault : (f : PlanFault) → 1 ≤ old.count → old.fault ≡ None → new.fault ≡ Some f → f.time ≡ old.count → IsFirstFault old.floor old.last place f.fault
      → f.from ≡ slice_index old.last (robot_at_fault f.fault) → f.to ≡ slice_index place (robot_at_fault f.fault) → HasJudged m (places ++ place ∷ []) new
  judged_at_fault f some before after when first from to =
      judged_by (Some f) after
      (failed_now m places place old.first old.last old.costs (omega (arith, some, was.count_is)) (so_far_is None before) f (when ∙ was.count_is)
      (subst (λ (x : Floor). IsFirstFault x old.last place f.fault) was.on first) from to)

  pub judged_free : 1 ≤ old.count → old.fault ≡ None → new.fault ≡ None → new.first ≡ old.first → new.last ≡ place → IsConflictFree old.floor old.last place → length new.costs ≡ length old.costs
      → ((r : ℕ) → r < length old.costs → IsNoted old.last place old.count r (slice_index old.costs r) (slice_index new.costs r)) → HasJudged m (places ++ place ∷ []) new
  judged_free some before after first last free count noted =
      let noted_then : (r : ℕ) → r < length old.costs → IsNoted old.last place (length places) r (slice_index old.costs r) (slice_index new.costs r) =
      subst (λ (t : ℕ). (r : ℕ) → r < length old.costs → IsNoted old.last place t r (slice_index old.costs r) (slice_index new.costs r)) was.count_is noted in
      let passed = passed_more m places place old.first old.last old.costs (omega (arith, some, was.count_is)) (so_far_is None before) new.costs
      (subst (λ (x : Floor). IsConflictFree x old.last place) was.on free) count noted_then in
      judged_by None after (subst (λ (p : List ℕ). HasPassed m (places ++ place ∷ []) new.first p new.costs) (sym last)
      (subst (λ (q : List ℕ). HasPassed m (places ++ place ∷ []) q place new.costs) (sym first) passed))

-- what is known of a judge is known of its fields
pub known : (m : Floor) (places : List (List ℕ)) (inside judge : Judged) → inside ≡ judge → HasJudged m places judge → HasJudged m places inside
known m places inside judge is was = subst (λ (j : Judged). HasJudged m places j) (sym is) was
