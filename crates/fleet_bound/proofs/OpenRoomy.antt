-- Planned ticks advance while each unfinished errand goes to a roomy cell, whatever was done before.
use Rattle.std.proofs.Common.{◌≡◌, ℕ, ◌<◌, ◌≤◌, inl, inr, List, [], ◌∷◌, ◌++◌, length, map, false, sym, refl, ap, subst, ◌∙◌, arith}
use Rattle.std.specs.Prelude.{All}
use Rattle.std.specs.List.{range_with_len, flat_map}
use Rattle.std.proofs.lemmas.Bool.{cases_lt}
use Rattle.std.proofs.lemmas.Grind.{flat_map-append}
use Rattle.std.proofs.lemmas.List.{append_assoc, append-nil, get_or_past, length-map}
use Rattle.std.proofs.lemmas.List.Elements.{All-append, All-drop, All-head, All-nil, All-tail}
use Rattle.std.proofs.lemmas.List.FromFn.{length-range_with_len}
use Rattle.fleet_grid.specs.Counts.{floor_count}
use Rattle.fleet_grid.specs.Floor.{Floor}
use Rattle.fleet_hooks.specs.declared.law.TieLaw.{TieLaw}
use Rattle.fleet_queue.specs.declared.errand.Errand.{Errand}
use Rattle.fleet_history.specs.declared.history.Entry.{Entry}
use Rattle.fleet_history.specs.declared.history.Entry.TheVariants.{Take, Tick, Shut}
use Rattle.fleet_history.specs.declared.history.Opening.{Opening}
use Rattle.fleet_history.specs.declared.history.RobotState.{RobotState}
use Rattle.fleet_history.specs.History.{History, start, after, robots, front, joined, unfinished, errands_at, errand_for, accepted_by}
use Rattle.fleet_history.specs.Laws.{EachTick}
use Rattle.fleet_history.specs.Legal.{IsInOrder, IsLegal, Fits}
use Rattle.fleet_history.specs.Taking.{kept_by}
use Rattle.fleet_history.specs.Waits.{wait}
use Rattle.fleet_history.specs.inside.Landing.{landed}
use Rattle.fleet_history.proofs.Arrivals.{kept-all, unfinished-after_take, unfinished-after_tick, unfinished-after_shut}
use Rattle.fleet_history.proofs.Places.{legal-before}
use Rattle.fleet_history.proofs.Withdrawals.{unfinished-start}
use Rattle.fleet_planner.specs.Planned.{waits, IsPlanned}
use Rattle.fleet_bound.specs.Idle.{idle_ticks, longest_after}
use Rattle.fleet_bound.specs.Onward.{onward, GoesOn, TakesNothing, is_take}
use Rattle.fleet_bound.specs.Roomy.{AreRoomy, AreOpenRoomy, AreNewRoomy, EldestIsRoomy, HasBound, IsIdleByPlan}
use Rattle.fleet_bound.proofs.BoundLaws.{bound-empty}
use Rattle.fleet_bound.proofs.Queues.{fleet-idles}
use Rattle.fleet_bound.proofs.Roomy.{IsRoomyFor, roomy-unfinished, roomy-tick, head-all, first-all, joined-more}
use Rattle.fleet_bound.proofs.Runs.{moved_over, legal_at, fits_at, one_on}

-- ---- lists

last-all : (P : Errand → Type 0) (xs ys : List Errand) → All P (xs ++ ys) → All P ys
last-all P [] ys all = all
last-all P (x ∷ xs) ys all = last-all P xs ys (All-tail P x (xs ++ ys) all)

-- new errands are those of the first entries, and those of the others
new-first : {A : Type 0} (m : Floor) (n : ℕ) (es fs : List (Entry A)) → AreNewRoomy m n (es ++ fs) → AreNewRoomy m n es
new-first m n es fs new r = first-all (IsRoomyFor m n) (flat_map (accepted_by r) es) (flat_map (accepted_by r) fs) (subst (All (IsRoomyFor m n)) (flat_map-append (accepted_by r) es fs) (new r))

new-rest : {A : Type 0} (m : Floor) (n : ℕ) (es fs : List (Entry A)) → AreNewRoomy m n (es ++ fs) → AreNewRoomy m n fs
new-rest m n es fs new r = last-all (IsRoomyFor m n) (flat_map (accepted_by r) es) (flat_map (accepted_by r) fs) (subst (All (IsRoomyFor m n)) (flat_map-append (accepted_by r) es fs) (new r))

-- where no order is taken there are none
new-none : {A : Type 0} (m : Floor) (n : ℕ) (es : List (Entry A)) → TakesNothing es → AreNewRoomy m n es
new-none m n [] none r = All-nil (IsRoomyFor m n)
new-none m n (Take c order v ∷ es) none r = absurd (let taken = All-head (λ e. is_take e ≡ false) (Take c order v) es none in cc (taken))
new-none m n (Tick to arrived farewells ∷ es) none r = new-none m n es (All-tail (λ e. is_take e ≡ false) (Tick to arrived farewells) es none) r
new-none m n (Shut robot farewell ∷ es) none r = new-none m n es (All-tail (λ e. is_take e ≡ false) (Shut robot farewell) es none) r

-- ---- one moment

pub open-roomy : {A : Type 0} (m : Floor) (h : History A) → AreRoomy m h → AreOpenRoomy m h
open-roomy m h roomy r l = roomy-unfinished m h r roomy

open-eldest : {A : Type 0} (m : Floor) (h : History A) → AreOpenRoomy m h → EldestIsRoomy m h
open-eldest m h have e x eldest is =
    let count : length (waits h) ≡ robots h = length-map (range_with_len 0 (robots h)) (wait h) ∙ length-range_with_len 0 (robots h) in
    head-all (IsRoomyFor m (robots h)) (unfinished h e) x (have e (omega (arith, eldest.known, count))) is

-- ---- one more entry

open-entry : {A : Type 0} (m : Floor) (h : History A) (e : Entry A) → IsLegal m h → Fits m h e → AreOpenRoomy m h → AreNewRoomy m (robots h) (e ∷ []) → AreOpenRoomy m (after h e)
open-entry m h (Take c order v) legal fits have new r l =
    let P : Errand → Type 0 = IsRoomyFor m (robots h) in
    subst (All P) (sym (unfinished-after_take m h c order v r legal fits.1 l))
    (All-append P (kept_by c order v (unfinished h r)) (errand_for r c order v)
    (kept-all m h c order v r P legal fits.1 l (have r l)) (subst (All P) (append-nil (errand_for r c order v)) (new r)))
open-entry m h (Tick to arrived farewells) legal fits have new r l =
    subst (All (IsRoomyFor m (robots h))) (sym (unfinished-after_tick h to arrived farewells r l fits.shows))
    (All-drop (IsRoomyFor m (robots h)) (length (landed to r (front h r))) (unfinished h r) (have r l))
open-entry m h (Shut robot farewell) legal fits have new r l =
    subst (All (IsRoomyFor m (robots h))) (sym (unfinished-after_shut h robot farewell r)) (have r l)

-- ---- a continuation

module _ {A : Type 0} (m : Floor) (h : History A) where
  go : (done rest : List (Entry A)) → IsLegal m (onward h (done ++ rest)) → AreNewRoomy m (robots h) rest → AreOpenRoomy m (onward h done) → AreOpenRoomy m (onward h (done ++ rest))
  go done [] legal new have = subst (λ (es : List (Entry A)). AreOpenRoomy m (onward h es)) (sym (append-nil done)) have
  go done (e ∷ rest) legal new have =
      let over = moved_over m h done e rest in
      let step : AreOpenRoomy m (onward h (done ++ e ∷ [])) = subst (AreOpenRoomy m) (sym (one_on m h done e))
      (open-entry m (onward h done) e (legal_at m h done e rest legal) (fits_at m h done e rest legal) have (new-first m (robots h) (e ∷ []) rest new)) in
      subst (λ (es : List (Entry A)). AreOpenRoomy m (onward h es)) (sym over)
      (go (done ++ e ∷ []) rest (subst (λ (es : List (Entry A)). IsLegal m (onward h es)) over legal) (new-rest m (robots h) (e ∷ []) rest new) step)

  open-onward : (more : List (Entry A)) → IsLegal m (onward h more) → AreOpenRoomy m h → AreNewRoomy m (robots h) more → AreOpenRoomy m (onward h more)
  open-onward more legal have new =
      go [] more legal new (subst (AreOpenRoomy m) (sym (ap (λ (es : List (Entry A)). record { opening = h.opening; entries = es }) (append-nil h.entries))) have)

  pub open-goes : (ties : List TieLaw) (more : List (Entry A)) → IsLegal m (onward h more) → EachTick (IsPlanned m ties) (onward h more) → AreOpenRoomy m h → AreNewRoomy m (robots h) more → GoesOn m h more
  open-goes ties more legal planned have new = record {
    legal = legal;
    advancing = λ before behind to arrived farewells q. (
        let here : h.entries ++ more ≡ (h.entries ++ before) ++ Tick to arrived farewells ∷ behind = ap (λ es. h.entries ++ es) q ∙ sym (append_assoc h.entries before (Tick to arrived farewells ∷ behind)) in
        let now : IsLegal m (onward h before) = legal-before m (onward h more) (h.entries ++ before) (Tick to arrived farewells ∷ behind) legal here in
        let early : AreNewRoomy m (robots h) before = new-first m (robots h) before (Tick to arrived farewells ∷ behind) (subst (AreNewRoomy m (robots h)) q new) in
        roomy-tick m ties (onward h before) to now (planned (h.entries ++ before) behind to arrived farewells here)
        (open-eldest m (onward h before) (open-onward before now have early)));
  }

  pub open-idles : (ties : List TieLaw) → AreOpenRoomy m h → IsIdleByPlan m ties h (idle_ticks (longest_after h) (robots h) (floor_count m))
  open-idles ties have r more known legal planned nothing enough =
      fleet-idles m h r more known (open-goes ties more legal planned have (new-none m (robots h) more nothing)) nothing enough

-- ---- which histories are roomy

-- an opening whose errands are, by robot
pub roomy-start : {A : Type 0} (m : Floor) (o : Opening A) → AreOpenRoomy m (start o) → AreRoomy m (start o)
roomy-start {A = A} m o have r = subst (All (IsRoomyFor m (length o.robots))) (sym (append-nil (errands_at o r))) (elim (cases_lt r (length o.robots)) [
  | inl known ↦ subst (All (IsRoomyFor m (length o.robots))) (unfinished-start o r) (have r known)
  | inr past ↦ subst (All (IsRoomyFor m (length o.robots))) (sym (none past)) (All-nil (IsRoomyFor m (length o.robots)))
])
  where
    none : length o.robots ≤ r → errands_at o r ≡ []
    none past = get_or_past (map (λ (x : RobotState A). x.errands) o.robots) r [] (omega (arith, past, length-map o.robots (λ (x : RobotState A). x.errands)))

-- and a roomy history with more entries that accept only such
pub roomy-more : {A : Type 0} (m : Floor) (h : History A) (more : List (Entry A)) → AreRoomy m h → AreNewRoomy m (robots h) more → AreRoomy m (onward h more)
roomy-more m h more roomy new r =
    subst (All (IsRoomyFor m (robots h))) (sym (joined-more (onward h more) h.entries more r refl))
    (All-append (IsRoomyFor m (robots h)) (joined h r) (flat_map (accepted_by r) more) (roomy r) (new r))

-- where the opening has no errands, nobody has waited yet
pub roomy-fresh : {A : Type 0} (m : Floor) (h : History A) → IsInOrder m h.opening → ((r : ℕ) → r < robots h → errands_at h.opening r ≡ []) → AreRoomy m h → HasBound m h
roomy-fresh m h order empty roomy = record { roomy = roomy; begins = inr (bound-empty m h.opening order empty) }
