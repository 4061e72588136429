-- Planned ticks advance where errands go to roomy cells.
use Rattle.std.proofs.Common.{◌≡◌, ℕ, ◌<◌, ◌≤◌, inl, inr, List, [], ◌∷◌, ◌++◌, length, map, Some, not, sym, ap, subst, ◌∙◌, arith}
use Rattle.std.specs.Prelude.{slice_index, slice_get, All}
use Rattle.std.specs.List.{range_with_len, flat_map}
use Rattle.std.proofs.Math.ListN.{get_or-append}
use Rattle.std.proofs.lemmas.Grind.{flat_map-append}
use Rattle.std.proofs.lemmas.Bool.{cases_lt}
use Rattle.std.proofs.lemmas.List.{append_assoc, append-nil, get_or_past, length-append, length-map}
use Rattle.std.proofs.lemmas.List.Elements.{All-drop, All-filter}
use Rattle.std.proofs.lemmas.List.FromFn.{length-range_with_len}
use Rattle.fleet_grid.specs.Floor.{Floor, IsNeighbour}
use Rattle.fleet_grid.specs.Walk.{IsRoomy, IsBridgeless}
use Rattle.fleet_hooks.specs.declared.law.TieLaw.{TieLaw}
use Rattle.fleet_queue.specs.declared.errand.Errand.{Errand}
use Rattle.fleet_history.specs.declared.history.Entry.{Entry}
use Rattle.fleet_history.specs.declared.history.Entry.TheVariants.{Tick}
use Rattle.fleet_history.specs.History.{History, start, with_entries, robots, place, joined, accepted, unfinished, arrivals, is_withdrawn, errands_at, accepted_by}
use Rattle.fleet_history.specs.Laws.{EachTick}
use Rattle.fleet_history.specs.Legal.{IsLegal}
use Rattle.fleet_history.specs.Next.{next_opening}
use Rattle.fleet_history.specs.Waits.{wait}
use Rattle.fleet_history.proofs.Legal.{length-place}
use Rattle.fleet_history.proofs.Next.{next-robots, next-errands}
use Rattle.fleet_history.proofs.Places.{legal-before}
use Rattle.fleet_pibt.specs.Advancing.{HasWayAhead}
use Rattle.fleet_pibt.specs.Eldest.{IsEldest}
use Rattle.fleet_pibt.proofs.Roomy.{roomy-way}
use Rattle.fleet_planner.specs.Planned.{waits, goals, goal_of, IsPlanned, IsAdvancingTick}
use Rattle.fleet_planner.proofs.Goals.{planned-way}
use Rattle.fleet_bound.specs.Onward.{onward, GoesOn}
use Rattle.fleet_bound.specs.Roomy.{AreRoomy, EldestIsRoomy, HasBound}
use Rattle.fleet_bound.proofs.Moments.{goal-front}

-- one tick
pub roomy-tick : {A : Type 0} (m : Floor) (ties : List TieLaw) (h : History A) (to : List ℕ) → IsLegal m h → IsPlanned m ties h to → EldestIsRoomy m h → IsAdvancingTick m h to
roomy-tick m ties h to legal planned roomy = planned-way m ties (waits h) (goals h) (place h) to way planned
  where
    way : (e g : ℕ) → IsEldest (waits h) e → goal_of (goals h) e ≡ Some g → HasWayAhead m (place h) g (slice_index (place h) e)
    way e g eldest is =
        let count : length (waits h) ≡ robots h = length-map (range_with_len 0 (robots h)) (wait h) ∙ length-range_with_len 0 (robots h) in
        let known : e < robots h = omega (arith, eldest.known, count) in
        let all : length (place h) ≡ robots h = length-place m h legal in
        let f = goal-front m h e g known is in
        let room : IsRoomy (IsNeighbour m) (robots h) g = subst (IsRoomy (IsNeighbour m) (robots h)) f.2 (roomy e f.0 eldest f.1) in
        roomy-way m (place h) e g (omega (arith, known, all)) (subst (λ (n : ℕ). IsRoomy (IsNeighbour m) n g) (sym all) room)

-- a robot's unfinished errands go where those that joined its queue go
abbrev pub IsRoomyFor : Floor → ℕ → Errand → Type 0
IsRoomyFor m n x = IsRoomy (IsNeighbour m) n x.cell

pub roomy-unfinished : {A : Type 0} (m : Floor) (h : History A) (r : ℕ) → AreRoomy m h → All (IsRoomyFor m (robots h)) (unfinished h r)
roomy-unfinished m h r roomy =
    All-drop (IsRoomyFor m (robots h)) (length (arrivals h r)) (accepted h r)
    (All-filter (λ y. not (is_withdrawn h y)) (IsRoomyFor m (robots h)) (joined h r) (roomy r))

pub head-all : (P : Errand → Type 0) (xs : List Errand) (x : Errand) → All P xs → slice_get xs 0 ≡ Some x → P x
head-all P [] x all e = absurd (cc (e))
head-all P (y ∷ ys) x all e = let same : y ≡ x = cc (e) in subst P same (all 0 y (omega arith))

-- what joined is what was accepted, what is unfinished, and the front
pub roomy-eldest : {A : Type 0} (m : Floor) (h : History A) → AreRoomy m h → EldestIsRoomy m h
roomy-eldest m h roomy e x eldest is = head-all (IsRoomyFor m (robots h)) (unfinished h e) x (roomy-unfinished m h e roomy) is

pub first-all : (P : Errand → Type 0) (xs ys : List Errand) → All P (xs ++ ys) → All P xs
first-all P xs ys all k d l = subst P (get_or-append xs ys d k l) (all k d (omega (arith, l, length-append xs ys)))

pub joined-more : {A : Type 0} (h : History A) (before behind : List (Entry A)) (r : ℕ) → h.entries ≡ before ++ behind → joined h r ≡ joined (with_entries h before) r ++ flat_map (accepted_by r) behind
joined-more h before behind r q =
    ap (λ es. errands_at h.opening r ++ flat_map (accepted_by r) es) q
    ∙ ap (λ xs. errands_at h.opening r ++ xs) (flat_map-append (accepted_by r) before behind)
    ∙ sym (append_assoc (errands_at h.opening r) (flat_map (accepted_by r) before) (flat_map (accepted_by r) behind))

-- a beginning of a roomy history is roomy
pub roomy-before : {A : Type 0} (m : Floor) (h : History A) (before behind : List (Entry A)) → h.entries ≡ before ++ behind → AreRoomy m h → AreRoomy m (with_entries h before)
roomy-before m h before behind q roomy r =
    first-all (λ (y : Errand). IsRoomy (IsNeighbour m) (robots h) y.cell) (joined (with_entries h before) r) (flat_map (accepted_by r) behind)
    (subst (All (λ (y : Errand). IsRoomy (IsNeighbour m) (robots h) y.cell)) (joined-more h before behind r q) (roomy r))

-- each tick of a roomy history advances
pub roomy-ticks : {A : Type 0} (m : Floor) (ties : List TieLaw) (h : History A) → IsLegal m h → EachTick (IsPlanned m ties) h → AreRoomy m h → EachTick (IsAdvancingTick m) h
roomy-ticks m ties h legal planned roomy before behind to arrived farewells q =
    roomy-tick m ties (with_entries h before) to (legal-before m h before (Tick to arrived farewells ∷ behind) legal q)
    (planned before behind to arrived farewells q)
    (roomy-eldest m (with_entries h before) (roomy-before m h before (Tick to arrived farewells ∷ behind) q roomy))

-- a history goes on by advancing ticks if its errands, with the new ones, are roomy
pub roomy-onward : {A : Type 0} (m : Floor) (ties : List TieLaw) (h : History A) (more : List (Entry A)) → IsLegal m (onward h more) → EachTick (IsPlanned m ties) (onward h more) → AreRoomy m (onward h more) → GoesOn m h more
roomy-onward m ties h more legal planned roomy = record {
  legal = legal;
  advancing = λ before behind to arrived farewells q. roomy-ticks m ties (onward h more) legal planned roomy (h.entries ++ before) behind to arrived farewells
      (ap (λ es. h.entries ++ es) q ∙ sym (append_assoc h.entries before (Tick to arrived farewells ∷ behind)));
}

pub roomy-bridgeless : {A : Type 0} (m : Floor) (h : History A) → IsBridgeless (IsNeighbour m) → AreRoomy m h
roomy-bridgeless m h none r k d l a b bridge side = absurd (none a b bridge)

pub bound-bridgeless : {A : Type 0} (m : Floor) (h : History A) → IsBridgeless (IsNeighbour m) → HasBound m h
bound-bridgeless m h none = record { roomy = roomy-bridgeless m h none; begins = inl none }

-- the errands that the next chapter begins with are among those of this one
pub roomy-next : {A : Type 0} (m : Floor) (h : History A) → AreRoomy m h → AreRoomy m (start (next_opening h))
roomy-next m h roomy r = subst (λ (n : ℕ). All (λ (y : Errand). IsRoomy (IsNeighbour m) n y.cell) (joined (start (next_opening h)) r)) (sym (next-robots h)) (elim (cases_lt r (robots h)) [
  | inl known ↦ subst (All (IsRoomyFor m (robots h))) (sym (append-nil (errands_at (next_opening h) r) ∙ next-errands h r known)) (roomy-unfinished m h r roomy)
  | inr past ↦ subst (All (IsRoomyFor m (robots h))) (sym (append-nil (errands_at (next_opening h) r) ∙ no-errands past)) (λ k d l. absurd (omega (arith, l)))
])
  where
    no-errands : robots h ≤ r → errands_at (next_opening h) r ≡ []
    no-errands past = get_or_past (map (λ x. x.errands) (next_opening h).robots) r [] (omega (arith, past, next-robots h, length-map (next_opening h).robots (λ x. x.errands)))
