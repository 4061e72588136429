-- The part of a fleet, and its goals.
use Rattle.std.proofs.Common.{◌≡◌, inl, inr, ℕ, ◌<◌, List, length, arith, rules, refl, sym, subst, ap, ◌∙◌}
use Rattle.std.specs.Prelude.{slice_index, slice_get, slice_index_or, Option, Some, None, IsSome, MatchOption}
use Rattle.std.specs.Option.{option_map, option_and_then}
use Rattle.std.proofs.Common.{set, get_or, take, ◌++◌}
use Rattle.std.proofs.Math.Seq.{take-append_seam}
use Rattle.std.proofs.lemmas.List.{length-set, get_or-set_same, get_or-set_other}
use Rattle.std.proofs.lemmas.Bool.{cases_eq}
use Rattle.std.proofs.lemmas.Option.{slice_get_cases, slice_get-get_or}
use Rattle.fleet_grid.specs.Floor.{Floor, IsFloor, IsNeighbour}
use Rattle.fleet_grid.specs.Step.{IsPlacement, IsConflictFree}
use Rattle.fleet_grid.specs.Distance.{distance}
use Rattle.fleet_grid.specs.Walk.{AreJoined, AreApart, IsDistance}
use Rattle.fleet_grid.proofs.Edges.{neighbour_back}
use Rattle.fleet_grid.proofs.Walks.{joined_on, joined_back, joined_by_edge}
use Rattle.fleet_grid.proofs.Shortest.{distance_is, no_distance}
use Rattle.fleet_grid.proofs.Least.{none_or_some}
use Rattle.fleet_field.specs.Field.{Aim}
use Rattle.fleet_pibt.specs.Goals.{AreGoals}
use Rattle.bench.specs.Fleet.{IsWithin, AreWithin, Serves, IsUnderWay, field_of, goal_of, distance_of}

some_is : {A : Type 0} (o : Option A) (x : A) → o ≡ Some x → IsSome o
some_is o x e = subst (λ (p : Option _). IsSome p) (sym e) refl

none_is_not : {A : Type 0} (o : Option A) → o ≡ None → IsSome o → ⊥
none_is_not None e some = search (rules, some)
none_is_not (Some x) e some = search (rules, e)

pub within_joined : (m : Floor) (home c : ℕ) → IsWithin m home c → AreJoined (IsNeighbour m) c home
within_joined m home c it = elim (none_or_some (distance m c home)) [
  | inl none ↦ absurd (none_is_not (distance m c home) none it.joined)
  | inr h ↦ (let walk = (distance_is m c home h.0 h.1).walk in record { steps = walk.0; walk = walk.1 })
]

pub joined_within : (m : Floor) (home c : ℕ) → IsFloor m c → AreJoined (IsNeighbour m) c home → IsWithin m home c
joined_within m home c floor it = record {
  on_floor = floor;
  joined = elim (none_or_some (distance m c home)) [
    | inl none ↦ absurd (no_distance m c home floor none it.steps it.walk)
    | inr h ↦ some_is (distance m c home) h.0 h.1
  ];
}

-- a step keeps robots in their part
pub stepped_within : (m : Floor) (home : ℕ) (from to : List ℕ) → AreWithin m home from → IsConflictFree m from to → AreWithin m home to
stepped_within m home from to within step r small =
    let small' : r < length from = omega (arith, step.same_length) in
    let was = within_joined m home (slice_index from r) (within r small') in
    joined_within m home (slice_index to r) (step.on_floor r small') (elim (step.moves r small') [
      | inl e ↦ subst (λ (c : ℕ). AreJoined (IsNeighbour m) c home) (sym e) was
      | inr edge ↦ joined_by_edge (IsNeighbour m) (slice_index to r) (slice_index from r) home (neighbour_back m (slice_index from r) (slice_index to r) edge) was
    ])

pub stepped_placed : (m : Floor) (from to : List ℕ) → IsConflictFree m from to → IsPlacement m to
stepped_placed m from to step = record {
  on_floor = λ r small. step.on_floor r (omega (arith, step.same_length));
  distinct = λ i j less small. step.no_vertex_conflict i j less (omega (arith, step.same_length));
}

-- each robot has a field
field_there : (fields : List Aim) (aims : List ℕ) (r : ℕ) → r < length aims → slice_index aims r < length fields
    → (field : Aim) × (slice_get fields (slice_index aims r) ≡ Some field) × (field_of fields aims r ≡ Some field)
field_there fields aims r small inside = elim (slice_get_cases fields (slice_index aims r)).1 [
  | inl h ↦ (h.0, h.2, ap (λ (o : Option ℕ). option_and_then (λ k. slice_get fields k) o) (slice_get-get_or aims r 0 small) ∙ h.2)
  | inr h ↦ absurd (omega (arith, h.0, inside))
]

pub goals_are : (m : Floor) (home : ℕ) (fields : List Aim) (from to : List ℕ) (waits : List (Option ℕ)) (aims : List ℕ)
    → Serves m home fields → IsUnderWay m home (length fields) from to waits aims → AreGoals m from waits (goal_of fields aims) (distance_of fields aims)
goals_are m home fields from to waits aims serves way = record {
  waited = λ r small. (λ some. way.waits_of r small, λ some. goal_there r small);
  reached = λ r g small is. reached r g small is;
  measured = λ r g c small is floor. measured r g c small is;
}
  where
    field_at : (r : ℕ) → r < length from → (field : Aim) × (slice_get fields (slice_index aims r) ≡ Some field) × (field_of fields aims r ≡ Some field)
    field_at r small = field_there fields aims r (omega (arith, way.aimed)) (way.aim_of r small)

    goal_is : (r : ℕ) (small : r < length from) → goal_of fields aims r ≡ Some (field_at r small).0.goal
    goal_is r small = ap (λ (o : Option Aim). option_map (λ (field : Aim). field.goal) o) (field_at r small).2

    goal_there : (r : ℕ) → r < length from → IsSome (goal_of fields aims r)
    goal_there r small = some_is (goal_of fields aims r) (field_at r small).0.goal (goal_is r small)

    one : (a b : ℕ) → Some a ≡ Some b → a ≡ b
    one a b e = search (rules, e)

    goal_same : (r g : ℕ) (small : r < length from) → goal_of fields aims r ≡ Some g → (field_at r small).0.goal ≡ g
    goal_same r g small is = one (field_at r small).0.goal g (sym (goal_is r small) ∙ is)

    reached : (r g : ℕ) → r < length from → goal_of fields aims r ≡ Some g → AreJoined (IsNeighbour m) (slice_index from r) g
    reached r g small is =
        let at = field_at r small in
        let back = joined_back (IsNeighbour m) (neighbour_back m) at.0.goal home (within_joined m home at.0.goal (serves.within (slice_index aims r) at.0 at.1)) in
        subst (λ (x : ℕ). AreJoined (IsNeighbour m) (slice_index from r) x) (goal_same r g small is)
        (joined_on (IsNeighbour m) (slice_index from r) home at.0.goal (within_joined m home (slice_index from r) (way.within r small)) back)

    distance_is_of : (r c : ℕ) (small : r < length from) → distance_of fields aims r c ≡ slice_index_or (field_at r small).0.away c None
    distance_is_of r c small = ap (λ (o : Option Aim). option_and_then (λ (field : Aim). slice_index_or field.away c None) o) (field_at r small).2

    measured : (r g c : ℕ) → r < length from → goal_of fields aims r ≡ Some g
        → MatchOption (distance_of fields aims r c) (AreApart (IsNeighbour m) c g) (IsDistance (IsNeighbour m) c g)
    measured r g c small is =
        let at = field_at r small in
        subst (λ (x : ℕ). MatchOption (distance_of fields aims r c) (AreApart (IsNeighbour m) c x) (IsDistance (IsNeighbour m) c x)) (goal_same r g small is)
        (subst (λ (o : Option ℕ). MatchOption o (AreApart (IsNeighbour m) c at.0.goal) (IsDistance (IsNeighbour m) c at.0.goal)) (sym (distance_is_of r c small))
        ((serves.each (slice_index aims r) at.0 at.1).each c))

-- after a step the fleet is under way from its new cells
pub stepped_way : (m : Floor) (home fields : ℕ) (from to to' : List ℕ) (waits : List (Option ℕ)) (aims : List ℕ)
    → IsUnderWay m home fields from to waits aims → IsConflictFree m from to' → IsUnderWay m home fields to' from waits aims
stepped_way m home fields from to to' waits aims way step = record {
  placed = stepped_placed m from to' step;
  few = omega (arith, way.few, step.same_length);
  next = sym step.same_length;
  waited = way.waited ∙ sym step.same_length;
  aimed = way.aimed ∙ sym step.same_length;
  within = stepped_within m home from to' way.within step;
  waits_of = λ r small. way.waits_of r (omega (arith, step.same_length));
  aim_of = λ r small. way.aim_of r (omega (arith, step.same_length));
}

-- the goals of a fleet, read from the lists that were lent
pub goals_for : (m : Floor) (home : ℕ) (fields : List Aim) (from to from' : List ℕ) (waits waits' : List (Option ℕ)) (aims aims' : List ℕ)
    → from' ≡ from → waits' ≡ waits → aims' ≡ aims → Serves m home fields → IsUnderWay m home (length fields) from to waits aims
    → AreGoals m from' waits' (goal_of fields aims') (distance_of fields aims')
goals_for m home fields from to from' waits waits' aims aims' e f h serves way =
    goals_are m home fields from' to waits' aims' serves
    (subst (λ (x : List ℕ). IsUnderWay m home (length fields) x to waits' aims') (sym e)
    (subst (λ (x : List (Option ℕ)). IsUnderWay m home (length fields) from to x aims') (sym f)
    (subst (λ (x : List ℕ). IsUnderWay m home (length fields) from to waits x) (sym h) way)))

pub way_for : (m : Floor) (home fields : ℕ) (from to from' to' x y : List ℕ) (waits : List (Option ℕ)) (aims : List ℕ)
    → from' ≡ from → x ≡ to' → y ≡ from → IsUnderWay m home fields from to waits aims → IsConflictFree m from' to' → IsUnderWay m home fields x y waits aims
way_for m home fields from to from' to' x y waits aims e f h way step =
    subst (λ (z : List ℕ). IsUnderWay m home fields z y waits aims) (sym f)
    (subst (λ (z : List ℕ). IsUnderWay m home fields to' z waits aims) (sym h)
    (stepped_way m home fields from to to' waits aims way (subst (λ (z : List ℕ). IsConflictFree m z to') e step)))

-- one robot has a new field and a new wait
pub way_set : (m : Floor) (home fields : ℕ) (from to : List ℕ) (waits : List (Option ℕ)) (aims : List ℕ) (r aim : ℕ) (wait : Option ℕ)
    → IsUnderWay m home fields from to waits aims → aim < fields → IsSome wait → IsUnderWay m home fields from to (set waits r wait) (set aims r aim)
way_set m home fields from to waits aims r aim wait way small some = record {
  placed = way.placed;
  few = way.few;
  next = way.next;
  waited = length-set waits r wait ∙ way.waited;
  aimed = length-set aims r aim ∙ way.aimed;
  within = way.within;
  waits_of = λ q inside. elim (cases_eq q r) [
    | inl e ↦ subst (λ (i : ℕ). IsSome (get_or (set waits i wait) q None)) e (subst (λ (o : Option ℕ). IsSome o) (sym (get_or-set_same waits q wait None (omega (arith, way.waited)))) some)
    | inr ne ↦ subst (λ (o : Option ℕ). IsSome o) (sym (get_or-set_other waits r q wait None ne)) (way.waits_of q inside)
  ];
  aim_of = λ q inside. elim (cases_eq q r) [
    | inl e ↦ subst (λ (i : ℕ). get_or (set aims i aim) q 0 < fields) e (subst (λ (a : ℕ). a < fields) (sym (get_or-set_same aims q aim 0 (omega (arith, way.aimed)))) small)
    | inr ne ↦ subst (λ (a : ℕ). a < fields) (sym (get_or-set_other aims r q aim 0 ne)) (way.aim_of q inside)
  ];
}

pub seam : (n : ℕ) (xs ys : List ℕ) → n ≡ length xs → take n (xs ++ ys) ≡ xs
seam n xs ys e = subst (λ (k : ℕ). take k (xs ++ ys) ≡ xs) (sym e) (take-append_seam xs ys)
