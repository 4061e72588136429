-- From one level to the whole search.
use Rattle.std.proofs.Common.{◌≡◌, ◌≢◌, ℕ, ◌+◌, ◌<◌, ◌≤◌, ◌⊎◌, inl, inr, List, [], ◌∷◌, ◌++◌, length, set, get_or, slice_index, take, drop, sym, ap, subst, ◌∙◌, arith}
use Rattle.std.proofs.lemmas.List.{get_or-set_same, length-set, length_push}
use Rattle.std.proofs.lemmas.Grind.{common_steps}
use Rattle.std.proofs.lemmas.List.Elements.{Contains-push, Contains-push_cases}
use Rattle.std.specs.List.{Contains}
use Rattle.fleet_grid.specs.Padded.{IsOpen}
use Rattle.fleet_field.specs.inside.Search.{IsLink, IsWalled, far_count, Search, Keeps, IsStart, AreLevels, SameWalls}
use Rattle.fleet_field.proofs.Visit.{read}
use Rattle.fleet_field.proofs.Spread.{kept, was_open, stays_open, far_count-set, far_count-le}

same_walls : (a b c : List ℕ) → SameWalls a b → SameWalls b c → SameWalls a c
same_walls a b c x y = record {
  len = y.len ∙ x.len;
  kept = λ v o. y.kept v (x.kept v o);
  no_more = λ v o. x.no_more v (y.no_more v o);
}

-- at first the goal alone is reached
module _ (blank : List ℕ) (stride goal : ℕ) (walled : IsWalled blank stride) (all_far : (v : ℕ) → IsOpen blank v → slice_index blank v ≡ 4294967295) (at : IsOpen blank goal) where
  seen : (v : ℕ) → ((v ≡ goal) × (get_or (set blank goal 0) v 0 ≡ 0)) ⊎ ((v ≡ goal → ⊥) × (get_or (set blank goal 0) v 0 ≡ get_or blank v 0))
  seen v = read blank goal 0 v at.0

  len : length (set blank goal 0) ≡ length blank
  len = length-set blank goal 0

  first_open : (v : ℕ) → IsOpen (set blank goal 0) v → IsOpen blank v
  first_open v o = elim (seen v) [
    | inl p ↦ subst (IsOpen blank) (sym p.0) at
    | inr p ↦ (omega (arith, o.0, len), λ w. o.1 (p.1 ∙ w))
  ]

  open_first : (v : ℕ) → IsOpen blank v → IsOpen (set blank goal 0) v
  open_first v o = elim (seen v) [
    | inl p ↦ (omega (arith, o.0, len), λ w. omega (arith, p.1, w))
    | inr p ↦ (omega (arith, o.0, len), λ w. o.1 (sym p.1 ∙ w))
  ]

  pub first_walls : SameWalls blank (set blank goal 0)
  first_walls = record { len = len; kept = open_first; no_more = first_open }

  pub first_start : (goal < length (set blank goal 0)) × (slice_index (set blank goal 0) goal ≡ 0)
  first_start = (omega (arith, at.0, len), get_or-set_same blank goal 0 0 at.0)

  -- what is reached is the goal
  first_only : (v : ℕ) → IsOpen (set blank goal 0) v → slice_index (set blank goal 0) v ≢ 4294967295 → v ≡ goal
  first_only v o near = elim (seen v) [
    | inl p ↦ p.0
    | inr p ↦ absurd (near (p.1 ∙ all_far v (first_open v o)))
  ]

  first_zero : (v : ℕ) → v ≡ goal → slice_index (set blank goal 0) v ≡ 0
  first_zero v e = ap (slice_index (set blank goal 0)) e ∙ first_start.1

  pub only_goal : (v : ℕ) → IsOpen (set blank goal 0) v → slice_index (set blank goal 0) v ≡ 0 → v ≡ goal
  only_goal v o e = first_only v o (λ w. omega (arith, e, w))

  pub first_search : Search (set blank goal 0) stride 0 0 ([] ++ goal ∷ [])
  first_search = record {
    walled = λ v o. (let w = walled v (first_open v o) in (w.0, omega (arith, w.1, len)));
    back = λ v d o near e. (let z = first_zero v (first_only v o near) in absurd (omega (arith, z, e)));
    low = λ v o near. (let z = first_zero v (first_only v o near) in omega (arith, z));
    onward = λ u v l less. absurd (omega (arith, less));
    queued = λ v below e. subst (Contains ([] ++ goal ∷ [])) (sym (first_only v (below, λ w. omega (arith, e, w)) (λ w. omega (arith, e, w)))) (Contains-push [] goal);
    is_level = is_level;
  }
    where
      is_level : (v : ℕ) → Contains ([] ++ goal ∷ []) v → (v < length (set blank goal 0)) × (slice_index (set blank goal 0) v ≡ 0)
      is_level v h = elim (Contains-push_cases [] goal v h) [
        | inl k ↦ absurd (omega (arith, k.1))
        | inr e ↦ (omega (arith, e, first_start.0), first_zero v (sym e))
      ]

  pub first_count : 0 + length ([] ++ goal ∷ []) + far_count (set blank goal 0) ≤ length blank
  first_count =
      let one = length_push [] goal in
      let marked = far_count-set blank goal 0 at.0 (all_far goal at) (omega arith) in
      let few = far_count-le blank in
      omega (arith, one, marked, few)

  pub first_goal : IsStart (set blank goal 0) goal
  first_goal = (first_start, only_goal)

  -- the list and the front as the search has them first
  module _ (dist items front : List ℕ) (copied : items ≡ blank) (d : dist ≡ set items goal 0) (f : front ≡ [] ++ goal ∷ []) where
    marked : dist ≡ set blank goal 0
    marked = d ∙ ap (λ (xs : List ℕ). set xs goal 0) copied

    pub begun_size : length dist ≡ length blank
    begun_size = ap (λ (xs : List ℕ). length xs) marked ∙ len

    pub begun : Search dist stride 0 0 front
    begun = subst (λ (xs : List ℕ). Search xs stride 0 0 front) (sym marked) (subst (Search (set blank goal 0) stride 0 0) (sym f) first_search)

    pub begun_few : length front + far_count dist ≤ length dist
    begun_few = let few = first_count in omega (arith, few, begun_size, ap (λ (xs : List ℕ). length xs) f, ap far_count marked)

    pub begun_goal : IsStart dist goal
    begun_goal = subst (λ (xs : List ℕ). IsStart xs goal) (sym marked) first_goal

    pub begun_walls : (new : List ℕ) → SameWalls dist new → SameWalls blank new
    begun_walls new w = same_walls blank (set blank goal 0) new first_walls (subst (λ (xs : List ℕ). SameWalls xs new) marked w)

-- a list that was lent whole and given back
pub written_back : (n : ℕ) (new old : List ℕ) → length new ≡ length old → n ≡ length old → take n (new ++ drop (length new) old) ≡ new
written_back n new old e f = grind (arith, common_steps)

-- a level keeps the walls and the goal
pub walls_on : (blank old new : List ℕ) (level : ℕ) → level < 4294967294 → SameWalls blank old → Keeps old new level → SameWalls blank new
walls_on blank old new level small w k = record {
  len = k.len ∙ w.len;
  kept = λ v o. stays_open old new level v small k (w.kept v o);
  no_more = λ v o. w.no_more v (was_open old new level v small k o);
}

pub only_on : (old new : List ℕ) (goal level : ℕ) → level + 1 < 4294967294 → ((v : ℕ) → IsOpen old v → slice_index old v ≡ 0 → v ≡ goal) → Keeps old new (level + 1)
    → (v : ℕ) → IsOpen new v → slice_index new v ≡ 0 → v ≡ goal
only_on old new goal level small only k v o e = elim (k.each v) [
  | inl p ↦ only v (was_open old new (level + 1) v small k o) (sym p ∙ e)
  | inr p ↦ absurd (omega (arith, p.1, e))
]

pub start_on : (old new : List ℕ) (goal level : ℕ) → (goal < length old) × (slice_index old goal ≡ 0) → Keeps old new level → (goal < length new) × (slice_index new goal ≡ 0)
start_on old new goal level s k = (omega (arith, s.0, k.len), kept old new level goal k (λ w. omega (arith, s.1, w)) ∙ s.1)

-- where no front is left, all that can be reached is
pub finished : (dist : List ℕ) (stride goal level : ℕ) → Search dist stride level level [] → (goal < length dist) × (slice_index dist goal ≡ 0)
    → ((v : ℕ) → IsOpen dist v → slice_index dist v ≡ 0 → v ≡ goal) → level ≤ length dist → AreLevels dist stride goal
finished dist stride goal level s start only few = record {
  start = start;
  only = only;
  back = s.back;
  onward = onward;
  low = λ v o near. (let l = s.low v o near in omega (arith, l, few));
}
  where
    onward : (u v : ℕ) → IsLink dist stride u v → slice_index dist u ≢ 4294967295 → slice_index dist v ≤ slice_index dist u + 1
    onward u v l near = elim (cases u l near) [
      | inl below ↦ s.onward u v l below
      | inr e ↦ absurd (omega (arith, (s.queued u l.from.0 e).1))
    ]
      where
        cases : (u : ℕ) → IsLink dist stride u v → slice_index dist u ≢ 4294967295 → (slice_index dist u < level) ⊎ (slice_index dist u ≡ level)
        cases u l near = let low = s.low u l.from near in grind (arith, low)
