-- Steps of a search.
use Rattle.std.proofs.Common.{◌≡◌, ℕ, zero, suc, ◌+◌, cond, ◌<◌, ◌≤◌, ◌⊎◌, inl, inr, Bool, true, false, not, List, [], ◌∷◌, ◌++◌, length, get_or, set, refl, sym, ap, subst, ◌∙◌, arith, length-append}
use Rattle.std.specs.Prelude.{slice_index, count_by}
use Rattle.std.proofs.Math.ListN.{get_or-append}
use Rattle.std.proofs.Math.Seq.{get_or-append_seam}
use Rattle.std.proofs.lemmas.List.{length-set, get_or-set_same, get_or-set_other, length-replicate, get_or-replicate}
use Rattle.std.proofs.lemmas.List.Folds.{sum_by-replicate}
use Rattle.std.proofs.Math.ListN.{replicate}
use Rattle.std.proofs.lemmas.List.Sums.{sum_by-set, count_by-le-length}
use Rattle.std.proofs.lemmas.Bool.{cases_eq}
use Rattle.fleet_grid.specs.Floor.{Floor}
use Rattle.fleet_grid.specs.declared.dir.Dir.{Dir}
use Rattle.fleet_grid.specs.declared.dir.Dir.TheVariants.{North, East, South, West}
use Rattle.fleet_grid.specs.Floor.{IsNeighbourIn}
use Rattle.fleet_grid.proofs.Edges.{beside_once}
use Rattle.fleet_grid.specs.Walk.{AreJoined, IsBridge}
use Rattle.fleet_grid.specs.Floor.{IsNeighbour}
use Rattle.fleet_bridge.specs.inside.Search.{NearWithout, IsMarked, IsFront, IsLater, IsReach}
use Rattle.fleet_bridge.proofs.Joins.{joined_on, joined_by, joined_inside}

count_more : (seen : List Bool) (cell : ℕ) → cell < length seen → get_or seen cell false ≡ false → count_by (λ s. s) (set seen cell true) ≡ count_by (λ s. s) seen + 1
count_more seen cell inside not_yet =
    let e = sum_by-set (λ (s : Bool). cond s 1 0) seen cell true false inside in
    let f : cond (get_or seen cell false) 1 0 ≡ 0 = ap {B = ℕ} (λ (s : Bool). cond s 1 0) not_yet in
    omega (arith, e, f)

pub marked_inside : (seen : List Bool) (c : ℕ) → IsMarked seen c → c < length seen
marked_inside [] c m = absurd cc
marked_inside (x ∷ xs) zero m = omega arith
marked_inside (x ∷ xs) (suc c) m = omega (arith, marked_inside xs c m)

pub front_more : (R : ℕ → ℕ → Type 0) (a n : ℕ) (seen : List Bool) (queue : List ℕ) (cell : ℕ) → cell < n → AreJoined R a cell → get_or seen cell false ≡ false
    → IsFront R a n seen queue → IsFront R a n (set seen cell true) (queue ++ cell ∷ [])
front_more R a n seen queue cell small joined fresh front =
    let inside : cell < length seen = omega (arith, front.size) in
    record {
      size = length-set seen cell true ∙ front.size;
      count = omega (arith, length-append queue (cell ∷ []), count_more seen cell inside fresh, front.count);
      marked = λ i h. elim (cases_eq i (length queue)) [
        | inl e ↦ (let at : get_or (queue ++ cell ∷ []) i 0 ≡ cell = ap (λ (j : ℕ). get_or (queue ++ cell ∷ []) j 0) e ∙ get_or-append_seam queue cell [] 0 in
            ap (λ (c : ℕ). get_or (set seen cell true) c false) at ∙ get_or-set_same seen cell true false inside)
        | inr ne ↦ (let lt : i < length queue = omega (arith, length-append queue (cell ∷ []), h, ne) in
            ap (λ (c : ℕ). get_or (set seen cell true) c false) (get_or-append queue (cell ∷ []) 0 i lt) ∙ set_keeps seen cell (get_or queue i 0) inside (front.marked i lt))
      ];
      queued = λ c m. elim (cases_eq c cell) [
        | inl e ↦ (length queue, omega (arith, length-append queue (cell ∷ [])), get_or-append_seam queue cell [] 0 ∙ sym e)
        | inr ne ↦ (let old = front.queued c (sym (get_or-set_other seen cell c true false ne) ∙ m) in
            (old.0, omega (arith, old.1, length-append queue (cell ∷ [])), get_or-append queue (cell ∷ []) 0 old.0 old.1 ∙ old.2))
      ];
      joined = λ c m. elim (cases_eq c cell) [
        | inl e ↦ subst (AreJoined R a) (sym e) joined
        | inr ne ↦ front.joined c (sym (get_or-set_other seen cell c true false ne) ∙ m)
      ];
    }
  where
    set_keeps : (seen : List Bool) (cell c : ℕ) → cell < length seen → get_or seen c false ≡ true → get_or (set seen cell true) c false ≡ true
    set_keeps seen cell c inside m = elim (cases_eq c cell) [
      | inl e ↦ (ap (λ (d : ℕ). get_or (set seen cell true) d false) e ∙ get_or-set_same seen cell true false inside)
      | inr ne ↦ (get_or-set_other seen cell c true false ne ∙ m)
    ]

pub later_same : (seen : List Bool) (queue : List ℕ) → IsLater seen queue seen queue
later_same seen queue = record { keeps = λ c m. m; grows = omega arith; same = λ i h. refl }

pub later_more : (seen : List Bool) (queue : List ℕ) (cell : ℕ) → cell < length seen → IsLater seen queue (set seen cell true) (queue ++ cell ∷ [])
later_more seen queue cell inside = record {
  keeps = λ c m. elim (cases_eq c cell) [
    | inl e ↦ (ap (λ (d : ℕ). get_or (set seen cell true) d false) e ∙ get_or-set_same seen cell true false inside)
    | inr ne ↦ (get_or-set_other seen cell c true false ne ∙ m)
  ];
  grows = omega (arith, length-append queue (cell ∷ []));
  same = λ i h. get_or-append queue (cell ∷ []) 0 i h;
}

pub later_on : (s : List Bool) (q : List ℕ) (s1 : List Bool) (q1 : List ℕ) (s2 : List Bool) (q2 : List ℕ) → IsLater s q s1 q1 → IsLater s1 q1 s2 q2 → IsLater s q s2 q2
later_on s q s1 q1 s2 q2 a b = record {
  keeps = λ c m. b.keeps c (a.keeps c m);
  grows = omega (arith, a.grows, b.grows);
  same = λ i h. b.same i (omega (arith, a.grows)) ∙ a.same i h;
}

-- the search went over the edge in that direction, where there is one that is not left out
abbrev pub IsBesideMarked : Floor → ℕ → ℕ → ℕ → Dir → List Bool → Type 0
IsBesideMarked m a b cell dir seen = (d : ℕ) → IsNeighbourIn m dir cell d → NearWithout m a b cell d → IsMarked seen d

pub all_around : (m : Floor) (a b cell : ℕ) (s1 s2 s3 s4 : List Bool)
    → ((c : ℕ) → IsMarked s1 c → IsMarked s2 c) → ((c : ℕ) → IsMarked s2 c → IsMarked s3 c) → ((c : ℕ) → IsMarked s3 c → IsMarked s4 c)
    → IsBesideMarked m a b cell North s1 → IsBesideMarked m a b cell East s2 → IsBesideMarked m a b cell South s3 → IsBesideMarked m a b cell West s4
    → (d : ℕ) → NearWithout m a b cell d → IsMarked s4 d
all_around m a b cell s1 s2 s3 s4 k1 k2 k3 north east south west d edge =
    at edge.near.0 edge.near.1
  where
    at : (dir : Dir) → IsNeighbourIn m dir cell d → IsMarked s4 d
    at North e = k3 d (k2 d (k1 d (north d e edge)))
    at East e = k3 d (k2 d (east d e edge))
    at South e = k3 d (south d e edge)
    at West e = west d e edge

pub step_joined : (m : Floor) (a b cell : ℕ) (dir : Dir) (next : ℕ) (seen : List Bool) (queue : List ℕ)
    → IsFront (NearWithout m a b) a (length m.letters) seen queue → IsMarked seen cell → IsNeighbourIn m dir cell next → (cell ≡ a → next ≡ b → ⊥) × (cell ≡ b → next ≡ a → ⊥)
    → AreJoined (NearWithout m a b) a next
step_joined m a b cell dir next seen queue front marked e other =
    joined_on (NearWithout m a b) a cell next (front.joined cell marked)
    (joined_by (NearWithout m a b) cell next (record { near = (dir, e); there = other.0; back = other.1 }))

pub queue_le : (R : ℕ → ℕ → Type 0) (a n : ℕ) (seen : List Bool) (queue : List ℕ) → IsFront R a n seen queue → length queue ≤ n
queue_le R a n seen queue front = omega (arith, front.count, front.size, count_by-le-length (λ (s : Bool). s) seen)

-- the neighbours of the queue's first cells are marked
abbrev pub AreDone : (ℕ → ℕ → Type 0) → List Bool → List ℕ → ℕ → Type 0
AreDone R seen queue head = (i d : ℕ) → i < head → R (slice_index queue i) d → IsMarked seen d

pub done_more : (R : ℕ → ℕ → Type 0) (s : List Bool) (q : List ℕ) (s1 : List Bool) (q1 : List ℕ) (head : ℕ) → head < length q → IsLater s q s1 q1
    → AreDone R s q head → ((d : ℕ) → R (slice_index q head) d → IsMarked s1 d) → AreDone R s1 q1 (head + 1)
done_more R s q s1 q1 head small later done here i d lt r =
    let inside : i < length q = omega arith in
    let r' : R (slice_index q i) d = subst (λ (x : ℕ). R x d) (later.same i inside) r in
    elim (cases_eq i head) [
      | inl e ↦ here d (subst (λ (x : ℕ). R (slice_index q x) d) e r')
      | inr ne ↦ later.keeps d (done i d (omega (arith, ne)) r')
    ]

pub reach : (R : ℕ → ℕ → Type 0) (a n : ℕ) (seen : List Bool) (queue : List ℕ) (head : ℕ) → IsMarked seen a → IsFront R a n seen queue → length queue ≤ head → AreDone R seen queue head → IsReach R a seen
reach R a n seen queue head start front le done = record {
  start = start;
  closed = λ c d r m. (let at = front.queued c m in done at.0 d (omega (arith, at.1)) (subst (λ (x : ℕ). R x d) (sym at.2) r));
  joined = front.joined;
}

pub front_none : (R : ℕ → ℕ → Type 0) (a n : ℕ) → IsFront R a n (replicate n false) []
front_none R a n = record {
  size = length-replicate n false;
  count = let e = sum_by-replicate (λ (s : Bool). cond s 1 0) n false in omega (arith, e);
  marked = λ i h. absurd (omega arith);
  queued = λ c m. absurd (none n c m);
  joined = λ c m. absurd (none n c m);
}
  where
    none : (n c : ℕ) → IsMarked (replicate n false) c → ⊥
    none n c m =
        let inside : c < n = omega (arith, marked_inside (replicate n false) c m, length-replicate n false) in
        let e = get_or-replicate n c false false inside in
        (cc)

-- the reached cells are those that a walk joins to the first
pub reach_is : (R : ℕ → ℕ → Type 0) (a : ℕ) (seen : List Bool) → IsReach R a seen → (b : ℕ) → AreJoined R a b → IsMarked seen b
reach_is R a seen it b j = joined_inside R (IsMarked seen) it.closed a b j it.start

-- the answer: the far end is not marked
pub bridge_is : (m : Floor) (a b : ℕ) (seen : List Bool) → IsNeighbour m a b → IsReach (NearWithout m a b) a seen → (mark : Bool) → mark ≡ get_or seen b false
    → (not mark ≡ true → IsBridge (IsNeighbour m) a b) × (IsBridge (IsNeighbour m) a b → not mark ≡ true)
bridge_is m a b seen edge it true e = (λ t. absurd cc, λ bridge. absurd (bridge.alone (it.joined b (sym e))))
bridge_is m a b seen edge it false e = (
  λ t. record { edge = edge; alone = λ j. (let marked = reach_is (NearWithout m a b) a seen it b j in cc) },
  λ bridge. refl,
)

-- the one neighbour in a direction, where the step to it is left out
pub crossed_out : (m : Floor) (a b cell next d : ℕ) (dir : Dir) → IsNeighbourIn m dir cell next → IsNeighbourIn m dir cell d → ((cell ≡ a) × (next ≡ b)) ⊎ ((cell ≡ b) × (next ≡ a)) → NearWithout m a b cell d → ⊥
crossed_out m a b cell next d dir n at across edge =
    let same : d ≡ next = beside_once m.width dir cell d next at.beside n.beside in
    elim across [ inl there ↦ edge.there there.0 (same ∙ there.1) | inr back ↦ edge.back back.0 (same ∙ back.1) ]

-- and where it was visited
pub marked_beside : (m : Floor) (a b cell next : ℕ) (dir : Dir) (seen : List Bool) → IsNeighbourIn m dir cell next → IsMarked seen next
    → (d : ℕ) → IsNeighbourIn m dir cell d → NearWithout m a b cell d → IsMarked seen d
marked_beside m a b cell next dir seen n marked d at edge = subst (IsMarked seen) (beside_once m.width dir cell next d n.beside at.beside) marked

-- a queue with room for all cells has room for one that is not marked
pub front_room : (R : ℕ → ℕ → Type 0) (a n : ℕ) (seen : List Bool) (queue : List ℕ) (cell room : ℕ) → cell < n → AreJoined R a cell → get_or seen cell false ≡ false
    → IsFront R a n seen queue → n ≤ room → length queue < room
front_room R a n seen queue cell room small joined fresh front wide =
    omega (arith, queue_le R a n (set seen cell true) (queue ++ cell ∷ []) (front_more R a n seen queue cell small joined fresh front), length-append queue (cell ∷ []), wide)
