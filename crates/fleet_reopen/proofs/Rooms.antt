-- Whether waits leave room.
use Rattle.std.proofs.Common.{◌≡◌, ℕ, zero, suc, ◌+◌, ◌*◌, ◌-◌, ◌<◌, ◌≤◌, List, [], ◌∷◌, ◌++◌, length, Option, Some, None, Bool, true, false, cond, refl, sym, ap, subst, ◌∙◌, arith, inl, inr, add-one, add-zero, mul-le-mul}
use Rattle.std.specs.Prelude.{max, count_by, slice_get, slice_index, slice_index_or}
use Rattle.std.specs.List.{range_with_len}
use Rattle.std.proofs.lemmas.List.{length-map, get_or_past}
use Rattle.std.proofs.lemmas.List.FromFn.{length-range_with_len}
use Rattle.std.proofs.lemmas.List.Sums.{count_by-le-length}
use Rattle.std.proofs.lemmas.Bool.{cases_eq, cases_lt}
use Rattle.fleet_grid.specs.Floor.{Floor, IsFloor, IsNeighbour}
use Rattle.fleet_grid.specs.Walk.{IsDistance}
use Rattle.fleet_history.specs.History.{History, robots, place, front, clock}
use Rattle.fleet_history.specs.Waits.{wait}
use Rattle.fleet_history.proofs.InOrder.{wait-within}
use Rattle.fleet_history.proofs.Sums.{count_append, count_cons, sum_range_same}
use Rattle.fleet_pibt.specs.Eldest.{IsEldest, IsEldestOf}
use Rattle.fleet_pibt.proofs.Precedences.{outranks}
use Rattle.fleet_planner.specs.Aimed.{first_goal}
use Rattle.fleet_planner.specs.Planned.{waits, goals, goal_of, cell_of}
use Rattle.fleet_planner.proofs.FirstGoals.{first-floor, first-goals}
use Rattle.fleet_planner.proofs.Lists.{item_of}
use Rattle.fleet_queue.specs.declared.errand.Errand.{Errand}
use Rattle.fleet_state.specs.Robots.{queue_at}
use Rattle.fleet_state.specs.State.{State, IsStateOf}
use Rattle.fleet_state.proofs.Judged.{items-of}
use Rattle.fleet_state.proofs.Parts.{cells-of, waits-of, wait-count, queue-count}
use Rattle.fleet_bound.specs.Bound.{KeepsBound}
use Rattle.fleet_bound.proofs.Fronts.{wait-none}
use Rattle.fleet_bound.specs.Bound as bound
use Rattle.fleet_bound.specs.Reach.{reach}
use Rattle.fleet_bound.specs.Waiting.{comes_before}
use Rattle.fleet_reopen.specs.Room.{count_before, HaveRoom, HasNoRoom}

range_more : (a n k : ℕ) → a + n ≡ k → range_with_len a (suc n) ≡ range_with_len a n ++ k ∷ []
range_more a zero k e = let s : a ≡ k = omega arith in ap (λ (i : ℕ). i ∷ []) s
range_more a (suc n) k e = ap (λ (xs : List ℕ). a ∷ xs) (range_more (a + 1) n k (omega arith))

-- one number more is counted
count_more : (p : ℕ → Bool) (n : ℕ) → count_by p (range_with_len 0 (n + 1)) ≡ count_by p (range_with_len 0 n) + cond (p n) 1 0
count_more p n =
    let more : range_with_len 0 (n + 1) ≡ range_with_len 0 n ++ n ∷ [] = rw add-one (range_more 0 n n (omega arith)) in
    ap (count_by p) more ∙ count_append p (range_with_len 0 n) (n ∷ []) ∙ ap (λ (k : ℕ). count_by p (range_with_len 0 n) + k) (count_cons p n [] ∙ add-zero (cond (p n) 1 0))

pub count-yes : (p : ℕ → Bool) (n : ℕ) → p n ≡ true → count_by p (range_with_len 0 n) + 1 ≡ count_by p (range_with_len 0 (n + 1))
count-yes p n is = sym (count_more p n ∙ ap (λ (b : Bool). count_by p (range_with_len 0 n) + cond b 1 0) is)

pub count-no : (p : ℕ → Bool) (n : ℕ) → p n ≡ false → count_by p (range_with_len 0 n) ≡ count_by p (range_with_len 0 (n + 1))
count-no p n is = sym (count_more p n ∙ ap (λ (b : Bool). count_by p (range_with_len 0 n) + cond b 1 0) is ∙ add-zero (count_by p (range_with_len 0 n)))

pub count-few : (waits : List (Option ℕ)) (r w : ℕ) → count_before waits r w ≤ length waits
count-few waits r w =
    omega (arith, count_by-le-length (λ q. comes_before (slice_index_or waits q None) q w r) (range_with_len 0 (length waits)), length-range_with_len 0 (length waits))

-- the robots below n have room
abbrev pub HaveRoomBelow : List (Option ℕ) → ℕ → ℕ → ℕ → Type 0
HaveRoomBelow waits far reach n = (q w : ℕ) → q < n → slice_index_or waits q None ≡ Some w → w + max 1 far + count_before waits q w * reach ≤ length waits * reach

pub room-some : (waits : List (Option ℕ)) (far reach n wait : ℕ) → HaveRoomBelow waits far reach n → slice_index_or waits n None ≡ Some wait →
    wait + max 1 far + count_before waits n wait * reach ≤ length waits * reach → HaveRoomBelow waits far reach (n + 1)
room-some waits far reach n wait below is fits q w l at = elim (cases_eq n q) [
  | inl e ↦ (let same : wait ≡ w = some_is wait w (sym is ∙ ap (λ (k : ℕ). slice_index_or waits k None) e ∙ at) in
      subst (λ (k : ℕ). w + max 1 far + count_before waits k w * reach ≤ length waits * reach) e
      (subst (λ (v : ℕ). v + max 1 far + count_before waits n v * reach ≤ length waits * reach) same fits))
  | inr ne ↦ below q w (omega (arith, l, ne)) at
]
  where
    some_is : (a b : ℕ) → Some a ≡ Some b → a ≡ b
    some_is a b e = cc

pub room-none : (waits : List (Option ℕ)) (far reach n : ℕ) → HaveRoomBelow waits far reach n → slice_index_or waits n None ≡ None → HaveRoomBelow waits far reach (n + 1)
room-none waits far reach n below is q w l at = elim (cases_eq n q) [
  | inl e ↦ absurd (none_some w (sym is ∙ ap (λ (k : ℕ). slice_index_or waits k None) e ∙ at))
  | inr ne ↦ below q w (omega (arith, l, ne)) at
]
  where
    none_some : (w : ℕ) → None ≡ Some w → ⊥
    none_some w e = cc

-- a robot that waits is one of the list
pub waits-within : (waits : List (Option ℕ)) (r w : ℕ) → slice_index_or waits r None ≡ Some w → r < length waits
waits-within waits r w e =
    elim (cases_lt r (length waits)) [
      | inl l ↦ l
      | inr past ↦ absurd (none_some w (sym (get_or_past waits r None past) ∙ e))
    ]
  where
    none_some : (w : ℕ) → None ≡ Some w → ⊥
    none_some w e = cc

-- room for shorter walks is room for longer ones, since no robot has all others before it
wider : (n k a low high : ℕ) → k ≤ n → low ≤ high → a + k * low ≤ n * low → a + k * high ≤ n * high
wider n k a low high few less fits =
    let rest : ℕ = n - k in
    let all : n ≡ k + rest = omega (arith, few) in
    let here : a ≤ rest * low = omega (arith, fits, ap (λ (x : ℕ). x * low) all) in
    let there : rest * low ≤ rest * high = mul-le-mul (omega arith) less in
    omega (arith, here, there, ap (λ (x : ℕ). x * high) all)

put : (k l n o a high : ℕ) → k ≡ l → n ≡ o → a + k * high ≤ n * high → a + l * high ≤ o * high
put k l n o a high one two fits = subst (λ (x : ℕ). a + x * high ≤ o * high) one (subst (λ (x : ℕ). a + k * high ≤ x * high) two fits)

-- there is one eldest
one_eldest : (f : ℕ → Option ℕ) (n d e : ℕ) → IsEldestOf f n d → IsEldestOf f n e → d ≡ e
one_eldest f n d e x y = elim (outranks f n d x e y.age y.known y.waits) [
  | inl less ↦ elim (outranks f n e y d x.age x.known x.waits) [
    | inl other ↦ absurd (omega (arith, less, other))
    | inr same ↦ absurd (omega (arith, less, same.0))
  ]
  | inr same ↦ elim (outranks f n e y d x.age x.known x.waits) [
    | inl other ↦ absurd (omega (arith, same.0, other))
    | inr back ↦ omega (arith, same.1, back.1)
  ]
]

module _ {A : Type 0} (m : Floor) (h : History A) where
  length-waits : length (waits h) ≡ robots h
  length-waits = length-map (range_with_len 0 (robots h)) (wait h) ∙ length-range_with_len 0 (robots h)

  -- the waits leave room, so the bound is kept
  pub room-keeps : (e goal far low : ℕ) → IsEldest (waits h) e → goal_of (goals h) e ≡ Some goal →
      ((d : ℕ) → IsDistance (IsNeighbour m) (slice_index (place h) e) goal d → d ≡ far) → low ≤ reach m → HaveRoom (waits h) far low → KeepsBound m h
  room-keeps e goal far low eldest aims away less room = record {
    each = λ r w d g f known waited first goes at. (
        let same : d ≡ e = one_eldest (λ q. slice_index_or (waits h) q None) (length (waits h)) d e first eldest in
        let to : g ≡ goal = some_same g goal (sym goes ∙ ap (goal_of (goals h)) same ∙ aims) in
        let far_is : f ≡ far = away f (subst (λ (q : ℕ). IsDistance (IsNeighbour m) (slice_index (place h) q) goal f) same (subst (λ (q : ℕ). IsDistance (IsNeighbour m) (slice_index (place h) d) q f) to at)) in
        let here = room r w (item_of (wait h) (robots h) r known ∙ waited) in
        let counted : count_before (waits h) r w ≡ bound.count_before h r w = counts r w in
        let wide = wider (length (waits h)) (count_before (waits h) r w) (w + max 1 far) low (reach m) (count-few (waits h) r w) less here in
        let so : w + max 1 far + bound.count_before h r w * reach m ≤ robots h * reach m = put (count_before (waits h) r w) (bound.count_before h r w) (length (waits h)) (robots h) (w + max 1 far) (reach m) counted length-waits wide in
        subst (λ (k : ℕ). w + max 1 k + bound.count_before h r w * reach m ≤ robots h * reach m) (sym far_is) so);
  }
    where
      some_same : (a b : ℕ) → Some a ≡ Some b → a ≡ b
      some_same a b e = cc

      counts : (r w : ℕ) → count_before (waits h) r w ≡ bound.count_before h r w
      counts r w = ap (λ (n : ℕ). count_by (λ q. comes_before (slice_index_or (waits h) q None) q w r) (range_with_len 0 n)) length-waits ∙ sum_range_same
          (λ q. cond (comes_before (slice_index_or (waits h) q None) q w r) 1 0) (λ q. cond (comes_before (wait h q) q w r) 1 0) 0 (robots h)
          (λ q l u. ap (λ (o : Option ℕ). cond (comes_before o q w r) 1 0) (item_of (wait h) (robots h) q (omega arith)))

-- ---- by the state

module _ {A : Type 0} {m : Floor} {h : History A} {s : State A} (k : IsStateOf m h s) where
  pub state-keeps : (e goal far low : ℕ) → IsEldest s.waits e → first_goal s.queues e ≡ Some goal → ((d : ℕ) → IsDistance (IsNeighbour m) (slice_index s.cells e) goal d → d ≡ far) →
      low ≤ reach m → HaveRoom s.waits far low → KeepsBound m h
  state-keeps e goal far low eldest aims away less room =
      let known : e < length s.queues = omega (arith, eldest.known, wait-count k, queue-count k) in
      let aim : goal_of (goals h) e ≡ Some goal = ap (λ (gs : List (Option ℕ)). goal_of gs e) (sym (first-goals k)) ∙ item_of (first_goal s.queues) (length s.queues) e known ∙ aims in
      room-keeps m h e goal far low (subst (λ (ws : List (Option ℕ)). IsEldest ws e) (waits-of k) eldest) aim
      (λ d at. away d (subst (λ (cells : List ℕ). IsDistance (IsNeighbour m) (slice_index cells e) goal d) (sym (cells-of k)) at)) less
      (subst (λ (ws : List (Option ℕ)). HaveRoom ws far low) (waits-of k) room)

  pub state-full : (e goal far low : ℕ) → IsEldest s.waits e → first_goal s.queues e ≡ Some goal → ((d : ℕ) → IsDistance (IsNeighbour m) (slice_index s.cells e) goal d → d ≡ far) →
      ((cell d : ℕ) → IsDistance (IsNeighbour m) cell goal d → d ≤ low) → low ≤ reach m → (HaveRoom s.waits far low → ⊥) → HasNoRoom m h
  state-full e goal far low eldest aims away wide less full =
      let known : e < length s.queues = omega (arith, eldest.known, wait-count k, queue-count k) in
      record {
        eldest = e;
        goal = goal;
        far = far;
        apart = low;
        first = subst (λ (ws : List (Option ℕ)). IsEldest ws e) (waits-of k) eldest;
        aims = ap (λ (gs : List (Option ℕ)). goal_of gs e) (sym (first-goals k)) ∙ item_of (first_goal s.queues) (length s.queues) e known ∙ aims;
        away = λ d at. away d (subst (λ (cells : List ℕ). IsDistance (IsNeighbour m) (slice_index cells e) goal d) (sym (cells-of k)) at);
        wide = wide;
        within = less;
        full = λ room. full (subst (λ (ws : List (Option ℕ)). HaveRoom ws far low) (sym (waits-of k)) room);
      }

  -- a robot that waits has a front
  pub eldest-front : (e : ℕ) → IsEldest s.waits e → front h e ≡ None → ⊥
  eldest-front e eldest none =
      let known : e < robots h = omega (arith, eldest.known, wait-count k) in
      let idle : wait h e ≡ None = wait-none h e none in
      let waited : wait h e ≡ Some eldest.age = sym (ap (λ (ws : List (Option ℕ)). slice_index_or ws e None) (waits-of k) ∙ item_of (wait h) (robots h) e known) ∙ eldest.waits in
      none_some eldest.age (sym idle ∙ waited)
    where
      none_some : (w : ℕ) → None ≡ Some w → ⊥
      none_some w e = cc

  -- no wait is longer than the clock
  pub wait-small : (r w most : ℕ) → clock h ≤ most → slice_index_or s.waits r None ≡ Some w → w ≤ most
  wait-small r w most early is =
      let known : r < robots h = omega (arith, waits-within s.waits r w is, wait-count k) in
      let here : wait h r ≡ Some w = sym (ap (λ (ws : List (Option ℕ)). slice_index_or ws r None) (waits-of k) ∙ item_of (wait h) (robots h) r known) ∙ is in
      omega (arith, early, wait-within m h r w k.legal known here)

  -- the eldest's goal is a floor cell
  pub goal-floor : (e goal : ℕ) → IsEldest s.waits e → first_goal s.queues e ≡ Some goal → IsFloor m goal
  goal-floor e goal eldest aims =
      let known : e < length s.queues = omega (arith, eldest.known, wait-count k, queue-count k) in
      let found = front_of (slice_get (queue_at s.queues e).items 0) goal aims in
      subst (IsFloor m) found.2 (first-floor k e found.0 known (ap (λ (u : List Errand). slice_get u 0) (sym (items-of k e (omega (arith, known, queue-count k)))) ∙ found.1))
    where
      front_of : (o : Option Errand) (g : ℕ) → cell_of o ≡ Some g → (f : Errand) × (o ≡ Some f) × (f.cell ≡ g)
      front_of None g e = cc
      front_of (Some f) g e = (f, refl, cc)
