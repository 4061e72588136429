-- The goals that a planner keeps stay those of the history after each entry.
use Rattle.std.proofs.Common.{◌≡◌, ℕ, zero, suc, ◌<◌, ◌↔◌, List, [], ◌∷◌, ◌++◌, length, map, get_or, cond, Bool, true, false, Option, Some, None, IsSome, replicate, sym, refl, ap, ◌∙◌, subst, arith, inl, inr}
use Rattle.std.specs.Prelude.{IsTrue, unwrap_or, slice_get, slice_set, slice_index, slice_index_or}
use Rattle.std.specs.List.{range_with_len}
use Rattle.std.proofs.lemmas.List.{append-nil, length-map, length-set, length-replicate, get_or_past, get_or-set_same, get_or-set_other, ext_get_or}
use Rattle.std.proofs.lemmas.List.FromFn.{length-range_with_len}
use Rattle.std.proofs.lemmas.Bool.{cases_eq, cases_lt, cases_Bool, eq-eqb, ne_eqb, false≢true}
use Rattle.fleet_grid.specs.Floor.{Floor, IsFloor, IsNeighbour}
use Rattle.fleet_grid.specs.Walk.{IsBridgeless}
use Rattle.fleet_field.specs.Store.{Keeps}
use Rattle.fleet_planner.specs.Courses.{Courses, goal, goals_of, AreOn}
use Rattle.fleet_hooks.specs.declared.law.TieLaw.{TieLaw}
use Rattle.fleet_queue.specs.declared.errand.Errand.{Errand}
use Rattle.fleet_queue.specs.Queue.{Queue}
use Rattle.fleet_book.specs.declared.order.Order.{Order}
use Rattle.fleet_book.specs.declared.order.Order.TheVariants.{Go, Close, Withdraw}
use Rattle.fleet_book.specs.declared.verdict.Verdict.{Verdict}
use Rattle.fleet_book.specs.declared.verdict.Verdict.TheVariants.{Accepted}
use Rattle.fleet_history.specs.declared.history.Arrival.{Arrival}
use Rattle.fleet_history.specs.declared.history.Bye.{Bye}
use Rattle.fleet_history.specs.declared.history.Opening.{Opening}
use Rattle.fleet_history.specs.declared.history.Entry.TheVariants as entry
use Rattle.fleet_history.specs.History.{History, after, start, robots, unfinished, front, errand_for}
use Rattle.fleet_history.specs.Laws.{EachTick}
use Rattle.fleet_history.specs.Legal.{IsLegal, due_of, due, is_none_left}
use Rattle.fleet_history.specs.Next.{next_opening}
use Rattle.fleet_history.specs.Verdicts.{IsVerdict, standing}
use Rattle.fleet_history.specs.Waits.{wait, wait_for}
use Rattle.fleet_history.proofs.Legal.{accepted-rule, accepted-robot}
use Rattle.fleet_history.proofs.Next.{next-robots, start-front}
use Rattle.fleet_planner.specs.Counted.{goal_ticked}
use Rattle.fleet_planner.specs.Searched.{AreMissing, IsSearch, Lacks}
use Rattle.fleet_planner.specs.Planned.{waits, goals, cell_of, IsPlanned, IsAdvancingTick}
use Rattle.fleet_planner.proofs.Goals.{planned-advances}
use Rattle.fleet_planner.proofs.Lists.{item_of}
use Rattle.fleet_planner.proofs.Ticked.{goal-after_tick, goal-after_take, goal-after_shut}
use Rattle.fleet_state.specs.Robots.{queue_at}
use Rattle.fleet_state.specs.State.{State, IsStateOf}
use Rattle.fleet_state.proofs.Judged.{items-of}
use Rattle.fleet_state.proofs.Parts.{queue-count}
use Rattle.fleet_planner.specs.Aimed.{Planner, IsAimed, IsIdle, begun, begun_goals, goal_on, goals_ticked}

-- ---- lists by robot

abbrev by_robot : ℕ → (ℕ → Option ℕ) → List (Option ℕ)
by_robot n f = map f (range_with_len 0 n)

length-by_robot : (n : ℕ) (f : ℕ → Option ℕ) → length (by_robot n f) ≡ n
length-by_robot n f = length-map (range_with_len 0 n) f ∙ length-range_with_len 0 n

listed : (n : ℕ) (f : ℕ → Option ℕ) (xs : List (Option ℕ)) → length xs ≡ n → ((r : ℕ) → r < n → slice_index_or xs r None ≡ f r) → xs ≡ by_robot n f
listed n f xs count each = ext_get_or None xs (by_robot n f) (count ∙ sym (length-by_robot n f)) (λ r l. each r (omega arith) ∙ sym (item_of f n r (omega arith)))

same_by : (n : ℕ) (f g : ℕ → Option ℕ) → ((r : ℕ) → r < n → f r ≡ g r) → by_robot n f ≡ by_robot n g
same_by n f g each = listed n g (by_robot n f) (length-by_robot n f) (λ r l. item_of f n r l ∙ each r l)

set_by : (n robot : ℕ) (x : Option ℕ) (f g : ℕ → Option ℕ) → robot < n → g robot ≡ x → ((r : ℕ) → r < n → (robot ≡ r → ⊥) → g r ≡ f r) → slice_set (by_robot n f) robot x ≡ by_robot n g
set_by n robot x f g known is each =
    listed n g (slice_set (by_robot n f) robot x) (length-set (by_robot n f) robot x ∙ length-by_robot n f)
    (λ r l. elim (cases_eq robot r) [
      | inl e ↦ subst (λ k. get_or (slice_set (by_robot n f) robot x) k None ≡ g k) e (get_or-set_same (by_robot n f) robot x None (omega (arith, length-by_robot n f)) ∙ sym is)
      | inr ne ↦ get_or-set_other (by_robot n f) robot r x None (λ e. ne (sym e)) ∙ item_of f n r l ∙ sym (each r l ne)
    ])

none_some : {X : Type 0} (x : X) → None ≡ Some x → ⊥
none_some x e = cc

-- ---- takes

pub none_left_nil : (u : List Errand) → is_none_left u ≡ true → u ≡ []
none_left_nil [] e = refl
none_left_nil (x ∷ xs) e = cc

some_left : (u : List Errand) → is_none_left u ≡ false → (f : Errand) × (rest : List Errand) × (u ≡ f ∷ rest)
some_left [] e = cc
some_left (x ∷ xs) e = (x, xs, refl)

module _ {A : Type 0} (m : Floor) (h : History A) (c : ℕ) (order : Order) (v : Verdict) (legal : IsLegal m h) (is : IsVerdict m h c order v) where
  goal_stays : (r : ℕ) → r < robots h → errand_for r c order v ≡ [] → cell_of (front (after h (entry.Take c order v)) r) ≡ cell_of (front h r)
  goal_stays r l none = goal-after_take m h c order v r legal is l ∙ rw none (ap (λ xs. cell_of (slice_get xs 0)) (append-nil (unfinished h r)))

  begins_none : ((r : ℕ) → errand_for r c order v ≡ []) → goals h ≡ goals (after h (entry.Take c order v))
  begins_none none = same_by (robots h) (λ r. cell_of (front h r)) (λ r. cell_of (front (after h (entry.Take c order v)) r)) (λ r l. sym (goal_stays r l (none r)))

begins_go : {A : Type 0} (m : Floor) (h : History A) (c robot cell n : ℕ) (q : List Errand) → IsLegal m h → IsVerdict m h c (Go robot cell) (Accepted n) → q ≡ unfinished h robot →
    begun_goals (cond {A = Option (ℕ × ℕ)} (is_none_left q) (Some (robot, cell)) None) (goals h) ≡ goals (after h (entry.Take c (Go robot cell) (Accepted n)))
begins_go {A = A} m h c robot cell n q legal is same =
    let order = Go robot cell in
    let v = Accepted n in
    let g : History A = after h (entry.Take c order v) in
    let known = accepted-robot m h c n robot cell is in
    let x : Errand = record { client = c; number = n; cell = cell } in
    let one : errand_for robot c order v ≡ x ∷ [] = rw (eq-eqb robot robot refl) refl in
    let others : (r : ℕ) → (robot ≡ r → ⊥) → errand_for r c order v ≡ [] = λ r ne. rw (ne_eqb robot r ne) refl in
    let aims_on : cell_of (front g robot) ≡ cell_of (slice_get (unfinished h robot ++ x ∷ []) 0) = goal-after_take m h c order v robot legal is known ∙ ap (λ xs. cell_of (slice_get (unfinished h robot ++ xs) 0)) one in
    elim (cases_Bool (is_none_left q)) [
      | inl t ↦
          (let none : unfinished h robot ≡ [] = sym same ∙ none_left_nil q t in
          rw t (set_by (robots h) robot (Some cell) (λ r. cell_of (front h r)) (λ r. cell_of (front g r)) known (aims_on ∙ ap (λ xs. cell_of (slice_get (xs ++ x ∷ []) 0)) none) (λ r l ne. goal_stays m h c order v legal is r l (others r ne))))
      | inr t ↦
          (let some = some_left q t in
          let is_front : unfinished h robot ≡ some.0 ∷ some.1 = sym same ∙ some.2 in
          rw t (same_by (robots h) (λ r. cell_of (front h r)) (λ r. cell_of (front g r)) (λ r l. elim (cases_eq robot r) [
            | inl e ↦ subst (λ k. cell_of (front h k) ≡ cell_of (front g k)) e
                (ap (λ xs. cell_of (slice_get xs 0)) is_front ∙ sym (aims_on ∙ ap (λ xs. cell_of (slice_get (xs ++ x ∷ []) 0)) is_front))
            | inr ne ↦ sym (goal_stays m h c order v legal is r l (others r ne))
          ])))
    ]

begins-take : {A : Type 0} (m : Floor) (h : History A) (queues : List Queue) (c : ℕ) (order : Order) (v : Verdict) → IsLegal m h → IsVerdict m h c order v →
    ((r : ℕ) → r < robots h → (queue_at queues r).items ≡ unfinished h r) → begun_goals (begun queues order v) (goals h) ≡ goals (after h (entry.Take c order v))
begins-take m h queues c (Go robot cell) (Accepted n) legal is queued = begins_go m h c robot cell n (queue_at queues robot).items legal is (queued robot (accepted-robot m h c n robot cell is))
begins-take m h queues c (Go robot cell) v legal is queued = begins_none m h c (Go robot cell) v legal is (λ r. refl)
begins-take m h queues c Close v legal is queued = begins_none m h c Close v legal is (λ r. refl)
begins-take m h queues c (Withdraw number) v legal is queued = begins_none m h c (Withdraw number) v legal is (λ r. refl)

-- whose errand an accepted order begins: none where the robot has one already
begun_if : (queues : List Queue) (order : Order) (v : Verdict) (robot cell n : ℕ) → order ≡ Go robot cell → v ≡ Accepted n →
    begun queues order v ≡ cond {A = Option (ℕ × ℕ)} (is_none_left (queue_at queues robot).items) (Some (robot, cell)) None
begun_if queues order v robot cell n goes accepted = ap (λ (o : Order). begun queues o v) goes ∙ ap (λ (w : Verdict). begun queues (Go robot cell) w) accepted

pub begun-behind : (queues : List Queue) (order : Order) (v : Verdict) (robot cell n : ℕ) (f : Errand) → order ≡ Go robot cell → v ≡ Accepted n → Some f ≡ slice_get (queue_at queues robot).items 0 → begun queues order v ≡ None
begun-behind queues order v robot cell n f goes accepted has = begun_if queues order v robot cell n goes accepted ∙ behind (queue_at queues robot).items has
  where
    behind : (u : List Errand) → Some f ≡ slice_get u 0 → cond {A = Option (ℕ × ℕ)} (is_none_left u) (Some (robot, cell)) None ≡ None
    behind [] e = absurd (none_some f (sym e))
    behind (x ∷ u) e = refl

pub begun-first : (queues : List Queue) (order : Order) (v : Verdict) (robot cell n : ℕ) → order ≡ Go robot cell → v ≡ Accepted n → None ≡ slice_get (queue_at queues robot).items 0 → begun queues order v ≡ Some (robot, cell)
begun-first queues order v robot cell n goes accepted none = begun_if queues order v robot cell n goes accepted ∙ first (queue_at queues robot).items none
  where
    first : (u : List Errand) → None ≡ slice_get u 0 → cond {A = Option (ℕ × ℕ)} (is_none_left u) (Some (robot, cell)) None ≡ Some (robot, cell)
    first [] e = refl
    first (x ∷ u) e = absurd (none_some x e)

-- no errand begins by another order, nor where it is not accepted
pub begun-other : (queues : List Queue) (order : Order) (v : Verdict) → ((robot cell : ℕ) → order ≡ Go robot cell → ⊥) → begun queues order v ≡ None
begun-other queues (Go robot cell) v not = absurd (not robot cell refl)
begun-other queues Close v not = refl
begun-other queues (Withdraw number) v not = refl

pub begun-refused : (queues : List Queue) (order : Order) (v : Verdict) → ((n : ℕ) → v ≡ Accepted n → ⊥) → begun queues order v ≡ None
begun-refused queues (Go robot cell) (Accepted n) not = absurd (not n refl)
begun-refused queues (Go robot cell) v not = refl
begun-refused queues Close v not = refl
begun-refused queues (Withdraw number) v not = refl

-- the robot of a first errand is one, and its cell is floor
pub begun-known : {A : Type 0} (m : Floor) (h : History A) (queues : List Queue) (c : ℕ) (order : Order) (v : Verdict) (robot cell : ℕ) → IsVerdict m h c order v → begun queues order v ≡ Some (robot, cell) →
    (robot < robots h) × IsFloor m cell
begun-known m h queues c (Go a b) (Accepted n) robot cell is e =
    let why = accepted-rule (standing h c (Go a b)) is.facts n a b is.judged in
    let p = through (is_none_left (queue_at queues a).items) a b e in
    (subst (λ x. x < robots h) p.0 (is.are_facts.known.0 why.known), subst (λ x. IsFloor m x) p.1 (is.are_facts.floor.0 why.floor))
  where
    through : (t : Bool) (a b : ℕ) → cond {A = Option (ℕ × ℕ)} t (Some (a, b)) None ≡ Some (robot, cell) → (a ≡ robot) × (b ≡ cell)
    through true a b q = (ap (λ (o : Option (ℕ × ℕ)). (unwrap_or o (0, 0)).0) q, ap (λ (o : Option (ℕ × ℕ)). (unwrap_or o (0, 0)).1) q)
    through false a b q = absurd (none_some (robot, cell) q)
begun-known m h queues c (Go a b) v robot cell is e = absurd (none_some (robot, cell) e)
begun-known m h queues c Close v robot cell is e = absurd (none_some (robot, cell) e)
begun-known m h queues c (Withdraw number) v robot cell is e = absurd (none_some (robot, cell) e)

on-ticked : (to : List ℕ) (r : ℕ) (u : List Errand) → goal_on (slice_index to r) u ≡ goal_ticked to r u
on-ticked to r [] = refl
on-ticked to r (f ∷ u) = refl

-- ---- what is kept

module _ {A : Type 0} {m : Floor} {h : History A} {s : State A} {p : Planner} (k : IsStateOf m h s) (a : IsAimed m h p) where
  pub aimed-take : {q : Planner} (c : ℕ) (order : Order) (v : Verdict) → IsVerdict m h c order v → goals_of q.aims ≡ begun_goals (begun s.queues order v) (goals_of p.aims) → AreOn m q.aims →
      q.size ≡ p.size → q.bridgeless ≡ p.bridgeless → Keeps m q.kept → IsAimed m (after h (entry.Take c order v)) q
  aimed-take c order v is same on size bridge kept = record {
    aimed = same ∙ ap (begun_goals (begun s.queues order v)) a.aimed ∙ begins-take m h s.queues c order v k.legal is (items-of k);
    on = on;
    sized = size ∙ a.sized;
    bridge = subst (λ b. IsTrue b ↔ IsBridgeless (IsNeighbour m)) (sym bridge) a.bridge;
    kept = kept;
  }

  pub aimed-shut : (robot : ℕ) (farewell : Option ℕ) → IsAimed m (after h (entry.Shut robot farewell)) p
  aimed-shut robot farewell = record {
    aimed = a.aimed ∙ same_by (robots h) (λ r. cell_of (front h r)) (λ r. cell_of (front (after h (entry.Shut robot farewell)) r)) (λ r l. sym (goal-after_shut h robot farewell r));
    on = a.on;
    sized = a.sized;
    bridge = a.bridge;
    kept = a.kept;
  }

  -- the fields may be others
  pub aimed-still : {q : Planner} → goals_of q.aims ≡ goals_of p.aims → AreOn m q.aims → q.size ≡ p.size → q.bridgeless ≡ p.bridgeless → Keeps m q.kept → IsAimed m h q
  aimed-still same on size bridge kept = record {
    aimed = same ∙ a.aimed;
    on = on;
    sized = size ∙ a.sized;
    bridge = subst (λ b. IsTrue b ↔ IsBridgeless (IsNeighbour m)) (sym bridge) a.bridge;
    kept = kept;
  }

  -- other fields may be kept
  pub aimed-kept : {q : Planner} → q.aims ≡ p.aims → q.size ≡ p.size → q.bridgeless ≡ p.bridgeless → Keeps m q.kept → IsAimed m h q
  aimed-kept same size bridge kept = aimed-still (ap goals_of same) (subst (AreOn m) (sym same) a.on) size bridge kept

  pub aimed-tick : {q : Planner} (to : List ℕ) (arrived : List Arrival) (farewells : List Bye) → map due_of arrived ≡ due h to → goals_of q.aims ≡ goals_ticked s.queues to → AreOn m q.aims →
      q.size ≡ p.size → q.bridgeless ≡ p.bridgeless → Keeps m q.kept → IsAimed m (after h (entry.Tick to arrived farewells)) q
  aimed-tick to arrived farewells shows same on size bridge kept =
      let g : History A = after h (entry.Tick to arrived farewells) in
      record {
        aimed = same ∙ ap (λ n. map (λ r. goal_on (slice_index to r) (queue_at s.queues r).items) (range_with_len 0 n)) (queue-count k)
            ∙ same_by (robots h) (λ r. goal_on (slice_index to r) (queue_at s.queues r).items) (λ r. cell_of (front g r))
            (λ r l. ap (goal_on (slice_index to r)) (items-of k r l) ∙ on-ticked to r (unfinished h r) ∙ sym (goal-after_tick h to arrived farewells r l shows));
        on = on;
        sized = size ∙ a.sized;
        bridge = subst (λ b. IsTrue b ↔ IsBridgeless (IsNeighbour m)) (sym bridge) a.bridge;
        kept = kept;
      }

  -- a chapter that goes on has the same goals
  pub aimed-next : IsAimed m (start (next_opening h)) p
  aimed-next = record {
    aimed = a.aimed ∙ sym (ap (λ n. map (λ r. cell_of (front (start (next_opening h)) r)) (range_with_len 0 n)) (next-robots h)
        ∙ same_by (robots h) (λ r. cell_of (front (start (next_opening h)) r)) (λ r. cell_of (front h r)) (λ r l. ap cell_of (start-front h r l)));
    on = a.on;
    sized = a.sized ∙ ap (λ (n : ℕ). record { cells = length m.letters; robots = n }) (sym (next-robots h));
    bridge = a.bridge;
    kept = a.kept;
  }

replicate_none : (n r : ℕ) → slice_index_or (replicate {A = Option ℕ} n None) r None ≡ None
replicate_none zero r = refl
replicate_none (suc n) zero = refl
replicate_none (suc n) (suc r) = replicate_none n r

pub aimed-start : {A : Type 0} (m : Floor) (o : Opening A) (n : ℕ) (p : Planner) → length o.robots ≡ n → ((r : ℕ) → unfinished (start o) r ≡ []) → goals_of p.aims ≡ replicate n None → AreOn m p.aims →
    p.size ≡ record { cells = length m.letters; robots = n } → (IsTrue p.bridgeless ↔ IsBridgeless (IsNeighbour m)) → Keeps m p.kept → IsAimed m (start o) p
aimed-start {A = A} m o n p count none idle on sized bridge kept =
    let h : History A = start o in
    record {
      aimed = idle ∙ listed (robots h) (λ r. cell_of (front h r)) (replicate n None) (length-replicate n None ∙ sym count)
          (λ r l. replicate_none n r ∙ sym (ap (λ xs. cell_of (slice_get xs 0)) (none r)));
      on = on;
      sized = sized ∙ ap (λ (k : ℕ). record { cells = length m.letters; robots = k }) (sym count);
      bridge = bridge;
      kept = kept;
    }

-- ---- what is told

pub each_advances : {A : Type 0} (m : Floor) (ties : List TieLaw) (h : History A) → EachTick (IsPlanned m ties) h → IsBridgeless (IsNeighbour m) → EachTick (IsAdvancingTick m) h
each_advances m ties h planned none before behind to arrived farewells q = planned-advances m ties _ _ _ to none (planned before behind to arrived farewells q)

waits_none : {A : Type 0} (h : History A) (r : ℕ) (o : Option Errand) → wait_for h r o ≡ None → o ≡ None
waits_none h r None e = refl
waits_none h r (Some f) e = absurd (none_some _ (sym e))

-- nobody waits exactly where nobody has an errand
pub idle-is : {A : Type 0} (h : History A) (ws : List (Option ℕ)) → ws ≡ waits h → ((r : ℕ) → slice_index_or ws r None ≡ None) ↔ IsIdle h
idle-is h ws same = (
  λ none r l. waits_none h r (front h r) (sym (ap (λ (xs : List (Option ℕ)). slice_index_or xs r None) same ∙ item_of (wait h) (robots h) r l) ∙ none r),
  λ idle r. elim (cases_lt r (robots h)) [
    | inl l ↦ ap (λ (xs : List (Option ℕ)). slice_index_or xs r None) same ∙ item_of (wait h) (robots h) r l ∙ ap (wait_for h r) (idle r l)
    | inr l ↦ get_or_past ws r None (omega (arith, ap length same, length-by_robot (robots h) (wait h)))
  ],
)

-- there is a goal for each robot
pub aims-count : {A : Type 0} (h : History A) (aims : Courses) → goals_of aims ≡ goals h → length (goals_of aims) ≡ robots h
aims-count h aims same = ap length same ∙ length-by_robot (robots h) (λ r. cell_of (front h r))

-- nobody who has no errand has a goal
pub idle-goal : {A : Type 0} (h : History A) (aims : Courses) → goals_of aims ≡ goals h → IsIdle h → (r : ℕ) → goal aims r ≡ None
idle-goal h aims same idle r = ap (λ (gs : List (Option ℕ)). slice_index_or gs r None) same ∙ elim (cases_lt r (robots h)) [
  | inl l ↦ item_of (λ k. cell_of (front h k)) (robots h) r l ∙ ap cell_of (idle r l)
  | inr l ↦ get_or_past (goals h) r None (omega (arith, l, length-by_robot (robots h) (λ k. cell_of (front h k))))
]

none-lacks : {A : Type 0} (m : Floor) (h : History A) (aims : Courses) (cells : List ℕ) (r : ℕ) → goals_of aims ≡ goals h → IsIdle h → Lacks m aims cells r → ⊥
none-lacks m h aims cells r same idle lacks = false≢true (subst IsSome (idle-goal h aims same idle r) lacks.goal)

-- where nobody has an errand, nothing is searched, and nothing is missing
pub idle-search : {A : Type 0} (m : Floor) (h : History A) (old new : Courses) (cells : List ℕ) (searched : Bool) → goals_of old ≡ goals h → IsIdle h → IsSearch m cells old new searched → searched ≡ false
idle-search m h old new cells searched same idle is = elim (cases_Bool searched) [
  | inl t ↦ (let one = is.one t in absurd (none-lacks m h old cells one.0 same idle one.1))
  | inr f ↦ f
]

pub idle-missing : {A : Type 0} (m : Floor) (h : History A) (aims : Courses) (cells : List ℕ) (count : ℕ) → goals_of aims ≡ goals h → IsIdle h → AreMissing m aims cells count → count ≡ 0
idle-missing m h aims cells zero same idle are = refl
idle-missing m h aims cells (suc n) same idle are = (let some = are.some (omega arith) in absurd (none-lacks m h aims cells some.0 same idle some.1))
