-- The turns of a tick lead to the goals after it.
use Rattle.std.proofs.Common.{◌≡◌, ℕ, zero, suc, ◌+◌, ◌<◌, ◌≤◌, List, [], ◌∷◌, ◌++◌, length, get_or, cond, eqb, Bool, true, false, Option, Some, None, sym, refl, ap, ◌∙◌, subst, arith, inl, inr}
use Rattle.std.specs.Prelude.{All, unwrap_or, slice_get, slice_set, slice_index}
use Rattle.std.specs.List.{flat_map, range_with_len}
use Rattle.std.proofs.lemmas.Bool.{cases_eq}
use Rattle.std.proofs.lemmas.List.{append-nil, length-append, length-set, get_or-set_same, get_or-set_other}
use Rattle.std.proofs.lemmas.List.Elements.{All-nil, All-append}
use Rattle.std.proofs.lemmas.Option.{slice_get_within, get_or_from_slice_get}
use Rattle.fleet_grid.specs.Floor.{Floor, IsFloor}
use Rattle.fleet_planner.specs.Courses.{goals_of}
use Rattle.fleet_planner.specs.Turned.{turned, AreFloorTurns, AreKnownTurns}
use Rattle.fleet_planner.specs.declared.turns.GoalChange.{GoalChange}
use Rattle.fleet_queue.specs.declared.errand.Errand.{Errand}
use Rattle.fleet_queue.specs.Queue.{Queue}
use Rattle.fleet_history.specs.History.{History, robots, place, unfinished, front}
use Rattle.fleet_history.proofs.Legal.{All-single}
use Rattle.fleet_history.proofs.Reach.{CanBeReached, legal-reach}
use Rattle.fleet_planner.specs.Planned.{cell_of}
use Rattle.fleet_planner.proofs.Lists.{item_of}
use Rattle.fleet_state.specs.Landed.{landing}
use Rattle.fleet_state.specs.Robots.{queue_at}
use Rattle.fleet_state.specs.State.{State, IsStateOf}
use Rattle.fleet_state.proofs.Judged.{items-of}
use Rattle.fleet_state.proofs.Parts.{queue-count, length-by, listed}
use Rattle.fleet_state.proofs.Ranges.{flat_map-range_more}
use Rattle.fleet_planner.specs.Aimed.{Planner, IsAimed, goal_on, goals_ticked, turn_on, turns_ticked}

-- ---- one robot

abbrev turn_of : ℕ → List Errand → GoalChange
turn_of r u = record { robot = r; goal = cell_of (slice_get u 1) }

none_some : {X : Type 0} (x : X) → None ≡ Some x → ⊥
none_some x e = cc

turn-lands : (r cell : ℕ) (u : List Errand) (e : Errand) → landing cell u ≡ Some e → turn_on r cell u ≡ turn_of r u ∷ []
turn-lands r cell [] e l = absurd (none_some e l)
turn-lands r cell (f ∷ rest) e l = by_case (eqb f.cell cell) l
  where
    by_case : (b : Bool) → cond {A = Option Errand} b (Some f) None ≡ Some e → cond {A = List GoalChange} b (turn_of r (f ∷ rest) ∷ []) [] ≡ turn_of r (f ∷ rest) ∷ []
    by_case true l = refl
    by_case false l = absurd (none_some e l)

turn-stays : (r cell : ℕ) (u : List Errand) → landing cell u ≡ None → turn_on r cell u ≡ []
turn-stays r cell [] l = refl
turn-stays r cell (f ∷ rest) l = by_case (eqb f.cell cell) l
  where
    by_case : (b : Bool) → cond {A = Option Errand} b (Some f) None ≡ None → cond {A = List GoalChange} b (turn_of r (f ∷ rest) ∷ []) [] ≡ []
    by_case true l = absurd (none_some f (sym l))
    by_case false l = refl

-- a robot lands and turns to its next errand, or keeps its goal
turn_cases : (P : List GoalChange → Type 0) (r cell : ℕ) (u : List Errand) → (goal_on cell u ≡ cell_of (slice_get u 1) → P (turn_of r u ∷ [])) → (goal_on cell u ≡ cell_of (slice_get u 0) → P []) → P (turn_on r cell u)
turn_cases P r cell [] lands stays = stays refl
turn_cases P r cell (f ∷ rest) lands stays = by_case (eqb f.cell cell) lands stays
  where
    by_case : (b : Bool) → (cond b (cell_of (slice_get rest 0)) (Some f.cell) ≡ cell_of (slice_get rest 0) → P (turn_of r (f ∷ rest) ∷ []))
        → (cond b (cell_of (slice_get rest 0)) (Some f.cell) ≡ Some f.cell → P []) → P (cond b (turn_of r (f ∷ rest) ∷ []) [])
    by_case true lands stays = lands refl
    by_case false lands stays = stays refl

second_floor : (m : Floor) (at : ℕ) (u : List Errand) (cell : ℕ) → All (CanBeReached m at) u → cell_of (slice_get u 1) ≡ Some cell → IsFloor m cell
second_floor m at [] cell all e = absurd (none_some cell e)
second_floor m at (f ∷ []) cell all e = absurd (none_some cell e)
second_floor m at (f ∷ x ∷ u) cell all e = subst (IsFloor m) (ap (λ (o : Option ℕ). unwrap_or o 0) e) (all 1 f (omega arith)).floor

-- ---- several turns

turned_behind : (ts us : List GoalChange) (gs : List (Option ℕ)) → turned (ts ++ us) gs ≡ turned us (turned ts gs)
unfolding turned
turned_behind [] us gs = refl
turned_behind (t ∷ ts) us gs = turned_behind ts us (slice_set gs t.robot t.goal)

module _ (queues : List Queue) (to : List ℕ) where
  abbrev errands : ℕ → List Errand
  errands r = (queue_at queues r).items

  -- the turns of the robots below n
  abbrev turns_below : ℕ → List GoalChange
  turns_below n = flat_map (λ r. turn_on r (slice_index to r) (errands r)) (range_with_len 0 n)

  abbrev IsTurnBelow : ℕ → GoalChange → Type 0
  IsTurnBelow n t = (t.robot < n) × (t.goal ≡ cell_of (slice_get (errands t.robot) 1))

  -- one more robot
  turns_more : (n : ℕ) → turns_below (n + 1) ≡ turns_below n ++ turn_on n (slice_index to n) (errands n)
  turns_more n = flat_map-range_more (λ r. turn_on r (slice_index to r) (errands r)) n

  turns_next : (n : ℕ) → turns_below (suc n) ≡ turns_below n ++ turn_on n (slice_index to n) (errands n)
  turns_next n = let more : suc n ≡ n + 1 = omega arith in ap turns_below more ∙ turns_more n

  pub turns-land : (n : ℕ) (ts : List GoalChange) (o : Option Errand) (e : Errand) (x : Option ℕ) → ts ≡ turns_below n → o ≡ landing (slice_index to n) (errands n) → o ≡ Some e → x ≡ cell_of (slice_get (errands n) 1) → ts ++ record { robot = n; goal = x } ∷ [] ≡ turns_below (n + 1)
  turns-land n ts o e x same finds lands goes =
      ap (λ (xs : List GoalChange). xs ++ record { robot = n; goal = x } ∷ []) same
      ∙ (ap (λ (y : Option ℕ). turns_below n ++ record { robot = n; goal = y } ∷ []) goes ∙ sym (turns_more n ∙ ap (λ (xs : List GoalChange). turns_below n ++ xs) (turn-lands n (slice_index to n) (errands n) e (sym finds ∙ lands))))

  pub turns-stay : (n : ℕ) (ts : List GoalChange) (o : Option Errand) → ts ≡ turns_below n → o ≡ landing (slice_index to n) (errands n) → o ≡ None → ts ≡ turns_below (n + 1)
  turns-stay n ts o same finds stays =
      same ∙ sym (turns_more n ∙ (ap (λ (xs : List GoalChange). turns_below n ++ xs) (turn-stays n (slice_index to n) (errands n) (sym finds ∙ stays)) ∙ append-nil (turns_below n)))

  turn_one : (n : ℕ) → length (turn_on n (slice_index to n) (errands n)) ≤ 1
  turn_one n = turn_cases (λ ts. length ts ≤ 1) n (slice_index to n) (errands n) (λ e. omega arith) (λ e. omega arith)

  pub turns-few : (n : ℕ) → length (turns_below n) ≤ n
  turns-few zero = omega arith
  turns-few (suc n) = omega (arith, ap length (turns_next n), length-append (turns_below n) (turn_on n (slice_index to n) (errands n)), turn_one n, turns-few n)

  turns_all : (n bound : ℕ) → n ≤ bound → All (IsTurnBelow bound) (turns_below n)
  turns_all zero bound l = All-nil (IsTurnBelow bound)
  turns_all (suc n) bound l =
      subst (All (IsTurnBelow bound)) (sym (turns_next n)) (All-append (IsTurnBelow bound) (turns_below n) (turn_on n (slice_index to n) (errands n)) (turns_all n bound (omega (arith, l)))
      (turn_cases (All (IsTurnBelow bound)) n (slice_index to n) (errands n) (λ e. All-single (IsTurnBelow bound) (turn_of n (errands n)) (omega (arith, l), refl)) (λ e. All-nil (IsTurnBelow bound))))

  turn_at : (i : ℕ) (t : GoalChange) → slice_get (turns_ticked queues to) i ≡ Some t → IsTurnBelow (length queues) t
  turn_at i t e =
      subst (IsTurnBelow (length queues)) (get_or_from_slice_get (turns_ticked queues to) i t t e)
      (turns_all (length queues) (length queues) (omega arith) i t (slice_get_within (turns_ticked queues to) i t e))

  pub turns-known : AreKnownTurns (length queues) (turns_ticked queues to)
  turns-known i t e = (turn_at i t e).0

  -- the robots below n have their goals after the tick, the others those before it
  record AreGoalsBelow (n : ℕ) (gs : List (Option ℕ)) : Type 0 where
    count : length gs ≡ length queues
    behind : (r : ℕ) → r < n → r < length queues → get_or gs r None ≡ goal_on (slice_index to r) (errands r)
    before : (r : ℕ) → n ≤ r → r < length queues → get_or gs r None ≡ cell_of (slice_get (errands r) 0)

  goals_stay : (n : ℕ) (gs : List (Option ℕ)) → AreGoalsBelow n gs → goal_on (slice_index to n) (errands n) ≡ cell_of (slice_get (errands n) 0) → AreGoalsBelow (n + 1) gs
  goals_stay n gs b same = record {
    count = b.count;
    behind = λ r l known. elim (cases_eq n r) [
      | inl e ↦ subst (λ k. get_or gs k None ≡ goal_on (slice_index to k) (errands k)) e (b.before n (omega arith) (omega (arith, e, known)) ∙ sym same)
      | inr ne ↦ b.behind r (omega (arith, l, ne)) known
    ];
    before = λ r l known. b.before r (omega (arith, l)) known;
  }

  goals_turn : (n : ℕ) (gs : List (Option ℕ)) (x : Option ℕ) → n < length queues → AreGoalsBelow n gs → goal_on (slice_index to n) (errands n) ≡ x → AreGoalsBelow (n + 1) (slice_set gs n x)
  goals_turn n gs x less b same = record {
    count = length-set gs n x ∙ b.count;
    behind = λ r l known. elim (cases_eq n r) [
      | inl e ↦ subst (λ k. get_or (slice_set gs n x) k None ≡ goal_on (slice_index to k) (errands k)) e (get_or-set_same gs n x None (let c = b.count in omega (arith, less, c)) ∙ sym same)
      | inr ne ↦ get_or-set_other gs n r x None (λ e. ne (sym e)) ∙ b.behind r (omega (arith, l, ne)) known
    ];
    before = λ r l known. get_or-set_other gs n r x None (λ e. omega (arith, e, l)) ∙ b.before r (omega (arith, l)) known;
  }

  goals_more : (n : ℕ) (gs : List (Option ℕ)) → n < length queues → AreGoalsBelow n gs → AreGoalsBelow (n + 1) (turned (turn_on n (slice_index to n) (errands n)) gs)
  unfolding turned
  goals_more n gs less b = turn_cases (λ ts. AreGoalsBelow (n + 1) (turned ts gs)) n (slice_index to n) (errands n) (goals_turn n gs (cell_of (slice_get (errands n) 1)) less b) (goals_stay n gs b)

  goals_below : (n : ℕ) (gs : List (Option ℕ)) → n ≤ length queues → AreGoalsBelow 0 gs → AreGoalsBelow n (turned (turns_below n) gs)
  unfolding turned
  goals_below zero gs l b = b
  goals_below (suc n) gs l b =
      subst (AreGoalsBelow (suc n)) (sym (ap (λ (ts : List GoalChange). turned ts gs) (turns_next n) ∙ turned_behind (turns_below n) (turn_on n (slice_index to n) (errands n)) gs))
      (let more = goals_more n (turned (turns_below n) gs) (omega (arith, l)) (goals_below n gs (omega (arith, l)) b) in
      record { count = more.count; behind = λ r l known. more.behind r (omega (arith, l)) known; before = λ r l known. more.before r (omega (arith, l)) known })

  pub turned-ticked : (gs : List (Option ℕ)) → length gs ≡ length queues → ((r : ℕ) → r < length queues → get_or gs r None ≡ cell_of (slice_get (errands r) 0)) → turned (turns_ticked queues to) gs ≡ goals_ticked queues to
  turned-ticked gs count before =
      let b = goals_below (length queues) gs (omega arith) (record { count = count; behind = λ r l known. absurd (omega (arith, l)); before = λ r l known. before r known }) in
      listed None (length queues) (λ r. goal_on (slice_index to r) (errands r)) (turned (turns_ticked queues to) gs) b.count (λ r l. b.behind r l l)

-- ---- the goals of a history

module _ {A : Type 0} {m : Floor} {h : History A} {s : State A} {p : Planner} (k : IsStateOf m h s) (a : IsAimed m h p) (to : List ℕ) where
  pub turns-floor : AreFloorTurns m (turns_ticked s.queues to)
  turns-floor i t cell at goes =
      let is = turn_at s.queues to i t at in
      let known : t.robot < robots h = omega (arith, is.0, queue-count k) in
      second_floor m (slice_index (place h) t.robot) (unfinished h t.robot) cell (legal-reach m h t.robot k.legal known)
      (ap (λ (u : List Errand). cell_of (slice_get u 1)) (sym (items-of k t.robot known)) ∙ sym is.1 ∙ goes)

  pub turned-goals : turned (turns_ticked s.queues to) (goals_of p.aims) ≡ goals_ticked s.queues to
  turned-goals =
      turned-ticked s.queues to (goals_of p.aims) (ap length a.aimed ∙ length-by (λ r. cell_of (front h r)) (robots h) ∙ sym (queue-count k))
      (λ r l.
      let known : r < robots h = omega (arith, l, queue-count k) in
      ap (λ (gs : List (Option ℕ)). get_or gs r None) a.aimed ∙ item_of (λ r. cell_of (front h r)) (robots h) r known ∙ ap (λ (u : List Errand). cell_of (slice_get u 0)) (sym (items-of k r known)))
