-- Robots that wait for one another.
use Rattle.std.proofs.Common.{◌≡◌, ℕ, zero, suc, ◌+◌, ◌<◌, ◌≤◌, ◌⊎◌, inl, inr, sym, ◌∙◌, subst, refl, arith, Bool, true, false, ◌||◌, eqb, List, [], ◌∷◌, ◌++◌, length, length-append}
use Rattle.std.specs.List.{list_any, IsDistinct}
use Rattle.std.proofs.lemmas.Bool.{cases_lt, cases_Bool}
use Rattle.std.proofs.lemmas.Cmp.{nat_eq_equiv}
use Rattle.std.proofs.lemmas.Map.Keys.{IsDistinct-push, IsDistinct-from_apart}
use Rattle.std.proofs.lemmas.Map.Steps.{length-le_from_distinct_below}
use borrow.Author.Tests.{eqb-true}
use Rattle.execution_law.specs.declared.clearance.Clearance.TheVariants.{Arrived, Started}
use Rattle.execution_law.specs.Run.{Run, Moves, Leaves, Follows, Leads, IsMate, Turns}
use Rattle.execution_law.specs.Rule.{HasEnded, IsFree, IsNext, MayBegin, IsLawful}
use Rattle.execution_law.proofs.Cycles.{append, turns_on, leads_inside}

or_parts : (a b : Bool) → (a || b) ≡ true → (a ≡ true) ⊎ (b ≡ true)
or_parts true b e = inl refl
or_parts false b e = inr e

-- an element of a list with one more at the end
any_push : (x q : ℕ) (xs : List ℕ) → list_any (eqb x) (xs ++ q ∷ []) ≡ true → (list_any (eqb x) xs ≡ true) ⊎ (x ≡ q)
any_push x q [] e = elim (or_parts (eqb x q) false e) [ inl same ↦ inr (eqb-true x q same) | inr none ↦ cc ]
any_push x q (y ∷ ys) e = elim (or_parts (eqb x y) (list_any (eqb x) (ys ++ q ∷ [])) e) [
  | inl same ↦ inl (rw same refl)
  | inr rest ↦ elim (any_push x q ys rest) [
    | inl old ↦ inl (or_right (eqb x y) (list_any (eqb x) ys) old)
    | inr new ↦ inr new
  ]
]
  where
    or_right : (a b : Bool) → b ≡ true → (a || b) ≡ true
    or_right true b e = refl
    or_right false b e = e

empty_distinct : IsDistinct eqb []
empty_distinct = IsDistinct-from_apart eqb [] (λ i j d less small. absurd (omega arith))

-- a robot whose move in step t has not begun
record IsWaiting (run : Run) (t r : ℕ) : Type 0 where
  inside : r < run.plan.robots
  moves : Moves run.plan r t
  waits : run.begun r < t

-- a moment at which the moves before step t, and those of step t that have begun, keep nobody from beginning a move of step t
pub record IsEven (run : Run) (t : ℕ) : Type 0 where
  pub planned : t ≤ run.plan.steps
  pub before : (q s : ℕ) → q < run.plan.robots → s < t → Moves run.plan q s → s ≤ run.begun q
  pub done : (q s : ℕ) → q < run.plan.robots → s ≤ t → Moves run.plan q s → s ≤ run.begun q → HasEnded run q s
  pub free : (q : ℕ) → q < run.plan.robots → run.begun q < t → IsFree run q

module _ (run : Run) (lawful : IsLawful run) (t : ℕ) (even : IsEven run t) (stuck : (r s : ℕ) → r < run.plan.robots → MayBegin run r s → ⊥) where
  is_next : (r : ℕ) → IsWaiting run t r → IsNext run r t
  is_next r w = record {
    planned = even.planned;
    moves = w.moves;
    begins = w.waits;
    first = λ s later earlier moves. omega (arith, later, even.before r s w.inside earlier moves);
  }

  -- those that turn with a robot that waits wait too
  mates_wait : (n r q : ℕ) → IsWaiting run t r → Turns run.plan t r → Leads run.plan t n r q → IsWaiting run t q
  mates_wait zero r q w turns leads = subst (λ (x : ℕ). IsWaiting run t x) leads w
  mates_wait (suc n) r q w turns leads =
      let p = leads.0 in
      let with_it = turns_on run.plan t r leads.0 lawful.free_of_conflicts even.planned leads.1 turns leads.2 in
      let next : IsWaiting run t leads.0 = record {
        inside = leads.1;
        moves = leads.2.leaves.moves;
        waits = elim (cases_lt (run.begun leads.0) t) [
          | inl less ↦ less
          | inr begun ↦ absurd (omega (arith, w.waits, lawful.together leads.0 r t leads.1 with_it.turns with_it.mate begun))
        ];
      } in
      mates_wait n leads.0 q next with_it.turns leads.3

  none_turns : (r : ℕ) → IsWaiting run t r → Turns run.plan t r → ⊥
  none_turns r w turns = stuck r t w.inside (inr (record {
    turns = turns;
    free = λ q mate. let m = mates_wait mate.count r q w turns mate.leads in even.free q m.inside m.waits;
    next = λ q mate. is_next q (mates_wait mate.count r q w turns mate.leads);
  }))

  -- who keeps a robot from beginning waits too, and the list of those that lead to it grows
  goes_on : (xs : List ℕ) (r : ℕ) → IsDistinct eqb xs → ((x : ℕ) → list_any (eqb x) xs ≡ true → x < run.plan.robots)
      → ((x : ℕ) → list_any (eqb x) xs ≡ true → IsMate run.plan t x r) → IsWaiting run t r
      → (q e : ℕ) → q < run.plan.robots → e ≤ t → Leaves run.plan q e (run.plan.cell t r) → run.begun q < e
      → (list_any (eqb q) xs ≡ false → IsDistinct eqb (xs ++ q ∷ []) → ((x : ℕ) → list_any (eqb x) (xs ++ q ∷ []) ≡ true → x < run.plan.robots)
      → ((x : ℕ) → list_any (eqb x) (xs ++ q ∷ []) ≡ true → IsMate run.plan t x q) → IsWaiting run t q → ⊥) → ⊥
  goes_on xs r distinct inside leads w q e q_in early leaves waits grown =
      let last : e ≡ t = elim (cases_lt e t) [
        | inl earlier ↦ absurd (omega (arith, waits, even.before q e q_in earlier leaves.moves))
        | inr at ↦ omega arith
      ] in
      let leaves_now : Leaves run.plan q t (run.plan.cell t r) = subst (λ (x : ℕ). Leaves run.plan q x (run.plan.cell t r)) last leaves in
      let follows : Follows run.plan t r q = record { enters = w.moves; leaves = leaves_now } in
      let next : IsWaiting run t q = record { inside = q_in; moves = leaves_now.moves; waits = omega arith } in
      elim (cases_Bool (list_any (eqb q) xs)) [
        | inl old ↦ (let m = leads q old in none_turns q next (record { count = m.count; leads = append run.plan t m.count q r q m.leads q_in follows }))
        | inr new ↦ grown new (IsDistinct-push nat_eq_equiv xs q distinct new)
            (λ x is. elim (any_push x q xs is) [ inl before ↦ inside x before | inr same ↦ subst (λ (y : ℕ). y < run.plan.robots) (sym same) q_in ])
            (λ x is. elim (any_push x q xs is) [
              | inl before ↦ (let m = leads x before in record { count = suc m.count; leads = append run.plan t m.count x r q m.leads q_in follows })
              | inr same ↦ record { count = zero; leads = same }
            ])
            next
      ]

  -- the robots of a list lead to the last of them, which waits: so does who is before it, and the list grows
  none_leads : (fuel : ℕ) (xs : List ℕ) (r : ℕ) → run.plan.robots < fuel + length xs → IsDistinct eqb xs
      → ((x : ℕ) → list_any (eqb x) xs ≡ true → x < run.plan.robots) → ((x : ℕ) → list_any (eqb x) xs ≡ true → IsMate run.plan t x r) → IsWaiting run t r → ⊥
  none_leads zero xs r many distinct inside leads w = omega (arith, many, length-le_from_distinct_below xs run.plan.robots distinct inside)
  none_leads (suc fuel) xs r many distinct inside leads w = stuck r t w.inside (inl (record {
    free = even.free r w.inside w.waits;
    next = is_next r w;
    clear = λ q e q_in early leaves. elim (cases_lt (run.begun q) e) [
      | inr begun ↦ even.done q e q_in early leaves.moves begun
      | inl waits ↦ absurd (goes_on xs r distinct inside leads w q e q_in early leaves waits
          (λ new apart all each next. none_leads fuel (xs ++ q ∷ []) q (omega (arith, many, length-append xs (q ∷ []))) apart all each next))
    ];
  }))

  pub none_waits : (r : ℕ) → r < run.plan.robots → Moves run.plan r t → t ≤ run.begun r
  none_waits r inside moves = elim (cases_lt (run.begun r) t) [
    | inr begun ↦ begun
    | inl waits ↦ absurd (none_leads (suc run.plan.robots) [] r (omega arith) empty_distinct (λ x none. cc) (λ x none. cc) (record { inside = inside; moves = moves; waits = waits }))
  ]

-- while no robot is under way
pub progress : (run : Run) → IsLawful run → ((q : ℕ) → q < run.plan.robots → run.begun q ≡ run.reached q)
    → ((r s : ℕ) → r < run.plan.robots → MayBegin run r s → ⊥) → (r t : ℕ) → r < run.plan.robots → t ≤ run.plan.steps → Moves run.plan r t → t ≤ run.begun r
progress run lawful standing stuck r t inside planned moves = up_to (suc t) r t (omega arith) inside planned moves
  where
    free : (q : ℕ) → q < run.plan.robots → IsFree run q
    free q q_in = record {
      stands = standing q q_in;
      turned = λ arrived turns p mate.
          let p_in = leads_inside run.plan (run.begun q) mate.count q p q_in mate.leads in
          omega (arith, standing p p_in, lawful.together q p (run.begun q) q_in turns mate (omega arith));
    }

    up_to : (bound r t : ℕ) → t < bound → r < run.plan.robots → t ≤ run.plan.steps → Moves run.plan r t → t ≤ run.begun r
    up_to zero r t below inside planned moves = absurd (omega arith)
    up_to (suc bound) r t below inside planned moves = none_waits run lawful t (record {
      planned = planned;
      before = λ q s q_in earlier q_moves. up_to bound q s (omega arith) q_in (omega arith) q_moves;
      done = λ q s q_in early q_moves begun. inl (omega (arith, begun, standing q q_in));
      free = λ q q_in waits. free q q_in;
    }) stuck r inside moves

-- as soon as a robot has begun to move, another may begin to move to its cell: robots move in step
pub in_step : (run : Run) → IsLawful run → run.clearance ≡ Started → ((q s : ℕ) → q < run.plan.robots → s < run.plan.steps → Moves run.plan q s → s ≤ run.begun q)
    → ((q : ℕ) → q < run.plan.robots → run.begun q < run.plan.steps → run.begun q ≡ run.reached q)
    → ((r s : ℕ) → r < run.plan.robots → MayBegin run r s → ⊥) → (r : ℕ) → r < run.plan.robots → Moves run.plan r run.plan.steps → run.plan.steps ≤ run.begun r
in_step run lawful started before standing stuck r inside moves = none_waits run lawful run.plan.steps (record {
  planned = omega arith;
  before = before;
  done = λ q s q_in early q_moves begun. inr (begun, inl started);
  free = λ q q_in waits. record { stands = standing q q_in waits; turned = λ arrived. absurd (other (sym started ∙ arrived)) };
}) stuck r inside moves
  where
    other : Started ≡ Arrived → ⊥
    other e = cc
