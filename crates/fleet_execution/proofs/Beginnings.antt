-- Beginnings, as the state keeps them.
use Rattle.std.proofs.Common.{◌≡◌, ◌≢◌, ℕ, zero, suc, ◌+◌, ◌-◌, ◌<◌, inl, inr, Bool, true, false, cond, eqb, List, [], ◌∷◌, ◌++◌, drop, Option, Some, None, slice_get, length, get_or, set, refl, sym, ◌∙◌, ap, subst, arith, length-set, get_or-set_same, get_or-set_other}
use Rattle.std.specs.List.{list_any}
use Rattle.std.proofs.lemmas.Bool.{cases_eq, cases_Bool}
use Rattle.execution_law.specs.declared.clearance.Clearance.TheVariants.{Started}
use Rattle.execution_law.specs.Run.{Run, Moves, IsMate}
use Rattle.execution_law.specs.Rule.{IsNext, MayBeginAlone, MayTurn, IsLawful}
use Rattle.execution_law.specs.Change.{Begins}
use Rattle.execution_law.proofs.Cycles.{mate_turns}
use Rattle.execution_law.proofs.Kept.{alone_never_turns}
use Rattle.fleet_execution.specs.declared.motion.Move.{Move}
use Rattle.fleet_execution.specs.declared.robot.Turning.{Turning}
use Rattle.fleet_execution.specs.declared.state.State.{State}
use Rattle.fleet_execution.specs.Course.{Course, put}
use Rattle.fleet_execution.specs.Queue.{Line}
use Rattle.fleet_execution.specs.Desk.{Desk, before_in, chain}
use Rattle.fleet_execution.specs.Executes.{IsKept, IsTurning, IsTurningOf, AreReturned, IsIn, Executes}
use Rattle.fleet_execution.specs.Asked.{IsNextIn, MayTurnIn}
use Rattle.fleet_execution.specs.State.{desk_of, nobody, IsSized}
use Rattle.fleet_execution.specs.Given.{IsMove, Gives}
use Rattle.fleet_execution.proofs.Chains.{first, placed, round}
use Rattle.fleet_execution.proofs.Queues.{push_has, push_keeps, first_or_rest}
use Rattle.fleet_execution.proofs.Put.{put_same, put_other}
use Rattle.fleet_execution.proofs.Rings.{member, on, turns_moves}
use Rattle.fleet_execution.proofs.Asked.{free_of_conflicts, next_from}
use Rattle.fleet_execution.proofs.Ready.{is_kept, turn_from}
use Rattle.fleet_execution.proofs.Answered.{all_of}
use Rattle.fleet_execution.proofs.Given.{given_robot, begun_alone, begun_turn}
use Rattle.fleet_execution.proofs.Passed.{passed, kept_turn}

module _ (d : Desk) (o : Course) (x : Executes d o) (r t : ℕ) (inside : r < o.run.plan.robots) (kept : IsKept d.ahead o.run.plan.steps t) (moves : Moves o.run.plan r t)
    (none : (s : ℕ) → o.run.reached r < s → s < t → Moves o.run.plan r s → ⊥) (later : o.run.reached r < t) where
  stood : (k : ℕ) → o.run.reached r + k < t → o.run.plan.cell (o.run.reached r + k) r ≡ o.run.plan.cell (o.run.reached r) r
  stood zero less = let z : o.run.reached r + 0 ≡ o.run.reached r = omega arith in ap (λ (k : ℕ). o.run.plan.cell k r) z
  stood (suc k) less = elim (cases_eq (o.run.plan.cell (o.run.reached r + suc k) r) (o.run.plan.cell (o.run.reached r + suc k - 1) r)) [
    | inl same ↦ (let z : o.run.reached r + suc k - 1 ≡ o.run.reached r + k = omega arith in same ∙ (ap (λ (j : ℕ). o.run.plan.cell j r) z ∙ stood k (omega arith)))
    | inr other ↦ absurd (none (o.run.reached r + suc k) (omega arith) less (record { later = omega arith; other = other }))
  ]

  -- the move of the robot in the step
  pub move_is : IsMove o (record { robot = r; from = (d.robot r).cell; to = (d.window r t).to; tick = t })
  move_is =
      let z : o.run.reached r + (t - 1 - o.run.reached r) ≡ t - 1 = omega arith in
      record {
        inside = inside;
        moves = moves;
        from = (x.tracked r inside).cell ∙ (sym (stood (t - 1 - o.run.reached r) (omega arith)) ∙ ap (λ (k : ℕ). o.run.plan.cell k r) z);
        to = x.knows.to r t inside kept;
      }

-- a robot begins alone
pub begins_alone : (run : Run) (r t : ℕ) → IsLawful run → r < run.plan.robots → MayBeginAlone run r t → Begins run r t (put run.begun r t)
begins_alone run r t lawful inside may = record {
  inside = inside;
  may = inl may;
  each = λ q q_in. elim (cases_eq q r) [
    | inl same ↦ inl (inl same, put_same run.begun r t q same)
    | inr other ↦ inr (
      λ with_it. elim with_it [ inl same ↦ other same | inr turning ↦ alone_never_turns run r t lawful inside may turning.0 ],
      put_other run.begun r t q other,
    )
  ];
}

in_first : (g : ℕ → ℕ) (n i : ℕ) → i < n → list_any (eqb (g i)) (first g n) ≡ true
unfolding first
in_first g zero i less = absurd (omega arith)
in_first g (suc n) i less = elim (cases_eq i n) [
  | inl same ↦ subst (λ (k : ℕ). list_any (eqb (g k)) (first g n ++ g n ∷ []) ≡ true) (sym same) (push_has (g n) (first g n))
  | inr other ↦ push_keeps (g i) (g n) (first g n) (in_first g n i (omega (arith, less, other)))
]

-- the steps that robots have begun, with those of a list
pub begun_with : List ℕ → ℕ → (ℕ → ℕ) → ℕ → ℕ
begun_with members t begun q = cond (list_any (eqb q) members) t (begun q)

with_member : (members : List ℕ) (t : ℕ) (begun : ℕ → ℕ) (q : ℕ) → list_any (eqb q) members ≡ true → begun_with members t begun q ≡ t
unfolding begun_with
with_member members t begun q is = rw is refl

without_member : (members : List ℕ) (t : ℕ) (begun : ℕ → ℕ) (q : ℕ) → list_any (eqb q) members ≡ false → begun_with members t begun q ≡ begun q
unfolding begun_with
without_member members t begun q is = rw is refl

two : true ≡ false → ⊥
two e = cc

module _ (d : Desk) (o : Course) (x : Executes d o) (all : AreReturned o) (r t size : ℕ) (inside : r < o.run.plan.robots) (next : IsNextIn d r t) (may : MayTurnIn d t r size) where
  pub turn_is : MayTurn o.run r t
  turn_is = turn_from d o x r t inside all size may

  next_is : IsNext o.run r t
  next_is = next_from d o x r inside (all r inside) t next

  pub members : List ℕ
  members = first (chain (before_in d.window t) r) size

  kept_is : IsKept d.ahead o.run.plan.steps t
  kept_is = is_kept d o x r t inside next_is

  mate_from : (q : ℕ) → list_any (eqb q) members ≡ true → IsMate o.run.plan t r q
  unfolding members
  mate_from q is =
      let p = placed (chain (before_in d.window t) r) size q is in
      subst (λ (y : ℕ). IsMate o.run.plan t r y) (sym p.is) (member o.run.plan d.ahead d.cells d.window d.leave x.knows (free_of_conflicts d o x) t kept_is r p.at inside turn_is.turns).mate

  member_from : (q : ℕ) → IsMate o.run.plan t r q → list_any (eqb q) members ≡ true
  unfolding members
  member_from q mate =
      let place = on o.run.plan d.ahead d.cells d.window d.leave x.knows (free_of_conflicts d o x) t kept_is r q inside turn_is.turns mate in
      let at = round (before_in d.window t) r size may.some may.back place.place in
      let is : chain (before_in d.window t) r at.place ≡ q = sym at.same ∙ place.is in
      subst (λ (y : ℕ). list_any (eqb y) (first (chain (before_in d.window t) r) size) ≡ true) is (in_first (chain (before_in d.window t) r) size at.place at.below)

  pub begins_turn : Begins o.run r t (begun_with members t o.run.begun)
  begins_turn = record {
    inside = inside;
    may = inr turn_is;
    each = λ q q_in. elim (cases_Bool (list_any (eqb q) members)) [
      | inl is ↦ inl (inr (turn_is.turns, mate_from q is), with_member members t o.run.begun q is)
      | inr is ↦ inr (
        λ with_it. elim with_it [
          | inl same ↦ two (sym (member_from q (record { count = zero; leads = sym same })) ∙ is)
          | inr turning ↦ two (sym (member_from q turning.1) ∙ is)
        ],
        without_member members t o.run.begun q is,
      )
    ];
  }

-- what is kept after a robot's move was given, and that move
abbrev pub give_state : {A : Type 0} → State A → ℕ → ℕ → Bool → State A
give_state s r t turns = record s {
  robots = set s.robots r (record ((desk_of s).robot r) { bound = ((desk_of s).window r t).to; returned = t; turned = cond turns t ((desk_of s).robot r).turned });
}

abbrev pub give_move : {A : Type 0} → State A → ℕ → ℕ → Move
give_move s r t = record { robot = r; from = ((desk_of s).robot r).cell; to = ((desk_of s).window r t).to; tick = t }

pub sized_give : {A : Type 0} (s : State A) (r t : ℕ) (turns : Bool) → IsSized s → IsSized (give_state s r t turns)
sized_give s r t turns z = record {
  some = z.some;
  robots = length-set s.robots r _ ∙ z.robots;
  window = z.window;
  unreached = z.unreached;
  ready = z.ready;
  marks = z.marks;
  small = z.small;
}

pub sized_turning : {A : Type 0} (s : State A) (k : Option Turning) → IsSized s → IsSized (record s { turning = k })
sized_turning s k z = record { some = z.some; robots = z.robots; window = z.window; unreached = z.unreached; ready = z.ready; marks = z.marks; small = z.small }

module _ {A : Type 0} (s : State A) (o : Course) (x : Executes (desk_of s) o) (sized : IsSized s) (r t : ℕ) (inside : r < s.count) where
  r_in : r < o.run.plan.robots
  r_in = omega (arith, inside, x.robots)

  r_place : r < length s.robots
  r_place = omega (arith, inside, sized.robots)

  pub alone_gives : s.turning ≡ None → (q : Line) → slice_get s.ready.items 0 ≡ Some r → MayBeginAlone o.run r t
      → ((y : ℕ) → IsIn (drop 1 s.ready.items) y → IsIn q.items y)
      → (s.clearance ≡ Started → (f : ℕ) → f < s.count → ((desk_of s).window r t).follower ≡ Some f → IsIn q.items f)
      → Gives o (give_move s r t) (desk_of (give_state (record s { ready = q }) r t false))
  alone_gives idle q front may more wakes =
      let all = all_of o s.turning idle x.turning in
      let begins = begins_alone o.run r t x.course.lawful r_in may in
      let now = record ((desk_of s).robot r) { bound = ((desk_of s).window r t).to; returned = t } in (
        move_is (desk_of s) o x r t r_in (is_kept (desk_of s) o x r t r_in may.next) may.next.moves (λ u later less moves. may.next.first u (omega (arith, later, may.free.stands)) less moves)
            (omega (arith, may.next.begins, may.free.stands)),
        omega (arith, all r r_in, may.next.begins),
        inl (
          put o.run.begun r t,
          all,
          begins,
          begun_alone (desk_of s) o x all r t (put o.run.begun r t) begins may
              (λ y. get_or (set s.robots r (given_robot (desk_of s) r t ((desk_of s).robot r).turned)) y nobody) q.items s.turning idle
              (get_or-set_same s.robots r (given_robot (desk_of s) r t ((desk_of s).robot r).turned) nobody r_place)
              (λ y other. get_or-set_other s.robots r y (given_robot (desk_of s) r t ((desk_of s).robot r).turned) nobody other)
              (λ y has. elim (first_or_rest s.ready.items r y front has) [ inl same ↦ inl same | inr rest ↦ inr (more y rest) ])
              (λ started f f_in told. wakes (sym x.clearance ∙ started) f (omega (arith, f_in, x.robots)) told),
        ),
      )

  pub turn_gives : s.turning ≡ None → (q : Line) → slice_get s.ready.items 0 ≡ Some r → IsNextIn (desk_of s) r t → (size : ℕ) → MayTurnIn (desk_of s) t r size
      → q.items ≡ drop 1 s.ready.items → (n : ℕ) → n ≡ before_in (desk_of s).window t r
      → Gives o (give_move s r t) (desk_of (give_state (record s { ready = q; turning = Some (record { step = t; first = r; next = n }) }) r t true))
  turn_gives idle q front next size may rest n is =
      let all = all_of o s.turning idle x.turning in
      let turn = turn_is (desk_of s) o x all r t size r_in next may in
      let mine = turn.next r (record { count = zero; leads = refl }) in
      let free = turn.free r (record { count = zero; leads = refl }) in
      let begins = begins_turn (desk_of s) o x all r t size r_in next may in
      let b = begun_with (members (desk_of s) o x all r t size r_in next may) t o.run.begun in
      let done = begun_turn (desk_of s) o x all r t (begun_with (members (desk_of s) o x all r t size r_in next may) t o.run.begun) begins turn
      (λ y. get_or (set s.robots r (given_robot (desk_of s) r t t)) y nobody) q.items
      (get_or-set_same s.robots r (given_robot (desk_of s) r t t) nobody r_place)
      (λ y other. get_or-set_other s.robots r y (given_robot (desk_of s) r t t) nobody other)
      (λ y has. elim (first_or_rest s.ready.items r y front has) [ inl same ↦ inl same | inr still ↦ inr (subst (λ (ys : List ℕ). IsIn ys y) (sym rest) still) ]) in (
        move_is (desk_of s) o x r t r_in (is_kept (desk_of s) o x r t r_in mine) mine.moves (λ u later less moves. mine.first u (omega (arith, later, free.stands)) less moves)
            (omega (arith, mine.begins, free.stands)),
        omega (arith, all r r_in, mine.begins),
        inl (
          begun_with (members (desk_of s) o x all r t size r_in next may) t o.run.begun,
          all,
          begins,
          subst (λ (m : ℕ). Executes (desk_of (give_state (record s { ready = q; turning = Some (record { step = t; first = r; next = m }) }) r t true))
              (record { run = record o.run { begun = begun_with (members (desk_of s) o x all r t size r_in next may) t o.run.begun }; returned = put o.returned r t })) (sym is) done,
        ),
      )

abbrev turning_at : Turning → ℕ → Turning
turning_at k m = record k { next = m }

module _ {A : Type 0} (s : State A) (o : Course) (x : Executes (desk_of s) o) (sized : IsSized s) (k : Turning) (is : s.turning ≡ Some k) where
  turning_is : IsTurning o k
  turning_is = subst (λ (y : Option Turning). IsTurningOf o y) is x.turning

  pub turning_in : k.next < s.count
  turning_in = omega (arith, turning_is.next_in, x.robots)

  pub passes : (n : ℕ) → n ≡ before_in (desk_of s).window k.step k.next → (j : Option Turning) → (n ≡ k.first → j ≡ None) → (n ≢ k.first → j ≡ Some (record k { next = n }))
      → Gives o (give_move s k.next k.step) (desk_of (give_state (record s { turning = j }) k.next k.step true))
  passes n n_is j through more =
      let place : k.next < length s.robots = omega (arith, turning_in, sized.robots) in
      let moves = turns_moves o.run.plan k.step k.next (mate_turns o.run.plan k.step k.first k.next (free_of_conflicts (desk_of s) o x) turning_is.planned turning_is.turns turning_is.mate) in
      let begun = turning_is.begun k.next turning_is.mate in
      let waits : o.run.reached k.next < k.step = omega (arith, turning_is.waits, x.course.low k.next turning_is.next_in) in (
        move_is (desk_of s) o x k.next k.step turning_is.next_in (kept_turn (desk_of s) o x k turning_is) moves
            (λ u later less u_moves. omega (arith, later, x.course.one k.next u turning_is.next_in u_moves (omega (arith, less, begun)))) waits,
        turning_is.waits,
        inr (
          begun,
          passed (desk_of s) o x k turning_is (λ y. get_or (set s.robots k.next (given_robot (desk_of s) k.next k.step k.step)) y nobody) j
              (get_or-set_same s.robots k.next (given_robot (desk_of s) k.next k.step k.step) nobody place)
              (λ y other. get_or-set_other s.robots k.next y (given_robot (desk_of s) k.next k.step k.step) nobody other)
              (λ same. through (n_is ∙ same))
              (λ other. more (λ e. other (sym n_is ∙ e)) ∙ ap (λ (m : ℕ). Some (turning_at k m)) n_is),
        ),
      )
