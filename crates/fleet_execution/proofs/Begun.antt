-- What may begin after a beginning.
use Rattle.std.proofs.Common.{◌≡◌, ℕ, zero, ◌<◌, ◌≤◌, ◌⊎◌, inl, inr, List, Option, Some, None, refl, sym, ◌∙◌, subst, arith}
use Rattle.std.proofs.lemmas.Bool.{cases_lt}
use Rattle.execution_law.specs.declared.clearance.Clearance.TheVariants.{Started}
use Rattle.execution_law.specs.Run.{Run, Leaves, IsMate, Turns}
use Rattle.execution_law.specs.Rule.{HasEnded, IsFree, IsNext, MayBeginAlone, MayTurn, MayBegin, IsLawful}
use Rattle.execution_law.specs.Change.{BeginsWith, Begins}
use Rattle.execution_law.proofs.Cycles.{mate_turns, leads_inside}
use Rattle.execution_law.proofs.Visits.{ended_before}
use Rattle.execution_law.proofs.Kept.{alone_never_turns, begun_lawful, next_of}
use Rattle.fleet_execution.specs.declared.robot.Leave.{Leave}
use Rattle.fleet_execution.specs.Course.{Course}
use Rattle.fleet_execution.specs.Desk.{Desk}
use Rattle.fleet_execution.specs.Executes.{IsLast, IsLastLeave, Completes, IsIn, Executes}
use Rattle.fleet_execution.proofs.Asked.{free_of_conflicts}
use Rattle.fleet_execution.proofs.Ready.{no_turn, after_is, is_kept, group_may}

pub free_of_may : (run : Run) (r t : ℕ) → MayBegin run r t → IsFree run r
free_of_may run r t may = elim may [ inl alone ↦ alone.free | inr turn ↦ turn.free r (record { count = zero; leads = refl }) ]

pub next_of_may : (run : Run) (r t : ℕ) → MayBegin run r t → IsNext run r t
next_of_may run r t may = elim may [ inl alone ↦ alone.next | inr turn ↦ turn.next r (record { count = zero; leads = refl }) ]

-- a robot that may not begin is not missed in the list
pub completes_without : (d : Desk) (o : Course) (x : Executes d o) (robot : ℕ) (ready : List ℕ)
    → ((q : ℕ) → IsIn d.ready q → (q ≡ robot) ⊎ IsIn ready q) → ((t : ℕ) → MayBegin o.run robot t → ⊥) → Completes o.run ready
completes_without d o x robot ready split waits r t inside none may = x.completes r t inside
    (λ q with_it is_in. elim (split q is_in) [
      | inl same ↦ waits t (subst (λ (y : ℕ). MayBegin o.run y t) same (group_may o.run r t q x.course.lawful inside may with_it))
      | inr still ↦ none q with_it still
    ])
    may

module _ (d : Desk) (o : Course) (x : Executes d o) (r t : ℕ) (b : ℕ → ℕ) (begins : Begins o.run r t b) (ready : List ℕ)
    (split : (q : ℕ) → IsIn d.ready q → (q ≡ r) ⊎ IsIn ready q)
    (wakes : MayBeginAlone o.run r t → o.run.clearance ≡ Started → (f : ℕ) → f < o.run.plan.robots → (d.window r t).follower ≡ Some f → IsIn ready f) where
  lawful_now : IsLawful (record o.run { begun = b })
  lawful_now = begun_lawful o.run r t b x.course.lawful begins

  -- who begins now is not free
  busy : (q : ℕ) → q < o.run.plan.robots → BeginsWith o.run.plan t r q → IsFree (record o.run { begun = b }) q → ⊥
  busy q inside with_it free = elim (begins.each q inside) [
    | inl new ↦ omega (arith, new.1, free.stands, (next_of o.run r t b x.course.lawful begins q with_it).begins, x.course.lawful.behind q inside)
    | inr old ↦ old.0 with_it
  ]

  same_begun : (q : ℕ) → q < o.run.plan.robots → IsFree (record o.run { begun = b }) q → b q ≡ o.run.begun q
  same_begun q inside free = elim (begins.each q inside) [
    | inl new ↦ absurd (busy q inside new.0 free)
    | inr old ↦ old.1
  ]

  free_before : (q : ℕ) → q < o.run.plan.robots → IsFree (record o.run { begun = b }) q → IsFree o.run q
  free_before q inside free =
      let same = same_begun q inside free in
      record {
        stands = sym same ∙ free.stands;
        turned = λ arrived turns p mate.
            let now : Turns o.run.plan (b q) q = subst (λ (y : ℕ). Turns o.run.plan y q) (sym same) turns in
            let with_it : IsMate o.run.plan (b q) q p = subst (λ (y : ℕ). IsMate o.run.plan y q p) (sym same) mate in
            omega (arith, free.turned arrived now p with_it, same);
      }

  next_before : (q u : ℕ) → b q ≡ o.run.begun q → IsNext (record o.run { begun = b }) q u → IsNext o.run q u
  next_before q u same next = record {
    planned = next.planned;
    moves = next.moves;
    begins = omega (arith, same, next.begins);
    first = λ s later earlier moves. next.first s (omega (arith, same, later)) earlier moves;
  }

  -- the last stay on a cell has ended before, unless the robot was woken
  ended_before_it : (s u : ℕ) (l : Leave) → s < o.run.plan.robots → IsNext (record o.run { begun = b }) s u → IsNext o.run s u → IsLast o.run.plan u (o.run.plan.cell u s) l
      → (d.window s u).after ≡ Some l → (IsIn ready s → ⊥) → HasEnded (record o.run { begun = b }) l.robot l.step → HasEnded o.run l.robot l.step
  ended_before_it s u l inside next_now next last after_l unready ended = elim ended [
    | inl there ↦ inl there
    | inr both ↦ elim both.1 [
      | inr turns ↦ absurd (no_turn (record o.run { begun = b }) s u l lawful_now inside next_now last turns both.0)
      | inl started ↦ elim (cases_lt (o.run.begun l.robot) l.step) [
        | inr old ↦ inr (old, inl started)
        | inl new ↦ elim (begins.each l.robot last.inside) [
          | inr same ↦ absurd (omega (arith, new, both.0, same.1))
          | inl begun ↦ absurd (newly started new begun.0 begun.1)
        ]
      ]
    ]
  ]
    where
      newly : o.run.clearance ≡ Started → o.run.begun l.robot < l.step → BeginsWith o.run.plan t r l.robot → b l.robot ≡ t → ⊥
      newly started new with_it at =
          let p_next = next_of o.run r t b x.course.lawful begins l.robot with_it in
          let now : l.step ≡ t = elim (cases_lt l.step t) [
            | inl less ↦ absurd (p_next.first l.step new less last.leaves.moves)
            | inr more ↦ omega (arith, more, ended_at ended, at)
          ] in
          elim begins.may [
            | inr turn ↦ no_turn (record o.run { begun = b }) s u l lawful_now inside next_now last (turns_at turn with_it now p_next.planned) (omega (arith, now, at))
            | inl alone ↦ (
                let one : l.robot ≡ r = elim with_it [ inl same ↦ same | inr turning ↦ absurd (alone_never_turns o.run r t x.course.lawful begins.inside alone turning.0) ] in
                let kept_u = is_kept d o x s u inside next in
                let p_kept = is_kept d o x l.robot l.step last.inside (subst (λ (y : ℕ). IsNext o.run l.robot y) (sym now) p_next) in
                let told = x.knows.follower s u l inside kept_u next.moves after_l p_kept in
                let told_r : (d.window r t).follower ≡ Some s = subst (λ (y : ℕ). (d.window y t).follower ≡ Some s) one (subst (λ (y : ℕ). (d.window l.robot y).follower ≡ Some s) now told) in
                unready (wakes alone started s inside told_r))
          ]
        where
          ended_at : HasEnded (record o.run { begun = b }) l.robot l.step → l.step ≤ b l.robot
          ended_at e = elim e [ inl there ↦ omega (arith, there, lawful_now.behind l.robot last.inside) | inr both ↦ both.0 ]

          turns_at : MayTurn o.run r t → BeginsWith o.run.plan t r l.robot → l.step ≡ t → t ≤ o.run.plan.steps → Turns o.run.plan l.step l.robot
          turns_at turn with_it now small = subst (λ (y : ℕ). Turns o.run.plan y l.robot) (sym now) (elim with_it [
            | inl same ↦ subst (λ (y : ℕ). Turns o.run.plan t y) (sym same) turn.turns
            | inr turning ↦ mate_turns o.run.plan t r l.robot (free_of_conflicts d o x) small turn.turns turning.1
          ])

  clear_before : (s u : ℕ) → s < o.run.plan.robots → IsNext (record o.run { begun = b }) s u → IsNext o.run s u → (IsIn ready s → ⊥)
      → ((q e : ℕ) → q < o.run.plan.robots → e ≤ u → Leaves o.run.plan q e (o.run.plan.cell u s) → HasEnded (record o.run { begun = b }) q e)
      → (a : Option Leave) → (d.window s u).after ≡ a → IsLastLeave o.run.plan u (o.run.plan.cell u s) a
      → (q e : ℕ) → q < o.run.plan.robots → e ≤ u → Leaves o.run.plan q e (o.run.plan.cell u s) → HasEnded o.run q e
  clear_before s u inside next_now next unready clear None is none q e q_in early leaves = absurd (none q e q_in early leaves)
  clear_before s u inside next_now next unready clear (Some l) is last q e q_in early leaves =
      ended_before o.run l.robot l.step (o.run.plan.cell u s) x.course.lawful last.inside last.leaves
      (ended_before_it s u l inside next_now next last is unready (clear l.robot l.step last.inside last.early last.leaves)) q e q_in (last.last q e q_in early leaves) leaves

  may_before : (s u : ℕ) → s < o.run.plan.robots → (IsIn ready s → ⊥) → MayBegin (record o.run { begun = b }) s u → MayBegin o.run s u
  may_before s u inside unready may = elim may [
    | inl alone ↦ (
        let next = next_before s u (same_begun s inside alone.free) alone.next in
        inl (record {
          free = free_before s inside alone.free;
          next = next;
          clear = clear_before s u inside alone.next next unready alone.clear (d.window s u).after refl (after_is d o x s u inside next);
        }))
    | inr turn ↦ inr (record {
      turns = turn.turns;
      free = λ q mate. free_before q (leads_inside o.run.plan u mate.count s q inside mate.leads) (turn.free q mate);
      next = λ q mate. next_before q u (same_begun q (leads_inside o.run.plan u mate.count s q inside mate.leads) (turn.free q mate)) (turn.next q mate);
    })
  ]

  pub completes_begun : Completes (record o.run { begun = b }) ready
  completes_begun s u inside none may = x.completes s u inside
      (λ q with_it is_in. elim (split q is_in) [
        | inr still ↦ none q with_it still
        | inl same ↦ (
            let there : MayBegin (record o.run { begun = b }) q u = group_may (record o.run { begun = b }) s u q lawful_now inside may with_it in
            let mine : MayBegin (record o.run { begun = b }) r u = subst (λ (y : ℕ). MayBegin (record o.run { begun = b }) y u) same there in
            busy r begins.inside (inl refl) (free_of_may (record o.run { begun = b }) r u mine))
      ])
      (may_before s u inside (none s (inl refl)) may)
