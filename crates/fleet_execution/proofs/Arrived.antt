-- What may begin after a report.
use Rattle.std.proofs.Common.{◌≡◌, ◌≢◌, ℕ, ◌<◌, ◌≤◌, inl, inr, List, Option, Some, None, refl, sym, ◌∙◌, ap, subst, arith}
use Rattle.std.proofs.lemmas.Bool.{cases_eq, cases_lt}
use Rattle.execution_law.specs.declared.clearance.Clearance.TheVariants.{Arrived, Started}
use Rattle.execution_law.specs.Run.{Moves, Leaves, IsMate, Turns}
use Rattle.execution_law.specs.Rule.{HasEnded, IsFree, IsNext}
use Rattle.execution_law.specs.Change.{Reports}
use Rattle.execution_law.proofs.Cycles.{mate_of_mate, mate_turns, mate_back, leads_inside}
use Rattle.execution_law.proofs.Visits.{ended_before}
use Rattle.fleet_execution.specs.declared.robot.Leave.{Leave}
use Rattle.fleet_execution.specs.Course.{Course, put}
use Rattle.fleet_execution.specs.Desk.{Desk}
use Rattle.fleet_execution.specs.Executes.{IsLast, IsLastLeave, IsKept, Completes, IsIn, Wakes, Executes}
use Rattle.fleet_execution.proofs.Rings.{turns_moves}
use Rattle.fleet_execution.proofs.Asked.{free_of_conflicts, late_from}
use Rattle.fleet_execution.proofs.Ready.{after_is, is_kept}
use Rattle.fleet_execution.proofs.Put.{put_same, put_other}

module _ (d : Desk) (o : Course) (x : Executes d o) (r t : ℕ) (inside : r < o.run.plan.robots) (at : o.run.begun r ≡ t) (under_way : o.run.reached r < t) (ready : List ℕ)
    (more : (q : ℕ) → IsIn d.ready q → IsIn ready q) (mine : IsIn ready r) (wakes : Wakes d o.run (put o.run.reached r t) ready r t) where
  pub reports : Reports o.run r (put o.run.reached r t)
  reports = record {
    inside = inside;
    under_way = omega (arith, at, under_way);
    own = put_same o.run.reached r t r refl ∙ sym at;
    others = λ q q_in other. put_other o.run.reached r t q other;
  }

  -- an earlier move of the robot was reached before
  reached_before : (s : ℕ) → Moves o.run.plan r s → s < t → s ≤ o.run.reached r
  reached_before s moves less = x.course.one r s inside moves (omega (arith, at, less))

  moves_now : Moves o.run.plan r t
  moves_now = subst (λ (y : ℕ). Moves o.run.plan r y) at (x.course.lawful.moves r inside (omega (arith, at, under_way)))

  free_before : (q : ℕ) → q < o.run.plan.robots → (IsIn ready q → ⊥) → q ≢ r → IsFree (record o.run { reached = put o.run.reached r t }) q → IsFree o.run q
  free_before q q_in unready other free = record {
    stands = free.stands ∙ put_other o.run.reached r t q other;
    turned = λ arrived turns p mate.
        let done = free.turned arrived turns p mate in
        let small : o.run.begun q ≤ o.run.plan.steps = x.course.lawful.within q q_in in
        let p_turns = mate_turns o.run.plan (o.run.begun q) q p (free_of_conflicts d o x) small turns mate in
        elim (cases_eq p r) [
          | inr else_one ↦ omega (arith, done, put_other o.run.reached r t p else_one)
          | inl same ↦ (
              let r_mate : IsMate o.run.plan (o.run.begun q) q r = subst (λ (y : ℕ). IsMate o.run.plan (o.run.begun q) q y) same mate in
              let r_turns : Turns o.run.plan (o.run.begun q) r = subst (λ (y : ℕ). Turns o.run.plan (o.run.begun q) y) same p_turns in
              let z : o.run.reached p ≡ o.run.reached r = ap o.run.reached same in
              elim (cases_lt (o.run.begun q) t) [
                | inl less ↦ omega (arith, z, reached_before (o.run.begun q) (turns_moves o.run.plan (o.run.begun q) r r_turns) less)
                | inr late ↦ absurd (
                    let now : o.run.begun q ≡ t = omega (arith, late, done, put_same o.run.reached r t p same) in
                    let back : IsMate o.run.plan t r q = mate_back o.run.plan t q r (free_of_conflicts d o x) (omega (arith, now, small)) (subst (λ (y : ℕ). Turns o.run.plan y q) now turns)
                    (subst (λ (y : ℕ). IsMate o.run.plan y q r) now r_mate) in
                    elim wakes [
                      | inl started ↦ two (sym arrived ∙ started)
                      | inr both ↦ elim both.1 [
                        | inr straight ↦ straight.0 (subst (λ (y : ℕ). Turns o.run.plan y r) now r_turns)
                        | inl turned ↦ elim turned.1 [
                          | inl all ↦ unready (all q back)
                          | inr one ↦ (
                              let with_it : IsMate o.run.plan (o.run.begun q) q one.0 = mate_of_mate o.run.plan (o.run.begun q) q r one.0 r_mate (subst (λ (y : ℕ). IsMate o.run.plan y r one.0) (sym now) one.1) in
                              omega (arith, one.2, now, free.turned arrived turns one.0 with_it))
                        ]
                      ]
                    ])
              ])
        ];
  }
    where
      two : Arrived ≡ Started → ⊥
      two e = cc

  ended_before_it : (s u : ℕ) (l : Leave) → s < o.run.plan.robots → IsNext o.run s u → IsLast o.run.plan u (o.run.plan.cell u s) l
      → (d.window s u).after ≡ Some l → (IsIn ready s → ⊥) → HasEnded (record o.run { reached = put o.run.reached r t }) l.robot l.step → HasEnded o.run l.robot l.step
  ended_before_it s u l s_in next last after_l unready ended = elim ended [
    | inr both ↦ inr both
    | inl there ↦ elim (cases_eq l.robot r) [
      | inr other ↦ inl (omega (arith, there, put_other o.run.reached r t l.robot other))
      | inl same ↦ (
          let z : o.run.reached l.robot ≡ o.run.reached r = ap o.run.reached same in
          let moves : Moves o.run.plan r l.step = subst (λ (y : ℕ). Moves o.run.plan y l.step) same last.leaves.moves in
          elim (cases_lt l.step t) [
            | inl less ↦ inl (omega (arith, z, reached_before l.step moves less))
            | inr late ↦ (
                let now : l.step ≡ t = omega (arith, late, there, put_same o.run.reached r t l.robot same) in
                let begun : l.step ≤ o.run.begun l.robot = omega (arith, now, at, ap o.run.begun same) in
                elim wakes [
                  | inl started ↦ inr (begun, inl started)
                  | inr both ↦ elim both.1 [
                    | inl turned ↦ inr (begun, inr (subst (λ (y : ℕ). Turns o.run.plan l.step y) (sym same) (subst (λ (y : ℕ). Turns o.run.plan y r) (sym now) turned.0)))
                    | inr straight ↦ absurd (
                        let kept_u = is_kept d o x s u s_in next in
                        let late_l = late_from d o x r t inside moves_now under_way in
                        let kept_l : IsKept d.ahead o.run.plan.steps l.step = record {
                          some = last.leaves.moves.later;
                          planned = omega (arith, last.early, next.planned);
                          late = omega (arith, x.steps, now, late_l);
                        } in
                        let told = x.knows.follower s u l s_in kept_u next.moves after_l kept_l in
                        let told_r : (d.window r t).follower ≡ Some s = subst (λ (y : ℕ). (d.window y t).follower ≡ Some s) same (subst (λ (y : ℕ). (d.window l.robot y).follower ≡ Some s) now told) in
                        unready (straight.1 s s_in told_r))
                  ]
                ])
          ])
    ]
  ]

  clear_before : (s u : ℕ) → s < o.run.plan.robots → IsNext o.run s u → (IsIn ready s → ⊥)
      → ((q e : ℕ) → q < o.run.plan.robots → e ≤ u → Leaves o.run.plan q e (o.run.plan.cell u s) → HasEnded (record o.run { reached = put o.run.reached r t }) q e)
      → (a : Option Leave) → (d.window s u).after ≡ a → IsLastLeave o.run.plan u (o.run.plan.cell u s) a
      → (q e : ℕ) → q < o.run.plan.robots → e ≤ u → Leaves o.run.plan q e (o.run.plan.cell u s) → HasEnded o.run q e
  clear_before s u s_in next unready clear None is none q e q_in early leaves = absurd (none q e q_in early leaves)
  clear_before s u s_in next unready clear (Some l) is last q e q_in early leaves =
      ended_before o.run l.robot l.step (o.run.plan.cell u s) x.course.lawful last.inside last.leaves
      (ended_before_it s u l s_in next last is unready (clear l.robot l.step last.inside last.early last.leaves)) q e q_in (last.last q e q_in early leaves) leaves

  next_before : (q u : ℕ) → IsNext (record o.run { reached = put o.run.reached r t }) q u → IsNext o.run q u
  next_before q u next = record { planned = next.planned; moves = next.moves; begins = next.begins; first = next.first }

  pub completes_reported : Completes (record o.run { reached = put o.run.reached r t }) ready
  completes_reported s u s_in none may = x.completes s u s_in (λ q with_it is_in. none q with_it (more q is_in)) (elim may [
    | inl alone ↦ (
        let next = next_before s u alone.next in
        inl (record {
          free = free_before s s_in (none s (inl refl)) (λ same. none s (inl refl) (subst (λ (y : ℕ). IsIn ready y) (sym same) mine)) alone.free;
          next = next;
          clear = clear_before s u s_in next (none s (inl refl)) alone.clear (d.window s u).after refl (after_is d o x s u s_in next);
        }))
    | inr turn ↦ inr (record {
      turns = turn.turns;
      free = λ q mate. (
          let unready : IsIn ready q → ⊥ = none q (inr (turn.turns, mate)) in
          free_before q (leads_inside o.run.plan u mate.count s q s_in mate.leads) unready (λ same. unready (subst (λ (y : ℕ). IsIn ready y) (sym same) mine)) (turn.free q mate));
      next = λ q mate. next_before q u (turn.next q mate);
    })
  ])
