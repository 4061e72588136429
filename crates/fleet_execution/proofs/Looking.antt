-- How far an execution is behind its plan, and whether it has room for a further step.
use Rattle.std.proofs.Common.{◌≡◌, ℕ, ◌+◌, ◌-◌, ◌%◌, ◌<◌, ◌≤◌, inl, inr, true, false, sym, ◌∙◌, ap, subst, arith}
use Rattle.std.proofs.lemmas.Bool.{cases_eq, cases_lt}
use Rattle.std.proofs.Math.Nat.{add-mod_right}
use Rattle.execution_law.specs.Run.{Moves}
use Rattle.fleet_execution.specs.Course.{Course}
use Rattle.fleet_execution.specs.Desk.{Desk}
use Rattle.fleet_execution.specs.Executes.{IsKept, is_open, Executes}
use Rattle.fleet_execution.specs.Asked.{IsBehindIn}
use Rattle.fleet_execution.specs.Stepped.{HasRoom}
use Rattle.fleet_execution.specs.Given.{IsBehind, HasRoomFor}
use Rattle.fleet_execution.proofs.Counting.{count_none, count_zero, count_some}
use Rattle.fleet_execution.proofs.Reported.{open_is, closed_by_reached, closed_by_staying, open_moves}

two : true ≡ false → ⊥
two e = cc

module _ (d : Desk) (o : Course) (x : Executes d o) where
  all_reached : (t : ℕ) → IsKept d.ahead o.run.plan.steps t → d.unreached (t % d.ahead) ≡ 0 → (r : ℕ) → r < o.run.plan.robots → Moves o.run.plan r t → t ≤ o.run.reached r
  all_reached t kept none r inside moves = elim (cases_lt (o.run.reached r) t) [
    | inl less ↦ absurd (two (sym (open_is o.run.plan o.run.reached t r kept.some moves less)
        ∙ count_zero o.run.plan.robots (is_open o.run.plan o.run.reached t) (sym (x.counts.kept t kept) ∙ none) r inside))
    | inr done ↦ done
  ]

  some_waits : (t : ℕ) → IsKept d.ahead o.run.plan.steps t → 0 < d.unreached (t % d.ahead) → (r : ℕ) × (r < o.run.plan.robots) × Moves o.run.plan r t × (o.run.reached r < t)
  some_waits t kept some =
      let found = count_some o.run.plan.robots (is_open o.run.plan o.run.reached t) (omega (arith, x.counts.kept t kept, some)) in
      let is = open_moves o.run.plan o.run.reached t found.number kept.some found.passes in
      (found.number, found.inside, is.0, is.1)

  pub behind_is : (n : ℕ) → IsBehindIn d n → IsBehind o n
  behind_is n b = record {
    within = omega (arith, b.within, x.steps);
    first = λ some. some_waits (o.run.plan.steps + 1 - n)
        (record { some = omega (arith, b.within, x.steps); planned = omega (arith, some); late = omega (arith, b.within, b.late, x.steps) })
        (subst (λ (k : ℕ). 0 < d.unreached ((k + 1 - n) % d.ahead)) (sym x.steps) (b.first some));
    before = λ r t inside early moves. elim (cases_lt o.run.plan.steps (t + d.ahead)) [
      | inl late ↦ (
          let u : d.steps + 1 - (d.steps + 1 - t) ≡ t = omega (arith, early, x.steps) in
          all_reached t (record { some = moves.later; planned = omega (arith, early); late = late })
          (subst (λ (k : ℕ). d.unreached (k % d.ahead) ≡ 0) u (b.before (d.steps + 1 - t) (omega (arith, early, x.steps)) (omega (arith, late, x.steps)) (omega (arith, moves.later)))) r inside moves)
      | inr old ↦ x.counts.old r t inside moves old
    ];
  }

  pub room_is : 0 < d.ahead → HasRoom d → HasRoomFor o d.ahead
  room_is some room = record {
    more = omega (arith, room.0, x.steps);
    reached = λ r t inside early moves. elim (cases_lt o.run.plan.steps (t + d.ahead)) [
      | inl late ↦ (
          let at : d.steps + 1 ≡ t + d.ahead = omega (arith, early, late, x.steps) in
          let place : (d.steps + 1) % d.ahead ≡ t % d.ahead = ap (λ (k : ℕ). k % d.ahead) at ∙ add-mod_right t d.ahead in
          all_reached t (record { some = moves.later; planned = omega (arith, early, some); late = late }) (subst (λ (k : ℕ). d.unreached k ≡ 0) place room.1) r inside moves)
      | inr old ↦ x.counts.old r t inside moves old
    ];
  }

  none_open : (t : ℕ) → ((r : ℕ) → r < o.run.plan.robots → Moves o.run.plan r t → t ≤ o.run.reached r) → 0 < t → (r : ℕ) → r < o.run.plan.robots → is_open o.run.plan o.run.reached t r ≡ false
  none_open t all some r inside = elim (cases_eq (o.run.plan.cell t r) (o.run.plan.cell (t - 1) r)) [
    | inl same ↦ closed_by_staying o.run.plan o.run.reached t r same
    | inr other ↦ closed_by_reached o.run.plan o.run.reached t r (all r inside (record { later = some; other = other }))
  ]

  pub room_back : 0 < d.ahead → HasRoomFor o d.ahead → HasRoom d
  room_back some room = (
    omega (arith, room.more, x.steps),
    elim (cases_lt d.steps d.ahead) [
      | inl few ↦ x.counts.blank (d.steps + 1) (omega (arith, x.steps)) (omega (arith, few))
      | inr more ↦ (
          let t = d.steps + 1 - d.ahead in
          let at : d.steps + 1 ≡ t + d.ahead = omega (arith, more) in
          let place : t % d.ahead ≡ (d.steps + 1) % d.ahead = sym (ap (λ (k : ℕ). k % d.ahead) at ∙ add-mod_right t d.ahead) in
          let kept : IsKept d.ahead o.run.plan.steps t = record { some = omega (arith, more); planned = omega (arith, some, x.steps); late = omega (arith, more, x.steps) } in
          subst (λ (k : ℕ). d.unreached k ≡ 0) place
          (x.counts.kept t kept ∙ count_none o.run.plan.robots (is_open o.run.plan o.run.reached t)
          (none_open t (λ r inside moves. room.reached r t inside (omega (arith, at, x.steps)) moves) kept.some)))
    ],
  )
