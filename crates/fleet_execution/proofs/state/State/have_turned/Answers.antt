-- Those that turned with the robot.
use Rattle.std.proofs.Common.{◌≡◌, ℕ, ◌+◌, ◌<◌, ◌≤◌, inl, inr, true, ltb, refl, ap, arith, rules}
use Rattle.std.proofs.lemmas.Bool.{cases_eq}
use borrow.Author.Tests.{ltb-true}
use Rattle.fleet_execution.specs.declared.robot.Robot.{Robot}
use Rattle.fleet_execution.specs.State.{desk_of}
use Rattle.fleet_execution.proofs.Answered.{turned_ring, all_reached}
use Rattle.fleet_execution.proofs.state.State.have_turned.Goals as goal

some_test : (n : ℕ) → 0 < n → ltb 0 n ≡ true
some_test n some = search rules

pub returns-then-state-step : goal.returns-then-state-step
returns-then-state-step g c = (λ it_is turned some late k. absurd (c.if-state-step.true turned), λ have. refl)

pub returns-then-step-eq0 : goal.returns-then-step-eq0
returns-then-step-eq0 g c = (λ it_is turned some late k. absurd (omega (arith, some, c.if-step-eq0.true)), λ have. refl)

pub returns-then-saturating_sub-from : goal.returns-then-saturating_sub-from
returns-then-saturating_sub-from g c = (
  λ it_is turned some late k. absurd (omega (arith, some, late, c.if-saturating_sub-from.true, c.from.ensures, c.saturating_sub.ensures)),
  λ have. refl,
)

pub lap-requires-clause-ring : goal.lap-requires-clause-ring
lap-requires-clause-ring g c =
    let some : 0 < c.args.state.reached = omega (arith, c.if-step-eq0.false) in
    let late : c.args.self.now.steps < c.args.state.reached + c.args.self.now.ahead = omega (arith, c.if-saturating_sub-from.false, c.from.ensures, c.saturating_sub.ensures) in
    turned_ring (desk_of c.args.self.now) c.requires.sound.course c.requires.sound.executes c.args.robot c.args.state c.requires.inside c.requires.state c.requires.stands c.if-state-step.false some late

pub returns : goal.returns
returns g c =
    let some : 0 < c.args.state.reached = omega (arith, c.if-step-eq0.false) in
    let late : c.args.self.now.steps < c.args.state.reached + c.args.self.now.ahead = omega (arith, c.if-saturating_sub-from.false, c.from.ensures, c.saturating_sub.ensures) in (
      λ it_is turned some_too late_too k.
          let size : 0 < c.lap.result = ltb-true 0 c.lap.result it_is in
          let own : c.args.state.reached ≤ ((desk_of c.args.self.now).robot c.args.robot).reached = omega (arith, ap (λ (s : Robot). s.reached) c.requires.state) in
          all_reached (desk_of c.args.self.now) c.args.state.reached c.args.robot c.lap.result size (c.lap.ensures.round size) own (c.lap.ensures.reached size) k,
      λ have. elim (cases_eq c.lap.result 0) [
        | inr more ↦ some_test c.lap.result (omega (arith, more))
        | inl none ↦ (let waits = c.lap.ensures.waits none in absurd (omega (arith, waits.2, have c.if-state-step.false some late waits.0)))
      ],
    )
