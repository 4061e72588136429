use Rattle.std.proofs.Common.{◌∙◌, ◌+◌, sym, subst, refl, inl, inr, arith, List}
use Rattle.std.specs.Bool.{MatchBool}
use Rattle.std.proofs.lemmas.Bool.{cases_eq}
use Rattle.std.specs.Ordering.{nat_cmp}
use Rattle.std.specs.BTreeMap.{get}
use Rattle.fleet_queue.specs.declared.errand.Errand.{Errand}
use Rattle.fleet_trace.specs.inside.Opened.{AreRising, AreEntered, AreClientNamesInOrder, errands_in}
use Rattle.fleet_trace.proofs.ErrandNames.{impossible, errands_at_robot, names_all}
use Rattle.fleet_trace.proofs.judging.names.are_names_in_order.Goals as goal

pub returns-then-not-is_rising : goal.returns-then-not-is_rising
returns-then-not-is_rising g c =
    let robots = c.args.robots.now in
    let r = c.loop-robot.robot in
    let same = c.as_slice.ensures ∙ errands_at_robot robots r c.index-robots-robot.result c.loop-robot-test.true in (
      λ never. absurd (impossible never),
      λ fine. absurd (impossible (sym c.if-not-is_rising.true ∙ c.is_rising.ensures.1 (subst (λ (xs : List Errand). AreRising c.args.client xs) (sym same) (fine.rising r)))),
    )

pub loop-robot-preserved : goal.loop-robot-preserved
loop-robot-preserved g c =
    let robots = c.args.robots.now in
    let r = c.loop-robot.robot in
    let same = c.as_slice.ensures ∙ errands_at_robot robots r c.index-robots-robot.result c.loop-robot-test.true in
    record {
      entered = subst (λ b. MatchBool b (AreEntered robots c.args.client (r + 1) 0 (get nat_cmp c.enter_numbers.new.robot_of)) (AreClientNamesInOrder robots c.args.client → ⊥)) c.if-not-branch.false c.in_ok-enter_numbers.ensures;
      rising = λ q less. elim (cases_eq q r) [
        | inl here ↦ subst (λ x. AreRising c.args.client (errands_in robots x)) (sym here) (subst (λ (xs : List Errand). AreRising c.args.client xs) same (c.is_rising.ensures.0 c.if-not-is_rising.false))
        | inr other ↦ c.loop-robot.invariant.rising q (omega (arith, less, other))
      ];
    }

pub returns : goal.returns
returns g c = (λ _. names_all c.args.robots.now c.args.client c.loop-robot.robot (get nat_cmp c.loop-robot.robot_of) c.loop-robot-test.false c.loop-robot.invariant.entered c.loop-robot.invariant.rising, λ _. refl)

pub enter_numbers-requires-clause-inside : goal.enter_numbers-requires-clause-inside
enter_numbers-requires-clause-inside g c = c.loop-robot-test.true

pub enter_numbers-requires-clause-entered : goal.enter_numbers-requires-clause-entered
enter_numbers-requires-clause-entered g c = c.loop-robot.invariant.entered

pub returns-then-not-branch : goal.returns-then-not-branch
returns-then-not-branch g c =
    let robots = c.args.robots.now in
    let clash = subst (λ b. MatchBool b (AreEntered robots c.args.client (c.loop-robot.robot + 1) 0 (get nat_cmp c.enter_numbers.new.robot_of)) (AreClientNamesInOrder robots c.args.client → ⊥)) c.if-not-branch.true c.in_ok-enter_numbers.ensures in (
      λ never. absurd (impossible never),
      λ fine. absurd (clash fine),
    )
