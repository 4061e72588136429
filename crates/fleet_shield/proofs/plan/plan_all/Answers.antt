-- The plan of all robots.
use Rattle.std.proofs.Common.{◌≡◌, ◌≢◌, ℕ, ◌+◌, ◌<◌, inl, inr, length, slice_index, ap, subst, refl, ◌∙◌, arith}
use Rattle.std.proofs.lemmas.Bool.{cases_eq}
use Rattle.fleet_shield.specs.Wishes.{wishes, robots}
use Rattle.fleet_shield.specs.inside.Board.{undecided}
use Rattle.fleet_shield.specs.inside.First.{HasFirst}
use Rattle.fleet_shield.proofs.Entering.{order_names}
use Rattle.fleet_shield.proofs.Told.{decided_more, first_kept}
use Rattle.fleet_shield.proofs.plan.plan_all.Goals as goal
use Rattle.fleet_shield.proofs.plan.plan_all.Goals.{then-to-robot, else-to-robot}

pub returns-clause-decided : goal.returns-clause-decided
returns-clause-decided c = λ r known u.
    let at = order_names c.args.order.now (length c.args.scene.now.from.now) r c.requires.order known in
    c.loop-robot.invariant.decided at.0 (omega (arith, at.1, c.loop-robot-test.false, c.loop-robot.auto.robot-index-end)) (ap (slice_index c.loop-robot.to) at.2 ∙ u)

pub loop-robot-preserved : goal.loop-robot-preserved
loop-robot-preserved c =
    let w = wishes c.args.scene.now.from.now c.args.scene.now.preferences in
    let l = c.loop-robot in
    let order = c.args.order.now in
    let at : ℕ = l.robot-index in
    let inside : (k : ℕ) → k < at + 1 → slice_index order k < robots w =
    λ k small. omega (arith, c.requires.order.known k (omega (arith, small, c.loop-robot-test.true)), c.requires.order.same_length) in
    elim c.if-to-robot.branch [
      | then-to-robot x ↦
          let p = x.plan in
          rw (x.holder-is, x.to-is, x.tried-is)
          (record {
            holding = p.ensures.holding;
            board = p.ensures.board;
            decided = decided_more w l.to p.new.to order at p.ensures.keeps inside l.invariant.decided p.ensures.decided;
            start = λ none. absurd (omega (arith, none));
            first = λ some. elim (cases_eq at 0) [
              | inl now ↦ subst (λ (k : ℕ). HasFirst w p.new.to (slice_index order k)) now (p.ensures.first (l.invariant.start now))
              | inr before ↦ (
                  let more : 0 < at = omega (arith, before) in
                  first_kept w l.to p.new.to order at p.ensures.keeps inside l.invariant.decided more (l.invariant.first more))
            ];
          })
      | else-to-robot x ↦
          let now : slice_index l.to (slice_index order at) ≢ undecided = x.if-to-robot.false in
          rw (x.holder-is, x.to-is, x.tried-is)
          (record {
            holding = l.invariant.holding;
            board = l.invariant.board;
            decided = decided_more w l.to l.to order at (λ r known some. refl) inside l.invariant.decided now;
            start = λ none. absurd (omega (arith, none));
            first = λ some. elim (cases_eq at 0) [
              | inl none ↦ absurd (now (l.invariant.start none (slice_index order at) (inside at (omega arith))).0)
              | inr before ↦ (
                  let more : 0 < at = omega (arith, before) in
                  first_kept w l.to l.to order at (λ r known kept. refl) inside l.invariant.decided more (l.invariant.first more))
            ];
          })
    ]
