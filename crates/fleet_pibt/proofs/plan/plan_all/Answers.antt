use Rattle.std.proofs.Common.{◌≡◌, ◌≢◌, ◌∙◌, ℕ, Option, Some, None, length, slice_index, refl, true, false, arith, sym, subst}
use Rattle.std.specs.Option.{is_some}
use Rattle.fleet_pibt.specs.inside.Entry.{table}
use Rattle.fleet_pibt.proofs.Whole.{planned-skip, planned-call, planned-start, planned-ready}
use Rattle.fleet_pibt.specs.inside.Setting.{IsStanding, IsPlanned}
use Rattle.fleet_pibt.proofs.plan.plan_all.Goals as goal
use Rattle.fleet_pibt.proofs.plan.plan_all.Goals.{then-is_none, else-is_none}

is_open : (o : Option ℕ) → is_some o ≡ false → o ≡ None
is_open None e = refl
is_open (Some x) e = absurd (cc e)

is_taken : (o : Option ℕ) → is_some o ≡ true → o ≢ None
is_taken None e h = cc e
is_taken (Some x) e h = cc h

pub loop-robot-preserved : goal.loop-robot-preserved
loop-robot-preserved g c =
    let s = g.S.Sight.setting c.args.scene.now in
    let scene = g.met.S.Sight.is_scene c.args.scene.now c.requires.whole in
    let b = c.args.board.now in
    let d = c.loop-robot.board in
    let r = c.requires in
    elim c.if-is_none.branch [
      | then-is_none w ↦
          let p = w.plan.new.board in
          let none : table d.target (slice_index c.args.queue.now c.loop-robot.robot-index) ≡ None = cc (c.get.ensures, is_open c.get.result w.if-is_none.ensures) in
          let lt : length p.target ≡ length d.target = omega (arith, w.plan.ensures.targets) in
          let lh : length p.seats.holder ≡ length d.seats.holder = omega (arith, w.plan.ensures.holders) in
          rw w.board-is (record { standing = w.plan.ensures.standing ∙ c.loop-robot.invariant.standing; planned = planned-call s b.target b.seats.holder c.args.queue.now d.target d.seats.holder c.loop-robot.robot-index r.queue c.loop-robot-test.true c.loop-robot.invariant.planned scene p.target p.seats.holder none w.plan.result w.plan.ensures.done w.plan.ensures.tried lt lh })
      | else-is_none w ↦
          let some : table d.target (slice_index c.args.queue.now c.loop-robot.robot-index) ≢ None = λ e. is_taken c.get.result w.if-is_none.ensures (cc (c.get.ensures)) in
          rw w.board-is (record { standing = c.loop-robot.invariant.standing; planned = planned-skip s b.target b.seats.holder c.args.queue.now d.target d.seats.holder c.loop-robot.robot-index r.queue c.loop-robot-test.true c.loop-robot.invariant.planned some r.no_target })
    ]

pub loop-robot-init : goal.loop-robot-init
loop-robot-init g c =
    let s = g.S.Sight.setting c.args.scene.now in
    let b = c.args.board.now in
    record { standing = refl; planned = planned-start s b.target b.seats.holder c.args.queue.now c.requires.targets c.requires.holders c.requires.no_target c.requires.no_holder }

pub get-requires : goal.get-requires
get-requires g c = omega (arith, c.requires.queue.known c.loop-robot.robot-index c.loop-robot-test.true, c.loop-robot.invariant.planned.targets)

pub plan-requires-clause-whole : goal.plan-requires-clause-whole
plan-requires-clause-whole g c = c.requires.whole

pub plan-requires-clause-standing : goal.plan-requires-clause-standing
plan-requires-clause-standing g c = subst (IsStanding (g.S.Sight.setting c.args.scene.now)) (sym c.loop-robot.invariant.standing) c.requires.standing

pub plan-requires-clause-ready : goal.plan-requires-clause-ready
plan-requires-clause-ready g c =
    let s = g.S.Sight.setting c.args.scene.now in
    let b = c.args.board.now in
    let d = c.loop-robot.board in
    planned-ready s b.target b.seats.holder c.args.queue.now d.target d.seats.holder c.loop-robot.robot-index c.requires.queue c.loop-robot-test.true c.loop-robot.invariant.planned (sym c.get.ensures ∙ is_open c.get.result c.if-is_none.ensures)

pub returns-clause-standing : goal.returns-clause-standing
returns-clause-standing g c = c.loop-robot.invariant.standing

pub returns-clause-planned : goal.returns-clause-planned
returns-clause-planned g c =
    let s = g.S.Sight.setting c.args.scene.now in
    let b = c.args.board.now in
    let d = c.loop-robot.board in
    subst (λ (k : ℕ). IsPlanned s b.target b.seats.holder d.target d.seats.holder c.args.queue.now k) (omega (arith, c.loop-robot-test.false, c.loop-robot.auto.robot-index-end)) c.loop-robot.invariant.planned
