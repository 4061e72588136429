-- One try of a robot at a cell, and the plan of one robot.
use Rattle.std.proofs.Common.{ap, ◌≡◌, ◌∙◌, ℕ, ◌+◌, ◌*◌, ◌<◌, ◌≤◌, length, Option, Some, None, true, false, List, slice_set, arith, refl, sym}
use Rattle.std.specs.Option.{is_some}
use Rattle.std.proofs.Math.ListN.{length-set}
use Rattle.std.proofs.lemmas.Bool.{false≢true}
use Rattle.fleet_pibt.specs.inside.Entry.{table}
use Rattle.fleet_pibt.specs.inside.Setting.{robots, Stands, cell_of}
use Rattle.fleet_pibt.proofs.Count.{open_count, open_count-set, open_count-keep}
use Rattle.fleet_pibt.proofs.Planning.{standing-some, standing-none, cells-few, scene-distinct, trying-ready, trying-choice, trying-failed, trying-more, trying-tried, trying-start, trying-done, refused-shut, choice-inside}
use Rattle.fleet_pibt.proofs.Attempt.{attempt-done, attempt-ready, attempt-passed, attempt-failed}
use Rattle.fleet_pibt.proofs.plan.+plan.Goals as goal
use Rattle.fleet_pibt.proofs.plan.+plan.Goals.{attempt-then-is_some-via-then-is_some, attempt-then-is_some-via-else-is_some+then-meets, attempt-then-is_some-2-via-then-is_some-2, attempt-then-is_some-2-via-else-is_some-2+then-plan}

none_from : (o : Option ℕ) → false ≡ is_some o → o ≡ None
none_from None e = refl
none_from (Some x) e = absurd (cc e)

not_none : (o : Option ℕ) → true ≡ is_some o → o ≡ None → ⊥
not_none None e _ = cc e
not_none (Some x) e h = cc h

entry-same : {xs ys : List (Option ℕ)} → xs ≡ ys → (k : ℕ) → table xs k ≡ table ys k
entry-same e k = ap (λ (x : List (Option ℕ)). table x k) e

below : {k m n : ℕ} → k < m → n ≡ m → k < n
below less e = omega arith

cell-small : {k n : ℕ} → k < n → n ≤ 1048576 → k < 4294967295
cell-small less few = omega arith

robot-small : {k n : ℕ} → k < n → n ≤ 512 → k < 65535
robot-small less few = omega arith

fewer-open : (t : ℕ) (xs ys : List (Option ℕ)) (i v : ℕ) → 2 * open_count xs ≡ t → i < length xs → table xs i ≡ None → ys ≡ slice_set xs i (Some v) → 2 * open_count ys + 1 < t
fewer-open t xs ys i v measure inside idle e = rw e (let h = open_count-set xs i v inside idle in omega arith)

no-more-open : (t : ℕ) (xs ys : List (Option ℕ)) → 2 * open_count xs + 1 ≡ t → length ys ≡ length xs → ((r c : ℕ) → table xs r ≡ Some c → table ys r ≡ Some c) → 2 * open_count ys < t
no-more-open t xs ys measure e keep = let h = open_count-keep xs ys (sym e) keep in omega arith

still-one : {k n : ℕ} → n ≡ 5 → k < 5 → k < n
still-one e less = omega arith

none-left : {k n : ℕ} → n ≡ 5 → 5 ≤ k → n ≤ k
none-left e all = omega arith

pub attempt-returns-in_default-clause-done : goal.attempt-returns-in_default-clause-done
attempt-returns-in_default-clause-done g t c =
    let s = g.S.Sight.setting c.args.scene.now in
    let scene = g.met.S.Sight.is_scene c.args.scene.now c.requires.whole in
    let b = c.args.board.now in
    let r = c.requires in
    let free = none_from c.holder.result c.if-is_some.ensures in
    let none : table b.seats.holder c.args.cell ≡ None = sym c.holder.ensures ∙ free in
    let unmoved = standing-none s b.seats.standing r.standing c.reserve.new.self.seats.standing c.reserve.ensures.standing c.args.cell c.in_default.ensures in
    rw (c.reserve.ensures.target, c.reserve.ensures.holder)
    (attempt-done s scene b.target b.seats.holder c.args.robot c.args.cell r.ready r.choice (choice-inside s scene _ _ _ _ r.ready.known r.choice) none
    (λ k at e. false≢true (c.if-meets.ensures.1 (k, at, e)))
    (λ k at e. unmoved k at.0 at.1))

pub attempt-plan-requires : goal.attempt-plan-requires
attempt-plan-requires g t c κs within =
    let s = g.S.Sight.setting c.args.scene.now in
    let scene = g.met.S.Sight.is_scene c.args.scene.now c.requires.whole in
    let b = c.args.board.now in
    let r = c.requires in
    let free = none_from c.holder.result c.if-is_some.ensures in
    let none : table b.seats.holder c.args.cell ≡ None = sym c.holder.ensures ∙ free in
    let stands : Stands s c.in-Some.other c.args.cell = standing-some s b.seats.standing r.standing c.reserve.new.self.seats.standing c.reserve.ensures.standing c.args.cell c.in-Some.other c.in-Some.ensures in
    let idle = none_from c.get.result c.if-is_some-2.ensures in
    let idle2 : table (slice_set b.target c.args.robot (Some c.args.cell)) c.in-Some.other ≡ None = sym (entry-same c.reserve.ensures.target c.in-Some.other) ∙ (sym c.get.ensures ∙ idle) in (
      fewer-open t b.target c.reserve.new.self.target c.args.robot c.args.cell c.decreases (below r.ready.known r.ready.targets) r.ready.idle c.reserve.ensures.target,
      (
        within.0,
        (
          within.1,
          (
            c.requires.whole,
            (
              rw c.reserve.ensures.standing c.requires.standing,
              rw (c.reserve.ensures.target, c.reserve.ensures.holder)
                  (attempt-ready s scene b.target b.seats.holder c.args.robot c.args.cell r.ready r.choice (choice-inside s scene _ _ _ _ r.ready.known r.choice) none
                  (λ k at e. false≢true (c.if-meets.ensures.1 (k, at, e))) c.in-Some.other stands idle2),
            ),
          ),
        ),
      ),
    )

pub attempt-returns-then-is_some-2-clause-done : goal.attempt-returns-then-is_some-2-clause-done
attempt-returns-then-is_some-2-clause-done g t c =
    let s = g.S.Sight.setting c.args.scene.now in
    let scene = g.met.S.Sight.is_scene c.args.scene.now c.requires.whole in
    let b = c.args.board.now in
    let r = c.requires in
    let free = none_from c.holder.result c.if-is_some.ensures in
    let none : table b.seats.holder c.args.cell ≡ None = sym c.holder.ensures ∙ free in
    let clear : (k : ℕ) → Stands s k c.args.cell → table b.target k ≡ Some (cell_of s c.args.robot) → ⊥ = λ k at e. false≢true (c.if-meets.ensures.1 (k, at, e)) in
    let stands : Stands s c.in-Some.other c.args.cell = standing-some s b.seats.standing r.standing c.reserve.new.self.seats.standing c.reserve.ensures.standing c.args.cell c.in-Some.other c.in-Some.ensures in
    let t1 : List (Option ℕ) = slice_set b.target c.args.robot (Some c.args.cell) in
    let other : ℕ = c.in-Some.other in
    let found : table t1 other ≡ c.get.result = sym (entry-same c.reserve.ensures.target other) ∙ sym c.get.ensures in
    elim c.then-is_some-2.branch [
      | attempt-then-is_some-2-via-then-is_some-2 w ↦ rw (w.board-is, c.reserve.ensures.target, c.reserve.ensures.holder)
          (attempt-done s scene b.target b.seats.holder c.args.robot c.args.cell r.ready r.choice (choice-inside s scene _ _ _ _ r.ready.known r.choice) none clear
          (λ k at e.
          let same : k ≡ other = scene-distinct s scene k other at.0 stands.0 (at.1 ∙ sym stands.1) in
          not_none c.get.result w.if-is_some-2.ensures (sym found ∙ (sym (ap (table t1) same) ∙ e))))
      | attempt-then-is_some-2-via-else-is_some-2+then-plan w ↦
          let free2 = none_from c.get.result w.if-is_some-2.ensures in
          rw w.board-is
          (attempt-passed s scene b.target b.seats.holder c.args.robot c.args.cell r.ready r.choice (choice-inside s scene _ _ _ _ r.ready.known r.choice) none clear
          other stands (found ∙ free2) w.plan.new.board.target w.plan.new.board.seats.holder
          (rw (c.reserve.ensures.target, c.reserve.ensures.holder) at w.if-plan.ensures.done))
    ]

pub attempt-returns-clause-done : goal.attempt-returns-clause-done
attempt-returns-clause-done g t c =
    let s = g.S.Sight.setting c.args.scene.now in
    let scene = g.met.S.Sight.is_scene c.args.scene.now c.requires.whole in
    let b = c.args.board.now in
    let r = c.requires in
    let free = none_from c.holder.result c.if-is_some.ensures in
    let none : table b.seats.holder c.args.cell ≡ None = sym c.holder.ensures ∙ free in
    let clear : (k : ℕ) → Stands s k c.args.cell → table b.target k ≡ Some (cell_of s c.args.robot) → ⊥ = λ k at e. false≢true (c.if-meets.ensures.1 (k, at, e)) in
    let stands : Stands s c.in-Some.other c.args.cell = standing-some s b.seats.standing r.standing c.reserve.new.self.seats.standing c.reserve.ensures.standing c.args.cell c.in-Some.other c.in-Some.ensures in
    let t1 : List (Option ℕ) = slice_set b.target c.args.robot (Some c.args.cell) in
    let h1 : List (Option ℕ) = slice_set b.seats.holder c.args.cell (Some c.args.robot) in
    let other : ℕ = c.in-Some.other in
    let p = c.plan.new.board in
    let idle : table t1 other ≡ None = sym (entry-same c.reserve.ensures.target other) ∙ (sym c.get.ensures ∙ none_from c.get.result c.if-is_some-2.ensures) in
    let lt : length p.target ≡ robots s = c.plan.ensures.targets ∙ ap length c.reserve.ensures.target ∙ length-set b.target c.args.robot (Some c.args.cell) ∙ r.ready.targets in
    let lh : length p.seats.holder ≡ length s.floor.letters = c.plan.ensures.holders ∙ ap length c.reserve.ensures.holder ∙ length-set b.seats.holder c.args.cell (Some c.args.robot) ∙ r.ready.holders in
    rw (c.hand_back.ensures.target, c.hand_back.ensures.holder)
    (attempt-failed s scene b.target b.seats.holder c.args.robot c.args.cell r.ready r.choice (choice-inside s scene _ _ _ _ r.ready.known r.choice) none clear
    other stands idle p.target p.seats.holder lt lh
    (rw (c.reserve.ensures.target, c.reserve.ensures.holder) at c.if-plan.ensures.done))

pub plan-attempt-requires : goal.plan-attempt-requires
plan-attempt-requires g t c κs within =
    let s = g.S.Sight.setting c.args.scene.now in
    let scene = g.met.S.Sight.is_scene c.args.scene.now c.requires.whole in
    let trying = c.loop-cell.invariant.trying in
    let choices = c.choices-cells.ensures in
    let b = c.args.board.now in
    let d = c.loop-cell.board in (
      no-more-open t b.target d.target c.decreases trying.targets trying.grown.keep,
      (
        within.0,
        (
          within.1,
          (
            c.requires.whole,
            (
              rw c.loop-cell.invariant.standing c.requires.standing,
              (
                trying-ready s scene b.target b.seats.holder d.target d.seats.holder c.args.robot _ _ c.requires.ready choices trying,
                trying-choice s scene b.target b.seats.holder d.target d.seats.holder c.args.robot _ _ c.requires.ready choices trying (still-one choices.five c.loop-cell-test.true),
              ),
            ),
          ),
        ),
      ),
    )

pub plan-returns-then-attempt-clause-tried : goal.plan-returns-then-attempt-clause-tried
plan-returns-then-attempt-clause-tried g t c =
    let s = g.S.Sight.setting c.args.scene.now in
    let b = c.args.board.now in
    let d = c.loop-cell.board in
    let e = c.attempt.new.board in
    λ _. trying-tried s b.target b.seats.holder d.target d.seats.holder c.args.robot _ _ c.loop-cell.invariant.trying e.target e.seats.holder c.choices-cells.ensures c.if-attempt.ensures.done.1

pub plan-loop-cell-preserved : goal.plan-loop-cell-preserved
plan-loop-cell-preserved g t c =
    let s = g.S.Sight.setting c.args.scene.now in
    let b = c.args.board.now in
    let d = c.loop-cell.board in
    let e = c.attempt.new.board in
    let a = c.if-attempt.ensures in
    let lt : length e.target ≡ length d.target = a.targets in
    let lh : length e.seats.holder ≡ length d.seats.holder = a.holders in
    record {
      standing = a.standing ∙ c.loop-cell.invariant.standing;
      trying = trying-more s b.target b.seats.holder d.target d.seats.holder c.args.robot _ _ c.loop-cell.invariant.trying e.target e.seats.holder lt lh a.done;
    }

pub plan-returns-clause-done : goal.plan-returns-clause-done
plan-returns-clause-done g t c =
    let s = g.S.Sight.setting c.args.scene.now in
    let scene = g.met.S.Sight.is_scene c.args.scene.now c.requires.whole in
    let trying = c.loop-cell.invariant.trying in
    let choices = c.choices-cells.ensures in
    let b = c.args.board.now in
    let d = c.loop-cell.board in
    trying-failed s scene b.target b.seats.holder d.target d.seats.holder c.args.robot _ _ c.requires.ready choices trying (none-left choices.five c.loop-cell-test.false)

pub attempt-reserve-requires-clause-few_cells : goal.attempt-reserve-requires-clause-few_cells
attempt-reserve-requires-clause-few_cells g t c =
    let s = g.S.Sight.setting c.args.scene.now in
    let scene = g.met.S.Sight.is_scene c.args.scene.now c.requires.whole in
    let inside = choice-inside s scene _ _ _ _ c.requires.ready.known c.requires.choice in
    cell-small inside (cells-few s.floor scene.form)

pub attempt-hand_back-requires-clause-few_cells : goal.attempt-hand_back-requires-clause-few_cells
attempt-hand_back-requires-clause-few_cells g t c =
    let s = g.S.Sight.setting c.args.scene.now in
    let scene = g.met.S.Sight.is_scene c.args.scene.now c.requires.whole in
    let inside = choice-inside s scene _ _ _ _ c.requires.ready.known c.requires.choice in
    cell-small inside (cells-few s.floor scene.form)

pub attempt-get-requires : goal.attempt-get-requires
attempt-get-requires g t c =
    let s = g.S.Sight.setting c.args.scene.now in
    let b = c.args.board.now in
    let stands : Stands s c.in-Some.other c.args.cell = standing-some s c.args.board.now.seats.standing c.requires.standing c.reserve.new.self.seats.standing c.reserve.ensures.standing c.args.cell c.in-Some.other c.in-Some.ensures in
    below stands.0 (ap length c.reserve.ensures.target ∙ length-set b.target c.args.robot (Some c.args.cell) ∙ c.requires.ready.targets)

pub attempt-hand_back-requires-clause-few_robots : goal.attempt-hand_back-requires-clause-few_robots
attempt-hand_back-requires-clause-few_robots g t c =
    let s = g.S.Sight.setting c.args.scene.now in
    let scene = g.met.S.Sight.is_scene c.args.scene.now c.requires.whole in
    let stands : Stands s c.in-Some.other c.args.cell = standing-some s c.args.board.now.seats.standing c.requires.standing c.reserve.new.self.seats.standing c.reserve.ensures.standing c.args.cell c.in-Some.other c.in-Some.ensures in
    robot-small stands.0 scene.few

pub attempt-holder-requires : goal.attempt-holder-requires
attempt-holder-requires g t c =
    let s = g.S.Sight.setting c.args.scene.now in
    let scene = g.met.S.Sight.is_scene c.args.scene.now c.requires.whole in
    let r = c.requires in
    let inside = choice-inside s scene _ _ _ _ r.ready.known r.choice in
    below inside r.ready.holders

pub attempt-meets-requires-clause-whole : goal.attempt-meets-requires-clause-whole
attempt-meets-requires-clause-whole g t c = c.requires.whole

pub attempt-meets-requires-clause-known : goal.attempt-meets-requires-clause-known
attempt-meets-requires-clause-known g t c = c.requires.ready.known

pub attempt-meets-requires-clause-inside : goal.attempt-meets-requires-clause-inside
attempt-meets-requires-clause-inside g t c = choice-inside (g.S.Sight.setting c.args.scene.now) (g.met.S.Sight.is_scene c.args.scene.now c.requires.whole) _ _ _ _ c.requires.ready.known c.requires.choice

pub attempt-meets-requires-clause-targets : goal.attempt-meets-requires-clause-targets
attempt-meets-requires-clause-targets g t c = c.requires.ready.targets

pub attempt-meets-requires-clause-standing : goal.attempt-meets-requires-clause-standing
attempt-meets-requires-clause-standing g t c = c.requires.standing

pub attempt-returns-then-is_some-clause-targets : goal.attempt-returns-then-is_some-clause-targets
attempt-returns-then-is_some-clause-targets g t c = refl

pub attempt-returns-then-is_some-clause-holders : goal.attempt-returns-then-is_some-clause-holders
attempt-returns-then-is_some-clause-holders g t c = refl

pub attempt-reserve-requires-clause-known : goal.attempt-reserve-requires-clause-known
attempt-reserve-requires-clause-known g t c = below c.requires.ready.known c.requires.ready.targets

pub attempt-reserve-requires-clause-inside : goal.attempt-reserve-requires-clause-inside
attempt-reserve-requires-clause-inside g t c =
    let s = g.S.Sight.setting c.args.scene.now in
    let scene = g.met.S.Sight.is_scene c.args.scene.now c.requires.whole in
    let r = c.requires in
    let inside = choice-inside s scene _ _ _ _ r.ready.known r.choice in
    below inside r.ready.holders

pub attempt-reserve-requires-clause-few_robots : goal.attempt-reserve-requires-clause-few_robots
attempt-reserve-requires-clause-few_robots g t c = robot-small c.requires.ready.known (g.met.S.Sight.is_scene c.args.scene.now c.requires.whole).few

pub attempt-stander-requires : goal.attempt-stander-requires
attempt-stander-requires g t c =
    let s = g.S.Sight.setting c.args.scene.now in
    let scene = g.met.S.Sight.is_scene c.args.scene.now c.requires.whole in
    let r = c.requires in
    let inside = choice-inside s scene _ _ _ _ r.ready.known r.choice in
    below inside (ap length c.reserve.ensures.standing ∙ r.standing.all)

pub attempt-returns-in_default-clause-targets : goal.attempt-returns-in_default-clause-targets
attempt-returns-in_default-clause-targets g t c =
    let b = c.args.board.now in
    ap length c.reserve.ensures.target ∙ length-set b.target c.args.robot (Some c.args.cell)

pub attempt-returns-in_default-clause-holders : goal.attempt-returns-in_default-clause-holders
attempt-returns-in_default-clause-holders g t c =
    let b = c.args.board.now in
    ap length c.reserve.ensures.holder ∙ length-set b.seats.holder c.args.cell (Some c.args.robot)

pub attempt-returns-in_default-clause-standing : goal.attempt-returns-in_default-clause-standing
attempt-returns-in_default-clause-standing g t c = c.reserve.ensures.standing

pub attempt-hand_back-requires-clause-known : goal.attempt-hand_back-requires-clause-known
attempt-hand_back-requires-clause-known g t c =
    let b = c.args.board.now in
    below c.requires.ready.known (c.plan.ensures.targets ∙ ap length c.reserve.ensures.target ∙ length-set b.target c.args.robot (Some c.args.cell) ∙ c.requires.ready.targets)

pub attempt-hand_back-requires-clause-inside : goal.attempt-hand_back-requires-clause-inside
attempt-hand_back-requires-clause-inside g t c =
    let s = g.S.Sight.setting c.args.scene.now in
    let scene = g.met.S.Sight.is_scene c.args.scene.now c.requires.whole in
    let r = c.requires in
    let inside = choice-inside s scene _ _ _ _ r.ready.known r.choice in
    let b = c.args.board.now in
    below inside (c.plan.ensures.holders ∙ ap length c.reserve.ensures.holder ∙ length-set b.seats.holder c.args.cell (Some c.args.robot) ∙ r.ready.holders)

pub attempt-returns-clause-targets : goal.attempt-returns-clause-targets
attempt-returns-clause-targets g t c =
    let b = c.args.board.now in
    ap length c.hand_back.ensures.target ∙ length-set (slice_set c.plan.new.board.target c.args.robot None) c.in-Some.other (Some c.args.cell) ∙ length-set c.plan.new.board.target c.args.robot None
    ∙ c.plan.ensures.targets ∙ ap length c.reserve.ensures.target ∙ length-set b.target c.args.robot (Some c.args.cell)

pub attempt-returns-clause-holders : goal.attempt-returns-clause-holders
attempt-returns-clause-holders g t c =
    let b = c.args.board.now in
    ap length c.hand_back.ensures.holder ∙ length-set c.plan.new.board.seats.holder c.args.cell (Some c.in-Some.other)
    ∙ c.plan.ensures.holders ∙ ap length c.reserve.ensures.holder ∙ length-set b.seats.holder c.args.cell (Some c.args.robot)

pub attempt-returns-clause-standing : goal.attempt-returns-clause-standing
attempt-returns-clause-standing g t c = c.hand_back.ensures.standing ∙ c.plan.ensures.standing ∙ c.reserve.ensures.standing

pub plan-choices-cells-requires-clause-whole : goal.plan-choices-cells-requires-clause-whole
plan-choices-cells-requires-clause-whole g t c = c.requires.whole

pub plan-choices-cells-requires-clause-known : goal.plan-choices-cells-requires-clause-known
plan-choices-cells-requires-clause-known g t c = c.requires.ready.known

pub plan-bounds-cell-items-cell-index : goal.plan-bounds-cell-items-cell-index
plan-bounds-cell-items-cell-index g t c = c.loop-cell-test.true

pub plan-returns-then-attempt-clause-targets : goal.plan-returns-then-attempt-clause-targets
plan-returns-then-attempt-clause-targets g t c = c.if-attempt.ensures.targets ∙ c.loop-cell.invariant.trying.targets

pub plan-returns-then-attempt-clause-holders : goal.plan-returns-then-attempt-clause-holders
plan-returns-then-attempt-clause-holders g t c = c.if-attempt.ensures.holders ∙ c.loop-cell.invariant.trying.holders

pub plan-returns-then-attempt-clause-standing : goal.plan-returns-then-attempt-clause-standing
plan-returns-then-attempt-clause-standing g t c = c.if-attempt.ensures.standing ∙ c.loop-cell.invariant.standing

pub plan-returns-clause-targets : goal.plan-returns-clause-targets
plan-returns-clause-targets g t c = c.loop-cell.invariant.trying.targets

pub plan-returns-clause-holders : goal.plan-returns-clause-holders
plan-returns-clause-holders g t c = c.loop-cell.invariant.trying.holders

pub plan-returns-clause-standing : goal.plan-returns-clause-standing
plan-returns-clause-standing g t c = c.loop-cell.invariant.standing

pub attempt-returns-then-is_some-clause-standing : goal.attempt-returns-then-is_some-clause-standing
attempt-returns-then-is_some-clause-standing g t c = refl

pub attempt-returns-then-is_some-clause-done : goal.attempt-returns-then-is_some-clause-done
attempt-returns-then-is_some-clause-done g t c =
    let s = g.S.Sight.setting c.args.scene.now in
    let b = c.args.board.now in
    elim c.then-is_some.branch [
      | attempt-then-is_some-via-then-is_some w ↦ refused-shut s b.target b.seats.holder c.args.robot c.args.cell c.requires.ready (λ none. absurd (not_none c.holder.result w.if-is_some.ensures (c.holder.ensures ∙ none)))
      | attempt-then-is_some-via-else-is_some+then-meets w ↦ refused-shut s b.target b.seats.holder c.args.robot c.args.cell c.requires.ready (λ none. let met = w.if-meets.ensures.0 refl in (met.0, met.2, met.1.1))
    ]

pub attempt-returns-then-is_some-2-clause-targets : goal.attempt-returns-then-is_some-2-clause-targets
attempt-returns-then-is_some-2-clause-targets g t c =
    let b = c.args.board.now in
    let reserved = ap length c.reserve.ensures.target ∙ length-set b.target c.args.robot (Some c.args.cell) in
    elim c.then-is_some-2.branch [
      | attempt-then-is_some-2-via-then-is_some-2 w ↦ rw w.board-is reserved
      | attempt-then-is_some-2-via-else-is_some-2+then-plan w ↦ rw w.board-is (w.plan.ensures.targets ∙ reserved)
    ]

pub attempt-returns-then-is_some-2-clause-holders : goal.attempt-returns-then-is_some-2-clause-holders
attempt-returns-then-is_some-2-clause-holders g t c =
    let b = c.args.board.now in
    let reserved = ap length c.reserve.ensures.holder ∙ length-set b.seats.holder c.args.cell (Some c.args.robot) in
    elim c.then-is_some-2.branch [
      | attempt-then-is_some-2-via-then-is_some-2 w ↦ rw w.board-is reserved
      | attempt-then-is_some-2-via-else-is_some-2+then-plan w ↦ rw w.board-is (w.plan.ensures.holders ∙ reserved)
    ]

pub attempt-returns-then-is_some-2-clause-standing : goal.attempt-returns-then-is_some-2-clause-standing
attempt-returns-then-is_some-2-clause-standing g t c = elim c.then-is_some-2.branch [
  | attempt-then-is_some-2-via-then-is_some-2 w ↦ rw w.board-is c.reserve.ensures.standing
  | attempt-then-is_some-2-via-else-is_some-2+then-plan w ↦ rw w.board-is (w.plan.ensures.standing ∙ c.reserve.ensures.standing)
]

pub attempt-hand_back-requires-clause-other_known : goal.attempt-hand_back-requires-clause-other_known
attempt-hand_back-requires-clause-other_known g t c =
    let s = g.S.Sight.setting c.args.scene.now in
    let b = c.args.board.now in
    let stands : Stands s c.in-Some.other c.args.cell = standing-some s b.seats.standing c.requires.standing c.reserve.new.self.seats.standing c.reserve.ensures.standing c.args.cell c.in-Some.other c.in-Some.ensures in
    below stands.0 (c.plan.ensures.targets ∙ ap length c.reserve.ensures.target ∙ length-set b.target c.args.robot (Some c.args.cell) ∙ c.requires.ready.targets)

pub plan-loop-cell-init : goal.plan-loop-cell-init
plan-loop-cell-init g t c =
    let b = c.args.board.now in
    record { standing = refl; trying = trying-start (g.S.Sight.setting c.args.scene.now) b.target b.seats.holder c.args.robot c.choices-cells.result c.requires.ready }

pub plan-returns-then-attempt-clause-done : goal.plan-returns-then-attempt-clause-done
plan-returns-then-attempt-clause-done g t c =
    let b = c.args.board.now in
    let d = c.loop-cell.board in
    let e = c.attempt.new.board in
    trying-done (g.S.Sight.setting c.args.scene.now) b.target b.seats.holder d.target d.seats.holder c.args.robot _ _ c.loop-cell.invariant.trying e.target e.seats.holder c.if-attempt.ensures.done.0

pub plan-returns-clause-tried : goal.plan-returns-clause-tried
plan-returns-clause-tried g t c = λ yes. absurd (false≢true yes)
