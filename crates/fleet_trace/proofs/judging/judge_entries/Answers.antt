use Rattle.std.proofs.Common.{◌≡◌, ◌<◌, ℕ, length, slice_index, sym, subst, List, Option}
use Rattle.fleet_trace.specs.inside.Rooms.{room_for}
use Rattle.fleet_trace.proofs.Placed.{placed}
use Rattle.fleet_history.specs.declared.history.RobotState.{RobotState}
use Rattle.fleet_history.specs.History.{start, with_entries}
use Rattle.fleet_trace.specs.Judged.{JudgedBy}
use Rattle.fleet_trace.proofs.EntryByEntry.{illegal_at, may_follow, goes_on, all_entered}
use Rattle.fleet_trace.proofs.judging.judge_entries.Goals as goal

pub returns-in-Some-clause-fault : goal.returns-in-Some-clause-fault
returns-in-Some-clause-fault g c =
    let m = c.args.grid.now in
    let h = with_entries (start c.args.opening.now) c.args.entries.now in
    let e = c.index-entries-at.result in
    let s = c.loop-at.state in
    let judged = subst (λ (o : Option _). JudgedBy m h.opening.robots s e o) c.in-Some.is (subst (λ (xs : List (RobotState _)). JudgedBy m xs s e c.in_ok-rule.field-0) c.as_slice-robots.ensures c.in_ok-rule.ensures) in
    (illegal_at m h c.loop-at.at e s c.loop-at.invariant.0 c.loop-at-test.true (sym c.index-entries-at.is) c.in-Some.rule judged)

pub enter-requires-clause-may : goal.enter-requires-clause-may
enter-requires-clause-may g c =
    let m = c.args.grid.now in
    let h = with_entries (start c.args.opening.now) c.args.entries.now in
    let e = c.index-entries-at.result in
    let s = c.loop-at.state in
    let judged = subst (λ (o : Option _). JudgedBy m h.opening.robots s e o) c.in_default.is (subst (λ (xs : List (RobotState _)). JudgedBy m xs s e c.in_ok-rule.field-0) c.as_slice-robots.ensures c.in_ok-rule.ensures) in
    may_follow m h c.loop-at.at e s c.loop-at.invariant.0 c.loop-at-test.true (sym c.index-entries-at.is) judged c.requires.early

pub loop-at-preserved : goal.loop-at-preserved
loop-at-preserved g c =
    let m = c.args.grid.now in
    let h = with_entries (start c.args.opening.now) c.args.entries.now in
    let e = c.index-entries-at.result in
    let s = c.loop-at.state in
    let judged = subst (λ (o : Option _). JudgedBy m h.opening.robots s e o) c.in_default.is (subst (λ (xs : List (RobotState _)). JudgedBy m xs s e c.in_ok-rule.field-0) c.as_slice-robots.ensures c.in_ok-rule.ensures) in
    (goes_on m h c.loop-at.at e s c.loop-at.invariant.0 c.loop-at-test.true (sym c.index-entries-at.is) c.enter.new.self judged c.enter.ensures.follows, subst (λ (xs : List ℕ). (r : ℕ) → r < length c.args.opening.now.robots → slice_index xs r ≡ room_for c.args.opening.now c.args.entries.now r) (sym c.enter.ensures.rooms) c.loop-at.invariant.1)

pub returns-clause-state : goal.returns-clause-state
returns-clause-state g c =
    all_entered c.args.grid.now (with_entries (start c.args.opening.now) c.args.entries.now) c.loop-at.at c.loop-at.state c.loop-at.invariant.0 c.loop-at-test.false

pub enter-requires-clause-place : goal.enter-requires-clause-place
enter-requires-clause-place g c =
    let m = c.args.grid.now in
    let h = with_entries (start c.args.opening.now) c.args.entries.now in
    let e = c.index-entries-at.result in
    let s = c.loop-at.state in
    let judged = subst (λ (o : Option _). JudgedBy m h.opening.robots s e o) c.in_default.is (subst (λ (xs : List (RobotState _)). JudgedBy m xs s e c.in_ok-rule.field-0) c.as_slice-robots.ensures c.in_ok-rule.ensures) in
    placed m h c.loop-at.at s c.loop-at.invariant.0 c.loop-at.invariant.1 c.loop-at-test.true e (sym c.index-entries-at.is) judged
