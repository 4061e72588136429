-- The state after each entry.
use Rattle.std.proofs.Common.{refl, sym}
use Rattle.fleet_history.specs.History.{start, with_entries}
use Rattle.fleet_trace.proofs.EntryByEntry.{all_entered}
use Rattle.fleet_trace.proofs.StepByStep.{may-enter, placed-here, entered-here, room-kept}
use Rattle.fleet_trace.proofs.replayed.enter_all.Goals as goal

pub enter-requires-clause-may : goal.enter-requires-clause-may
enter-requires-clause-may g c =
    may-enter c.args.grid.now (with_entries (start c.args.opening.now) c.args.entries.now) c.requires.legal c.loop-at.at c.index-entries-at.result c.loop-at.state c.loop-at.invariant.0 c.loop-at-test.true (sym c.index-entries-at.is) c.requires.early

pub enter-requires-clause-place : goal.enter-requires-clause-place
enter-requires-clause-place g c =
    placed-here c.args.grid.now (with_entries (start c.args.opening.now) c.args.entries.now) c.requires.legal c.loop-at.at c.index-entries-at.result c.loop-at.state c.loop-at.invariant.0 c.loop-at-test.true (sym c.index-entries-at.is) c.loop-at.invariant.1

pub loop-at-init : goal.loop-at-init
loop-at-init g c = (c.requires.opened, c.requires.rooms)

pub loop-at-preserved : goal.loop-at-preserved
loop-at-preserved g c =
    let next = entered-here c.args.grid.now (with_entries (start c.args.opening.now) c.args.entries.now) c.requires.legal c.loop-at.at c.index-entries-at.result c.loop-at.state c.loop-at.invariant.0 c.loop-at-test.true (sym c.index-entries-at.is) c.enter.new.self c.enter.ensures.follows in
    (next, room-kept c.loop-at.invariant.0 next refl c.enter.ensures.rooms c.loop-at.invariant.1)

pub returns : goal.returns
returns g c = all_entered c.args.grid.now (with_entries (start c.args.opening.now) c.args.entries.now) c.loop-at.at c.loop-at.state c.loop-at.invariant.0 c.loop-at-test.false
