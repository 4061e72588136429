-- One more entry is recorded.
use Rattle.std.proofs.Common.{refl, sym, arith}
use Rattle.fleet_history.specs.History.{start, with_entries}
use Rattle.fleet_stats.specs.Noted.{entries_noted}
use Rattle.fleet_stats.specs.Rows.{shown}
use Rattle.fleet_stats.proofs.Followed.{begins, early, may, room, next, recorded, all-recorded, at-end}
use Rattle.fleet_stats.proofs.follow.follow_entries.Goals as goal

pub loop-at-init : goal.loop-at-init
loop-at-init c = record { state = begins (with_entries (start c.args.opening.now) c.args.entries.now) c.args.state.now c.requires; notes = refl }

pub note-requires : goal.note-requires
note-requires c =
    let h = with_entries (start c.args.opening.now) c.args.entries.now in
    early h c.loop-at.at c.loop-at.state c.loop-at.invariant.state (omega (arith, c.loop-at-test.true))

pub enter-requires-clause-may : goal.enter-requires-clause-may
enter-requires-clause-may c =
    let h = with_entries (start c.args.opening.now) c.args.entries.now in
    may h c.loop-at.at c.loop-at.state c.loop-at.invariant.state c.index-entries-at.result c.loop-at-test.true (sym c.index-entries-at.is)

pub enter-requires-clause-place : goal.enter-requires-clause-place
enter-requires-clause-place c =
    let h = with_entries (start c.args.opening.now) c.args.entries.now in
    room h c.loop-at.at c.loop-at.state c.loop-at.invariant.state c.index-entries-at.result c.loop-at-test.true (sym c.index-entries-at.is)

pub loop-at-preserved : goal.loop-at-preserved
loop-at-preserved c =
    let h = with_entries (start c.args.opening.now) c.args.entries.now in
    record {
      state = next h c.loop-at.at c.loop-at.state c.loop-at.invariant.state c.index-entries-at.result c.loop-at-test.true (sym c.index-entries-at.is) c.enter.new.self c.enter.ensures.follows c.enter.ensures.rooms;
      notes = recorded h c.loop-at.at c.loop-at.state c.loop-at.invariant.state c.index-entries-at.result c.loop-at-test.true (sym c.index-entries-at.is) (shown c.loop-at.notes) (shown c.note.new.notes) (entries_noted h (shown c.args.notes.now)) c.in_ok-note.ensures c.loop-at.invariant.notes;
    }

pub returns : goal.returns
returns c =
    let h = with_entries (start c.args.opening.now) c.args.entries.now in
    record {
      noted = all-recorded h c.loop-at.at (shown c.loop-at.notes) (entries_noted h (shown c.args.notes.now)) c.loop-at-test.false c.loop-at.invariant.notes;
      ended = at-end h c.loop-at.at c.loop-at.state c.loop-at-test.false c.loop-at.invariant.state;
    }
