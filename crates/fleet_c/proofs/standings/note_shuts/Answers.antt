use Rattle.std.proofs.Common.{◌≡◌, ◌<◌, ℕ, length, subst}
use Rattle.std.specs.Prelude.{slice_index_or}
use Rattle.fleet_history.specs.declared.history.Entry.{Entry}
use Rattle.fleet_c.specs.declared.standing.Standing.{Standing}
use Rattle.fleet_c.specs.inside.Runs.{shut_by}
use Rattle.fleet_c.proofs.Runs.{each-more}
use Rattle.fleet_c.proofs.standings.note_shuts.Goals as goal

pub loop-at-preserved : goal.loop-at-preserved
loop-at-preserved c =
    let e = c.index-entries-at.result in
    each-more shut_by c.args.entries.now c.args.standings.now c.loop-at.standings c.note_shut.new.standings c.loop-at.at e c.loop-at-test.true c.loop-at.auto.standings
    (subst (λ (x : Entry _). (r : ℕ) (d : Standing) → r < length c.loop-at.standings → slice_index_or c.note_shut.new.standings r d ≡ shut_by r x (slice_index_or c.loop-at.standings r d)) c.index-entries-at.is c.note_shut.ensures)
    c.loop-at.invariant
