use Rattle.std.proofs.Common.{◌≡◌, ◌<◌, ℕ, length, take}
use Rattle.std.specs.Prelude.{slice_index_or}
use Rattle.fleet_c.specs.declared.standing.Standing.{Standing}
use Rattle.fleet_c.specs.inside.Runs.{run, noted}
use Rattle.fleet_c.proofs.standings.note_errands.Given as goal

abbrev pub invariant-loop-at : goal.invariant-loop-at
invariant-loop-at l = (r : ℕ) (d : Standing) → r < length l.fn.standings → slice_index_or l.standings r d ≡ run (noted r) (take l.at l.all) (slice_index_or l.fn.standings r d)
