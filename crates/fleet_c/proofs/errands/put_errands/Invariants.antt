use Rattle.std.proofs.Common.{◌≡◌, ◌<◌, ℕ, length, take}
use Rattle.std.specs.Prelude.{slice_index_or}
use Rattle.fleet_c.specs.declared.chore.Chore.{Chore}
use Rattle.fleet_c.specs.inside.Runs.{run, put_at}
use Rattle.fleet_c.proofs.errands.put_errands.Given as goal

abbrev pub invariant-loop-at : goal.invariant-loop-at
invariant-loop-at l = (k : ℕ) (d : Chore) → k < length l.fn.errands → slice_index_or l.errands k d ≡ run (put_at l.robot k) (take l.at l.all) (slice_index_or l.fn.errands k d)
