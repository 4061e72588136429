use Rattle.std.proofs.Common.{◌≡◌, ◌≤◌, ◌<◌, ◌+◌, ◌*◌, ℕ, Some, None, length}
use Rattle.std.specs.Prelude.{max, slice_index_or}
use Rattle.fleet_reopen.specs.Room.{count_before}
use Rattle.fleet_reopen.proofs.bound.have_room.Given as goal

abbrev pub invariant-loop-r : goal.invariant-loop-r
invariant-loop-r l = (q w : ℕ) → q < l.r → slice_index_or l.waits q None ≡ Some w → w + max 1 l.far + count_before l.waits q w * l.reach ≤ length l.waits * l.reach
