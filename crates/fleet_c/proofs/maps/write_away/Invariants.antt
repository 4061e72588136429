use Rattle.std.proofs.Common.{◌≡◌, ◌<◌, ℕ, length}
use Rattle.std.specs.Prelude.{slice_index, slice_index_or, None}
use Rattle.fleet_c.specs.Maps.{told_away}
use Rattle.fleet_c.proofs.maps.write_away.Given as goal

abbrev pub invariant-loop-cell : goal.invariant-loop-cell
invariant-loop-cell l = (length l.distances ≡ length l.fn.distances) × ((k : ℕ) → k < l.cell → slice_index l.distances k ≡ told_away (slice_index_or l.field.away k None))
