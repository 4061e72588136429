-- It is above the cells before this one.
use Rattle.std.proofs.Common.{◌≡◌, ℕ, ◌<◌, ◌⊎◌}
use Rattle.std.specs.Prelude.{slice_index}
use Rattle.fleet_execute.proofs.placed.after_greatest.Given as goal

abbrev pub invariant-loop-at : goal.invariant-loop-at
invariant-loop-at l = (i : ℕ) → i < l.at → (slice_index l.cells i < l.count) ⊎ (l.count ≡ 4294967295)
