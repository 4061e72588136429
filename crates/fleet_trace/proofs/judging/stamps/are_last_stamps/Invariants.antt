use Rattle.std.proofs.Common.{ℕ, ◌<◌, map, slice_index_or}
use Rattle.fleet_hooks.specs.Law.{IsStamp}
use Rattle.fleet_history.specs.declared.history.Bye.{Bye}
use Rattle.fleet_history.specs.Legal.{no_law}
use Rattle.fleet_trace.proofs.judging.stamps.are_last_stamps.Given as goal

abbrev pub invariant-loop-bye : goal.invariant-loop-bye
invariant-loop-bye g l = (k : ℕ) (d : Bye) → k < l.bye-index →
    IsStamp (slice_index_or (map (λ x. x.farewell_law) l.robots) (slice_index_or l.farewells k d).robot no_law) (slice_index_or l.farewells k d).stamp
