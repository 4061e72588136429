use Rattle.std.proofs.Common.{◌≡◌, ◌<◌, ℕ, map, get_or}
use Rattle.fleet_core.specs.Hooks.{law_at}
use Rattle.fleet_core.proofs.StampLists.{no_farewell}
use Rattle.fleet_core.proofs.least_stamps.stamp_farewells.Given as goal

abbrev pub invariant-loop-j : goal.invariant-loop-j
invariant-loop-j g l = record {
  robots : map (λ b. b.robot) l.leaving ≡ map (λ b. b.robot) l.initial.leaving;
  stamps : (k : ℕ) → k < l.j → (get_or l.leaving k no_farewell).stamp ≡ (law_at (map (λ x. x.farewell_law) l.robots) (get_or l.leaving k no_farewell).robot).low;
}
