use Rattle.std.proofs.Common.{◌≡◌, ◌≤◌, map}
use Rattle.std.specs.Prelude.{replicate, vec_len, vec_capacity}
use Rattle.fleet_hooks.proofs.hooks.Hooks.alike.Given as goal

abbrev pub invariant-loop : goal.invariant-loop
invariant-loop g l = (map (λ h. h.law) l.hooks.ties.items ≡ replicate l.counter l.tie.law)
    × (map (λ h. h.law) l.hooks.arrivals.items ≡ replicate l.counter l.arrival.law)
    × (map (λ h. h.law) l.hooks.farewells.items ≡ replicate l.counter l.farewell.law)
    × (map (λ h. h.kind) l.hooks.ties.items ≡ replicate l.counter l.tie.kind)
    × (map (λ h. h.kind) l.hooks.arrivals.items ≡ replicate l.counter l.arrival.kind)
    × (map (λ h. h.kind) l.hooks.farewells.items ≡ replicate l.counter l.farewell.kind)
    × (vec_len l.hooks.ties ≡ l.counter)
    × (vec_len l.hooks.arrivals ≡ l.counter)
    × (vec_len l.hooks.farewells ≡ l.counter)
    × (l.robots ≤ vec_capacity l.hooks.ties)
    × (l.robots ≤ vec_capacity l.hooks.arrivals)
    × (l.robots ≤ vec_capacity l.hooks.farewells)
