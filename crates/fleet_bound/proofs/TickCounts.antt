-- What the ticks that are told say of a history, for the calls that tell them.
use Rattle.std.proofs.Common.{◌≡◌, ℕ, refl, Bool, true, false, Option, IsTrue}
use Rattle.std.specs.Prelude.{◌↔◌, IfSome, IsSome}
use Rattle.std.proofs.lemmas.Bool.{false≢true}
use Rattle.fleet_grid.specs.Floor.{Floor}
use Rattle.fleet_grid.specs.Counts.{floor_count}
use Rattle.fleet_history.specs.History.{History, robots}
use Rattle.fleet_bound.specs.Arriving.{IsIdleWithin}
use Rattle.fleet_bound.specs.Idle.{longest_after, idle_ticks, idle_within}
use Rattle.fleet_bound.proofs.Queues.{fleet-idles}

-- they are there exactly on a bridgeless map, P being that it has no bridge
pub within-told : (P : Type 0) (bridgeless : Bool) (longest robots floor : ℕ) (told : Option ℕ) → IsTrue bridgeless ↔ P →
    told ≡ idle_within bridgeless longest robots floor → IsSome told ↔ P
within-told P true longest robots floor told is tells = rw tells ((λ s. is.0 search), (λ p. refl))
within-told P false longest robots floor told is tells = rw tells ((λ s. absurd (false≢true s)), (λ p. absurd (false≢true (is.1 p))))

pub within-exact : (bridgeless : Bool) (longest robots floor k n : ℕ) (told : Option ℕ) → longest ≡ k → robots ≡ n →
    told ≡ idle_within bridgeless longest robots floor → IfSome told (λ ticks. ticks ≡ idle_ticks k n floor)
within-exact true longest robots floor k n told queues count tells = rw (tells, queues, count) refl
within-exact false longest robots floor k n told queues count tells = rw tells search

-- and the fleet is idle within them
pub within-idle : {A : Type 0} (m : Floor) (h : History A) (bridgeless : Bool) (longest count : ℕ) (told : Option ℕ) → longest ≡ longest_after h → count ≡ robots h →
    told ≡ idle_within bridgeless longest count (floor_count m) → IfSome told (λ ticks. IsIdleWithin m h ticks)
within-idle m h true longest count told queues same tells = rw (tells, queues, same) (fleet-idles m h)
within-idle m h false longest count told queues same tells = rw tells search
