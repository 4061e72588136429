-- The limit on waits that a number of robots and a map give.
use Rattle.std.proofs.Common.{◌≡◌, ℕ, ◌<◌, ◌≤◌, ◌*◌, ◌-◌, refl, sym, ◌∙◌, Bool, true, false, Option, Some, None, arith}
use Rattle.std.specs.Prelude.{IfSome, IsSome, max}
use Rattle.fleet_grid.specs.Floor.{Floor}
use Rattle.fleet_grid.specs.Counts.{floor_count}
use Rattle.fleet_history.specs.History.{History, robots}
use Rattle.fleet_history.specs.Waits.{wait}
use Rattle.fleet_bound.specs.Bound.{WaitsAreBounded, wait_bound}
use Rattle.fleet_bound.specs.Idle.{idle_within, idle_ticks, wait_limit}
use Rattle.fleet_bound.specs.Reach.{reach}
use Rattle.std.proofs.lemmas.Nat.{mul-le}
use Rattle.fleet_bound.proofs.Levels.{reach-few}

-- one errand of each robot
once : (n floor : ℕ) → idle_ticks 1 n floor ≡ wait_limit n floor
once n floor = omega (arith)

pub limit-exact : (bridgeless : Bool) (count n floor : ℕ) (told : Option ℕ) → count ≡ n →
    told ≡ idle_within bridgeless 1 count floor → IfSome told (λ most. most ≡ wait_limit n floor)
limit-exact true count n floor told same tells = rw (tells, same) (once n floor)
limit-exact false count n floor told same tells = rw tells search

pub limit-above : {A : Type 0} (m : Floor) (h : History A) (told : Option ℕ) → IfSome told (λ most. most ≡ wait_limit (robots h) (floor_count m)) →
    (IsSome told → WaitsAreBounded m h) → IfSome told (λ most. (r w : ℕ) → r < robots h → wait h r ≡ Some w → w < most)
limit-above m h None is bounded = search
limit-above m h (Some most) is bounded = λ r w few waits.
    let some : IsSome (Some most) = search in
    let near : w < wait_bound m h = bounded some r w few waits in
    let far : wait_bound m h ≤ robots h * max 1 (floor_count m - 1) = mul-le (robots h) (reach m) (robots h) (max 1 (floor_count m - 1)) (omega arith) (reach-few m) in
    omega (arith, near, far, is)
