-- The waits of the three robots are short.
use Rattle.std.proofs.Common.{◌≡◌, ℕ, zero, suc, ◌+◌, ◌<◌, Option, Some, None, [], ◌∷◌, arith}
use Rattle.fleet_pibt.specs.Order.{wait_of}

pub short : (r w : ℕ) → wait_of (Some 9 ∷ None ∷ Some 2 ∷ []) r ≡ Some w → w + 1 < 9223372036854775808
short zero w e = let same : 9 ≡ w = cc (e) in omega (arith, same)
short (suc zero) w e = absurd (cc (e))
short (suc (suc zero)) w e = let same : 2 ≡ w = cc (e) in omega (arith, same)
short (suc (suc (suc r))) w e = absurd (cc (e))
