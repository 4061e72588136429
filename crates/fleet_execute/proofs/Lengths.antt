-- Placements in a list of cells.
use Rattle.std.proofs.Common.{◌≡◌, ℕ, ◌+◌, ◌*◌, ◌/◌, ◌%◌, ◌<◌, ◌≤◌, arith}
use Rattle.std.proofs.lemmas.Bool.{cases_lt}
use Rattle.std.proofs.Common.{inl, inr}
use Rattle.std.proofs.Math.Nat.{mul-le-mul_left, div-add-mod}

-- there is a whole placement
pub one_fits : (n r : ℕ) → 0 < r → r ≤ n → 0 < n / r
one_fits n r some whole = elim (cases_lt 0 (n / r)) [
  | inl more ↦ more
  | inr none ↦ (
      let d : r * (n / r) + n % r ≡ n = div-add-mod n r in
      let m : r * (n / r) ≤ r * 0 = mul-le-mul_left r none in
      omega (arith, d, m, some, whole))
]

-- the placement at a time lies within the list
pub chunk_fits : (n r t : ℕ) → 0 < r → t < n / r → t * r + r ≤ n
chunk_fits n r t some inside =
    let d : r * (n / r) + n % r ≡ n = div-add-mod n r in
    let m : r * (t + 1) ≤ r * (n / r) = mul-le-mul_left r (omega (arith, inside)) in
    omega (arith, d, m)
