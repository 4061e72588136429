-- Places of steps in the window.
use Rattle.std.proofs.Common.{◌≡◌, ℕ, ◌+◌, ◌*◌, ◌/◌, ◌%◌, ◌<◌, ◌≤◌, inl, inr, sym, arith}
use Rattle.std.proofs.lemmas.Bool.{cases_lt}
use Rattle.std.proofs.Math.Nat.{mul-le-mul_left, div-add-mod}
use Rattle.fleet_execution.specs.Executes.{IsKept}

-- two steps less than a window apart have two places
pub places_apart : (n t u : ℕ) → t < u → u < t + n → u % n ≡ t % n → ⊥
places_apart n t u less near same =
    let ut : n * (u / n) + u % n ≡ u = div-add-mod u n in
    let tt' : n * (t / n) + t % n ≡ t = div-add-mod t n in
    elim (cases_lt (t / n) (u / n)) [
      | inl up ↦ (
          let m : n * (t / n + 1) ≤ n * (u / n) = mul-le-mul_left n (omega arith) in
          omega (arith, m, ut, tt', same, near))
      | inr down ↦ (
          let m : n * (u / n) ≤ n * (t / n) = mul-le-mul_left n down in
          omega (arith, m, ut, tt', same, less))
    ]

pub one_place : (ahead steps t u : ℕ) → IsKept ahead steps t → IsKept ahead steps u → t % ahead ≡ u % ahead → t ≡ u
one_place ahead steps t u a b same = elim (cases_lt t u) [
  | inl less ↦ absurd (places_apart ahead t u less (omega (arith, b.planned, a.late)) (sym same))
  | inr more ↦ elim (cases_lt u t) [
    | inl less ↦ absurd (places_apart ahead u t less (omega (arith, a.planned, b.late)) same)
    | inr less ↦ omega (arith, more, less)
  ]
]
