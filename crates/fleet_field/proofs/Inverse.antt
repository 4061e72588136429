-- A division by multiplication.
use Rattle.std.proofs.Common.{◌≡◌, ℕ, ◌+◌, ◌-◌, ◌*◌, ◌/◌, ◌%◌, ◌<◌, ◌≤◌, ap, ◌∙◌, arith}
use Rattle.std.proofs.lemmas.Nat.{div-mul-add, div-add-mod', mod_below, mul-le}
use Rattle.std.proofs.Math.Nat.{lt_of_mul-lt-mul_right, div-mul-le_self}
use Rattle.fleet_field.specs.Kept.{IsInverse}

pub is_inverse : (w : ℕ) → 0 < w → w ≤ 1024 → IsInverse w (1073741824 / w + 1)
is_inverse w pos slim =
    let whole : 1073741824 / w * w + 1073741824 % w ≡ 1073741824 = div-add-mod' 1073741824 w in
    let rest = mod_below 1073741824 w pos in
    let more : (1073741824 / w + 1) * w ≡ 1073741824 / w * w + w = omega arith in
    let one : 1073741824 / w * 1 ≤ 1073741824 / w * w = mul-le (1073741824 / w) 1 (1073741824 / w) w (omega arith) pos in
    record { wide = pos; slim = slim; small = omega (arith, one, whole); low = omega (arith, more, whole, rest); high = omega (arith, more, whole) }

module _ (w m c : ℕ) (inverse : IsInverse w m) (few : c < 1048576) where
  low : c / w * 1073741824 ≤ c * m
  low =
      let rows : c / w * 1073741824 ≤ c / w * (m * w) = mul-le (c / w) 1073741824 (c / w) (m * w) (omega arith) inverse.low in
      let below : c / w * w * m ≤ c * m = mul-le (c / w * w) m c m (div-mul-le_self c w) (omega arith) in
      let same : c / w * (m * w) ≡ c / w * w * m = omega arith in
      omega (arith, rows, below, same)

  high : c * m < (c / w + 1) * 1073741824
  high = lt_of_mul-lt-mul_right w (
      let part : c / w * w + c % w ≡ c = div-add-mod' c w in
      let rest = mod_below c w inverse.wide in
      let more : c * (m * w) ≤ c * (1073741824 + w) = mul-le c (m * w) c (1073741824 + w) (omega arith) inverse.high in
      let wide : c * w ≤ c * 1024 = mul-le c w c 1024 (omega arith) inverse.slim in
      let same : c * m * w ≡ c * (m * w) = omega arith in
      let apart : c * (1073741824 + w) ≡ c * 1073741824 + c * w = omega arith in
      let last : (c / w + 1) * 1073741824 * w ≡ 1073741824 * (c / w * w) + 1073741824 * w = omega arith in
      omega (arith, part, rest, more, wide, same, apart, last, few))

  pub row_by : c * m / 1073741824 ≡ c / w
  row_by =
      let is : c * m ≡ c / w * 1073741824 + (c * m - c / w * 1073741824) = omega (arith, low) in
      ap (λ (x : ℕ). x / 1073741824) is ∙ div-mul-add (c / w) 1073741824 (c * m - c / w * 1073741824) (omega (arith, low, high))
