-- Counting over one more cell.
use Rattle.std.proofs.Common.{◌≡◌, ℕ, ◌+◌, ◌≤◌, Bool, cond, true, false, refl, ap, ◌∙◌, arith}
use Rattle.std.specs.Prelude.{count_by}
use Rattle.std.specs.List.{range_with_len}
use Rattle.std.specs.Int.{from_bool}
use Rattle.std.proofs.lemmas.List.{map-id}
use Rattle.std.proofs.lemmas.List.FromFn.{sum_by-map-range_with_len_more}

pub count_more : (p : ℕ → Bool) (n : ℕ) → count_by p (range_with_len 0 (n + 1)) ≡ count_by p (range_with_len 0 n) + from_bool (p n)
count_more p n =
    let e = sum_by-map-range_with_len_more (λ x. cond (p x) 1 0) (λ x. x) 0 n n (omega arith) in
    let f : count_by p (range_with_len 0 (n + 1)) ≡ count_by p (range_with_len 0 n) + cond (p n) 1 0 = rw (map-id (range_with_len 0 (n + 1)), map-id (range_with_len 0 n)) at e in
    f ∙ ap (λ (k : ℕ). count_by p (range_with_len 0 n) + k) (one (p n))
  where
    one : (b : Bool) → cond b 1 0 ≡ from_bool b
    one true = refl
    one false = refl

pub bool_few : (b : Bool) → from_bool b ≤ 1
bool_few true = omega arith
bool_few false = omega arith
