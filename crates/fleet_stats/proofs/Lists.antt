-- Lists of numbers: windows, counts, and lines of counts.
use Rattle.std.proofs.Common.{◌≡◌, add-one, ℕ, zero, suc, ◌+◌, ◌-◌, ◌*◌, ◌/◌, ◌%◌, ◌<◌, ◌≤◌, Bool, true, false, List, [], ◌∷◌, ◌++◌, length, get_or, take, drop, refl, sym, ap, ◌∙◌, arith}
use Rattle.std.specs.Prelude.{◌==◌, if◌then◌else◌, slice_index, map}
use Rattle.std.proofs.lemmas.List.{take_rest, take_all, length-drop, map-append, append_assoc}
use Rattle.std.proofs.lemmas.List.Sums.{count_by_more_yes, count_by_more_no}
use Rattle.std.proofs.Math.Nat.{div-lt_iff_lt-mul}
use Rattle.fleet_state.proofs.Ranges.{map-range_more}
use Rattle.fleet_stats.specs.declared.rows.Taken.{Taken}
use Rattle.fleet_stats.specs.Rows.{times_of, all_times}
use Rattle.fleet_stats.specs.Figures.{count_of}
use Rattle.fleet_stats.specs.declared.lines.Style.{Style}
use Rattle.fleet_book.specs.Refusals.{refusal_of}
use Rattle.fleet_stats.specs.Text.{cell_line, cells_below, refusal_line, refusals_below}

-- ---- windows

pub short_window : (xs : List ℕ) (start : ℕ) → length xs - start ≤ 100 → take (length xs - start) (drop start xs) ≡ take 100 (drop start xs)
short_window xs start few = take_rest xs start ∙ sym (take_all 100 (drop start xs) (omega (arith, length-drop start xs, few)))

pub long_window : (xs : List ℕ) (start : ℕ) → take (start + 100 - start) (drop start xs) ≡ take 100 (drop start xs)
long_window xs start = let same : start + 100 - start ≡ 100 = omega arith in rw same refl

-- ---- counts

pub counted_by : (xs : List ℕ) (i x k : ℕ) (b : Bool) → i < length xs → get_or xs i x ≡ x → (x == k) ≡ b → count_of (take (i + 1) xs) k ≡ count_of (take i xs) k + (if b then 1 else 0)
counted_by xs i x k true less is e = count_by_more_yes (λ y. y == k) xs i x less (ap (λ (y : ℕ). y == k) is ∙ e)
counted_by xs i x k false less is e = count_by_more_no (λ y. y == k) xs i x less (ap (λ (y : ℕ). y == k) is ∙ e) ∙ omega arith

-- one more number is counted
pub counted_more : (xs : List ℕ) (i x k : ℕ) → i < length xs → get_or xs i x ≡ x → count_of (take (i + 1) xs) k ≡ count_of (take i xs) k + (if x == k then 1 else 0)
counted_more xs i x k less is = counted_by xs i x k (x == k) less is refl

-- the lines of two counts that are the same below a number
pub same_cells : (width n : ℕ) (f g : ℕ → ℕ) → ((k : ℕ) → k < n → f k ≡ g k) → cells_below width f n ≡ cells_below width g n
same_cells width zero f g same = refl
same_cells width (suc n) f g same = rw (same_cells width n f g (λ k less. same k (omega (arith, less))), same n (omega arith)) refl

pub table_is : (head a b counts stood : List ℕ) (width n : ℕ) → a ≡ head → b ≡ a ++ cells_below width (slice_index counts) (length counts) → length counts ≡ n → ((k : ℕ) → k < n → slice_index counts k ≡ count_of stood k) → b ≡ head ++ cells_below width (count_of stood) n
table_is head a b counts stood width n a-is b-is many each = rw (b-is, a-is, many) (ap (λ (text : List ℕ). head ++ text) (same_cells width n (slice_index counts) (count_of stood) each))

-- ---- times

-- the times of one more client
pub next_times : {V : Type 0} (f : V → List ℕ) (vs more : List V) (v : V) (taken : List Taken) (k : ℕ) → more ≡ vs ++ v ∷ [] → f v ≡ times_of taken k → map f vs ≡ all_times taken k → map f more ≡ all_times taken (k + 1)
next_times f vs more v taken k is one before =
    let mapped : map f more ≡ map f vs ++ f v ∷ [] = ap (map f) is ∙ map-append f vs (v ∷ []) in
    let ended : all_times taken (k + 1) ≡ all_times taken k ++ times_of taken k ∷ [] = map-range_more (times_of taken) k in
    rw (mapped, before, one, ended) refl

-- ---- texts

-- one more part
pub one_more : (old begun part a b : List ℕ) → a ≡ old ++ begun → b ≡ a ++ part → b ≡ old ++ (begun ++ part)
one_more old begun part a b a-is b-is = rw (b-is, a-is) (append_assoc old begun part)

-- the refusals of one more code
pub refusals_more : (style : Style) (kinds : List ℕ) (k : ℕ) → refusals_below style kinds (k + 1) ≡ refusals_below style kinds k ++ refusal_line style kinds (k + 1) (refusal_of (k + 1))
refusals_more style kinds k = ap (refusals_below style kinds) (add-one k)

-- five parts that are written one after the other
pub five_parts : (old p q r s t a b c d e : List ℕ) → a ≡ old ++ p → b ≡ a ++ q → c ≡ b ++ r → d ≡ c ++ s → e ≡ d ++ t → e ≡ old ++ (p ++ (q ++ (r ++ (s ++ t))))
five_parts old p q r s t a b c d e a-is b-is c-is d-is e-is = rw (e-is, d-is, c-is, b-is, a-is) (simp append_assoc)

-- ---- quotients

-- the thousandths beyond a quotient are below 1,000
pub thousandths_below : (n d : ℕ) → 0 < d → n % d < d → n % d * 1000 / d < 1000
thousandths_below n d some rest = (div-lt_iff_lt-mul {k = d} {x = n % d * 1000} {y = 1000} some).1 (omega (arith, rest))
