-- Distinct cells that are marked: at most as many as there are marks, and there is a list of that many.
use Rattle.std.proofs.Common.{◌≡◌, ◌≢◌, ℕ, zero, suc, ◌+◌, cond, ◌<◌, ◌≤◌, Bool, true, false, List, [], ◌∷◌, length, map, get_or, set, refl, sym, ap, ◌∙◌, arith}
use Rattle.std.specs.Prelude.{slice_index, count_by}
use Rattle.std.proofs.Math.ListN.{replicate}
use Rattle.std.proofs.lemmas.List.{get_or-set_other, length-replicate, get_or-replicate, length-map, get_or-map}
use Rattle.std.proofs.lemmas.List.Sums.{sum_by-set, sum_by-cons, count_by-le-length}
use Rattle.fleet_bridge.specs.inside.Search.{IsMarked}
use Rattle.fleet_bridge.proofs.Fronts.{marked_inside}

-- no two cells of the list are the same
abbrev pub AreApart : List ℕ → Type 0
AreApart cells = (i j : ℕ) → i < j → j < length cells → slice_index cells i ≢ slice_index cells j

pub marks_many : (seen : List Bool) (cells : List ℕ) → AreApart cells → ((i : ℕ) → i < length cells → IsMarked seen (slice_index cells i)) → length cells ≤ count_by (λ s. s) seen
marks_many seen [] apart each = omega arith
marks_many seen (c ∷ cs) apart each =
    let here : get_or seen c false ≡ true = each 0 (omega arith) in
    let fewer = sum_by-set (λ (s : Bool). cond s 1 0) seen c false false (marked_inside seen c here) in
    let one : cond {A = ℕ} (get_or seen c false) 1 0 ≡ 1 = ap {B = ℕ} (λ (s : Bool). cond s 1 0) here in
    let rest : length cs ≤ count_by (λ s. s) (set seen c false) = marks_many (set seen c false) cs
    (λ i j less inner. apart (suc i) (suc j) (omega (arith, less)) (omega (arith, inner)))
    (λ i inner. (let other : get_or cs i 0 ≢ c = λ e. apart 0 (suc i) (omega arith) (omega (arith, inner)) (sym e) in
    get_or-set_other seen c (get_or cs i 0) false false other ∙ each (suc i) (omega (arith, inner)))) in
    omega (arith, rest, fewer, one)

-- distinct numbers below a limit
pub few_below : (n : ℕ) (cells : List ℕ) → AreApart cells → ((i : ℕ) → i < length cells → slice_index cells i < n) → length cells ≤ n
few_below n cells apart each =
    let many = marks_many (replicate n true) cells apart (λ i inner. get_or-replicate n (slice_index cells i) true false (each i inner)) in
    omega (arith, many, count_by-le-length (λ (s : Bool). s) (replicate n true), length-replicate n true)

-- the marked cells in order, where the list begins at a cell
pub marked_from : List Bool → ℕ → List ℕ
marked_from [] k = []
marked_from (true ∷ xs) k = k ∷ marked_from xs (suc k)
marked_from (false ∷ xs) k = marked_from xs (suc k)

pub length-marked_from : (xs : List Bool) (k : ℕ) → length (marked_from xs k) ≡ count_by (λ s. s) xs
unfolding marked_from
length-marked_from [] k = refl
length-marked_from (true ∷ xs) k = let rest = length-marked_from xs (suc k) in omega (arith, rest, sum_by-cons (λ (s : Bool). cond s 1 0) true xs)
length-marked_from (false ∷ xs) k = let rest = length-marked_from xs (suc k) in omega (arith, rest, sum_by-cons (λ (s : Bool). cond s 1 0) false xs)

-- each of them is marked
pub marked_each : (xs : List Bool) (k i : ℕ) → i < length (marked_from xs k) → (c : ℕ) × (slice_index (marked_from xs k) i ≡ k + c) × IsMarked xs c
unfolding marked_from
marked_each [] k i inner = absurd (omega (arith, inner))
marked_each (true ∷ xs) k zero inner = (zero, omega arith, refl)
marked_each (true ∷ xs) k (suc i) inner = (let rest = marked_each xs (suc k) i (omega (arith, inner)) in (suc rest.0, omega (arith, rest.1), rest.2))
marked_each (false ∷ xs) k i inner = (let rest = marked_each xs (suc k) i inner in (suc rest.0, omega (arith, rest.1), rest.2))

-- and they go up
pub marked_rise : (xs : List Bool) (k i j : ℕ) → i < j → j < length (marked_from xs k) → slice_index (marked_from xs k) i < slice_index (marked_from xs k) j
unfolding marked_from
marked_rise [] k i j less inner = absurd (omega (arith, inner))
marked_rise (true ∷ xs) k i zero less inner = absurd (omega (arith, less))
marked_rise (true ∷ xs) k zero (suc j) less inner = (let at = marked_each xs (suc k) j (omega (arith, inner)) in omega (arith, at.1))
marked_rise (true ∷ xs) k (suc i) (suc j) less inner = marked_rise xs (suc k) i j (omega (arith, less)) (omega (arith, inner))
marked_rise (false ∷ xs) k i j less inner = marked_rise xs (suc k) i j less inner

-- distinct cells of a set that a function numbers from 0 up to a limit
pub few_in : (In : ℕ → Type 0) (f : ℕ → ℕ) (n : ℕ) → ((x : ℕ) → In x → f x < n) → ((x y : ℕ) → In x → In y → f x ≡ f y → x ≡ y)
    → (cells : List ℕ) → AreApart cells → ((i : ℕ) → i < length cells → In (slice_index cells i)) → length cells ≤ n
few_in In f n below one cells apart each =
    let at : (i : ℕ) → i < length cells → slice_index (map f cells) i ≡ f (slice_index cells i) = λ i less. get_or-map f cells i 0 0 less in
    let size = length-map cells f in
    let few : length (map f cells) ≤ n = few_below n (map f cells)
    (λ i j less inner same. (
    let l : j < length cells = omega (arith, inner, size) in
    let k : i < length cells = omega (arith, less, l) in
    apart i j less l (one (slice_index cells i) (slice_index cells j) (each i k) (each j l) (sym (at i k) ∙ (same ∙ at j l)))))
    (λ i inner. (let l : i < length cells = omega (arith, inner, size) in omega (arith, at i l, below (slice_index cells i) (each i l)))) in
    omega (arith, few, size)
