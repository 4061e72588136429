-- The floor cells of a map, written one after another.
use Rattle.std.proofs.Common.{◌≡◌, ℕ, suc, ◌+◌, ◌<◌, ◌≤◌, List, [], ◌∷◌, ◌++◌, length, take, drop, get_or, set, cond, filter, Bool, true, false, refl, sym, ap, ◌∙◌, subst, arith, length-append}
use Rattle.std.specs.List.{count_by, range_with_len}
use Rattle.std.proofs.lemmas.List.{append-nil, length-drop, take_all}
use Rattle.std.proofs.lemmas.List.Elements.{filter_more}
use Rattle.std.proofs.lemmas.List.FromFn.{length-range_with_len, get_or-range_with_len}
use Rattle.std.proofs.lemmas.List.Sums.{length-filter, sum_by-cons, sum_by-take-le}
use Rattle.fleet_grid.specs.Counts.{floor_count}
use Rattle.fleet_grid.specs.Floor.{Floor, is_floor, is_floor_letter, IsFloor}
use Rattle.fleet_c.specs.Floors.{ListsFloor, floor_cells}
use Rattle.fleet_c.specs.declared.codes.TheConstants.{DONE, WRONG_LENGTH}

-- ---- how many they are

-- the letters that pass, counted by their places
counted-at : (p : ℕ → Bool) (f : ℕ → ℕ) (xs : List ℕ) (a : ℕ) → ((k : ℕ) → k < length xs → f (a + k) ≡ get_or xs k 0) → count_by (λ c. p (f c)) (range_with_len a (length xs)) ≡ count_by p xs
counted-at p f [] a each = refl
counted-at p f (x ∷ xs) a each =
    let here : f a ≡ x = ap f (let e : a ≡ a + 0 = omega arith in e) ∙ each 0 (omega arith) in
    let rest = counted-at p f xs (a + 1) (λ k l. ap f (let e : a + 1 + k ≡ a + suc k = omega arith in e) ∙ each (suc k) (omega arith)) in
    let one : cond {A = ℕ} (p (f a)) 1 0 ≡ cond (p x) 1 0 = ap (λ (y : ℕ). cond {A = ℕ} (p y) 1 0) here in
    omega (arith, sum_by-cons (λ c. cond {A = ℕ} (p (f c)) 1 0) a (range_with_len (a + 1) (length xs)), sum_by-cons (λ c. cond {A = ℕ} (p c) 1 0) x xs, rest, one)

pub floor-counted : (m : Floor) → length (floor_cells m) ≡ floor_count m
floor-counted m =
    length-filter (is_floor m) (range_with_len 0 (length m.letters))
    ∙ counted-at is_floor_letter (λ c. get_or m.letters c 0) m.letters 0 (λ k l. ap (λ (i : ℕ). get_or m.letters i 0) (let e : 0 + k ≡ k = omega arith in e))

-- the two answers
pub is-short : (m : Floor) (before : List ℕ) (count : ℕ) → count ≡ floor_count m → length before < count → ListsFloor m WRONG_LENGTH before before count
is-short m before count is few =
    let many : count ≡ length (floor_cells m) = is ∙ sym (floor-counted m) in
    record { counted = many; short = (λ _. omega (arith, many, few), λ _. refl); listed = λ e. absurd (omega (arith, e)); stays = λ _. refl; codes = λ _. refl }

pub is-listed : (m : Floor) (before after : List ℕ) (count : ℕ) → count ≡ floor_count m → count ≤ length before → after ≡ floor_cells m ++ drop (length (floor_cells m)) before → ListsFloor m DONE before after count
is-listed m before after count is room written =
    let many : count ≡ length (floor_cells m) = is ∙ sym (floor-counted m) in
    record { counted = many; short = (λ e. absurd (omega (arith, e)), λ l. absurd (omega (arith, many, room, l))); listed = λ _. written; stays = λ ne. absurd (ne refl); codes = λ ne. absurd (ne refl) }

-- ---- those below a cell

module _ (m : Floor) where
  abbrev pub below : ℕ → List ℕ
  below k = filter (is_floor m) (take k (range_with_len 0 (length m.letters)))

  pub below-more : (k : ℕ) → k < length m.letters → below (k + 1) ≡ below k ++ cond (is_floor m k) (k ∷ []) []
  below-more k l =
      let many = length-range_with_len 0 (length m.letters) in
      let here : get_or (range_with_len 0 (length m.letters)) k 0 ≡ k = get_or-range_with_len 0 (length m.letters) k 0 l ∙ (let e : 0 + k ≡ k = omega arith in e) in
      subst (λ (c : ℕ). below (k + 1) ≡ below k ++ cond (is_floor m c) (c ∷ []) []) here (filter_more (is_floor m) (range_with_len 0 (length m.letters)) k 0 (omega (arith, many, l)))

  pub below-few : (k : ℕ) → length (below k) ≤ length (floor_cells m)
  below-few k =
      let xs = range_with_len 0 (length m.letters) in
      omega (arith, length-filter (is_floor m) (take k xs), length-filter (is_floor m) xs, sum_by-take-le (λ c. cond {A = ℕ} (is_floor m c) 1 0) xs k)

  pub below-all : (k : ℕ) → length m.letters ≤ k → below k ≡ floor_cells m
  below-all k l = ap (filter (is_floor m)) (take_all k (range_with_len 0 (length m.letters)) (omega (arith, length-range_with_len 0 (length m.letters), l)))

-- ---- a list of which the first places are written

pub write-more : (written before : List ℕ) (c : ℕ) → length written < length before
    → set (written ++ drop (length written) before) (length written) c ≡ (written ++ c ∷ []) ++ drop (suc (length written)) before
write-more [] [] c l = absurd (omega arith)
write-more [] (b ∷ bs) c l = refl
write-more (w ∷ ws) [] c l = absurd (omega arith)
write-more (w ∷ ws) (b ∷ bs) c l = ap (λ t. w ∷ t) (write-more ws bs c (omega arith))

-- there is a place for one more
pub has-place : (m : Floor) (k : ℕ) → k < length m.letters → IsFloor m k → length (below m k) + 1 ≤ length (floor_cells m)
has-place m k l is =
    let more : below m (k + 1) ≡ below m k ++ k ∷ [] = rw is at (below-more m k l) in
    omega (arith, ap length more, length-append (below m k) (k ∷ []), below-few m (k + 1))

wall-is : (told is : Bool) → (is ≡ true → told ≡ true) → told ≡ false → is ≡ false
wall-is told true f e = sym (f refl) ∙ e
wall-is told false f e = refl

-- ---- the loop that writes them: the next place, and the list, before and after the cell k

module _ (m : Floor) (before : List ℕ) (k at : ℕ) (now : List ℕ) where
  abbrev Written : Type 0
  Written = (at ≡ length (below m k)) × (now ≡ below m k ++ drop at before)

  pub next-place : k < length m.letters → IsFloor m k → length (floor_cells m) ≤ length before → Written → at < length now
  next-place l is room w =
      let many : length now ≡ length (below m k) + length (drop at before) = ap length w.1 ∙ length-append (below m k) (drop at before) in
      omega (arith, many, length-drop at before, w.0, has-place m k l is, room)

  pub next-floor : (at2 : ℕ) (now2 : List ℕ) → k < length m.letters → IsFloor m k → length (floor_cells m) ≤ length before → Written → at2 ≡ at + 1 → now2 ≡ set now at k
      → (at2 ≡ length (below m (k + 1))) × (now2 ≡ below m (k + 1) ++ drop at2 before)
  next-floor at2 now2 l is room w a n =
      let more : below m (k + 1) ≡ below m k ++ k ∷ [] = rw is at (below-more m k l) in
      let place = has-place m k l is in
      let one : at2 ≡ length (below m (k + 1)) = omega (arith, a, w.0, ap length more, length-append (below m k) (k ∷ [])) in
      let from : now ≡ below m k ++ drop (length (below m k)) before = w.1 ∙ ap (λ (i : ℕ). below m k ++ drop i before) w.0 in
      let to : set now at k ≡ (below m k ++ k ∷ []) ++ drop (suc (length (below m k))) before =
      ap (λ xs. set xs at k) from ∙ ap (λ (i : ℕ). set (below m k ++ drop (length (below m k)) before) i k) w.0 ∙ write-more (below m k) before k (omega (arith, place, room)) in
      let next : suc (length (below m k)) ≡ at2 = omega (arith, a, w.0) in
      (one, n ∙ to ∙ ap (λ t. t ++ drop (suc (length (below m k))) before) (sym more) ∙ ap (λ (i : ℕ). below m (k + 1) ++ drop i before) next)

  pub next-wall : (at2 : ℕ) (now2 : List ℕ) → (told : Bool) → k < length m.letters → (IsFloor m k → told ≡ true) → told ≡ false → Written → at2 ≡ at → now2 ≡ now
      → (at2 ≡ length (below m (k + 1))) × (now2 ≡ below m (k + 1) ++ drop at2 before)
  next-wall at2 now2 told l so wall w a n =
      let off : is_floor m k ≡ false = wall-is told (is_floor m k) so wall in
      let more : below m (k + 1) ≡ below m k = rw off at (below-more m k l) ∙ append-nil (below m k) in
      (a ∙ w.0 ∙ ap length (sym more), n ∙ w.1 ∙ ap (λ t. t ++ drop at before) (sym more) ∙ ap (λ (i : ℕ). below m (k + 1) ++ drop i before) (sym a))
