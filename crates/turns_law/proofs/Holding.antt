-- A room holds no more robots than it has cells.
use Rattle.std.proofs.Common.{◌≡◌, ◌≢◌, ℕ, zero, suc, ◌+◌, ◌<◌, ◌≤◌, ◌⊎◌, inl, inr, Bool, true, false, List, [], ◌∷◌, length, get_or, map, cond, slice_index, sym, subst, refl, ap, ◌∙◌, arith}
use Rattle.std.specs.Prelude.{count_by}
use Rattle.std.specs.List.{range_with_len}
use Rattle.std.proofs.lemmas.List.{get_or-map, length-map}
use Rattle.fleet_grid.specs.Floor.{Floor, IsFloor, IsNeighbour}
use Rattle.fleet_grid.specs.Step.{IsPlacement}
use Rattle.fleet_grid.specs.Walk.{IsOnSide, HasSide}
use Rattle.turns_law.specs.Turns.{Turns, AreTurns}
use Rattle.fleet_planner.specs.Lending.{IsInside}
use Rattle.turns_law.specs.ToGo.{HasRoom, is_inside, inmates}
use Rattle.fleet_bound.proofs.WaitCounts.{count_by-cons}
use Rattle.turns_law.proofs.RoomFacts.{told}
use Rattle.turns_law.proofs.Inmates.{inside_true, fewer_than_all}

-- numbers in rising order, from a least one on
abbrev Rises : ℕ → List ℕ → Type 0
Rises low [] = Unit {0}
Rises low (x ∷ xs) = (low ≤ x) × Rises (suc x) xs

rises_from : (a b : ℕ) (xs : List ℕ) → a ≤ b → Rises b xs → Rises a xs
rises_from a b [] l r = tt
rises_from a b (x ∷ xs) l r = ((let k = r.0 in omega (arith, l, k)), r.1)

rises_at : (low : ℕ) (xs : List ℕ) (i : ℕ) → Rises low xs → i < length xs → low ≤ get_or xs i 0
rises_at low [] i r l = absurd (omega (arith, l))
rises_at low (x ∷ xs) zero r l = r.0
rises_at low (x ∷ xs) (suc i) r l = (let k = rises_at (suc x) xs i r.1 (omega (arith, l)) in let h = r.0 in omega (arith, k, h))

rises_less : (low : ℕ) (xs : List ℕ) (i j : ℕ) → Rises low xs → i < j → j < length xs → get_or xs i 0 < get_or xs j 0
rises_less low [] i j r less l = absurd (omega (arith, l))
rises_less low (x ∷ xs) i zero r less l = absurd (omega (arith, less))
rises_less low (x ∷ xs) zero (suc j) r less l = (let k = rises_at (suc x) xs j r.1 (omega (arith, l)) in omega (arith, k))
rises_less low (x ∷ xs) (suc i) (suc j) r less l = rises_less (suc x) xs i j r.1 (omega (arith, less)) (omega (arith, l))

abbrev Each : (ℕ → Type 0) → List ℕ → Type 0
Each P [] = Unit {0}
Each P (x ∷ xs) = P x × Each P xs

each_at : (P : ℕ → Type 0) (xs : List ℕ) (i : ℕ) → Each P xs → i < length xs → P (get_or xs i 0)
each_at P [] i e l = absurd (omega (arith, l))
each_at P (x ∷ xs) zero e l = e.0
each_at P (x ∷ xs) (suc i) e l = each_at P xs i e.1 (omega (arith, l))

-- the numbers of a list that pass a test
module _ (p : ℕ → Bool) where
  abbrev keep : ℕ → Bool → List ℕ → List ℕ
  keep x true rest = x ∷ rest
  keep x false rest = rest

  abbrev passing : List ℕ → List ℕ
  passing [] = []
  passing (x ∷ xs) = keep x (p x) (passing xs)

  keep_length : (x : ℕ) (b : Bool) (rest : List ℕ) → length (keep x b rest) ≡ cond b 1 0 + length rest
  keep_length x true rest = grind arith
  keep_length x false rest = omega arith

  passing_length : (xs : List ℕ) → length (passing xs) ≡ count_by p xs
  passing_length [] = refl
  passing_length (x ∷ xs) = keep_length x (p x) (passing xs) ∙ (ap (λ (k : ℕ). cond (p x) 1 0 + k) (passing_length xs) ∙ sym (count_by-cons p x xs))

  keep_rises : (low x : ℕ) (b : Bool) (rest : List ℕ) → low ≤ x → Rises (suc x) rest → Rises low (keep x b rest)
  keep_rises low x true rest l r = (l, r)
  keep_rises low x false rest l r = rises_from low (suc x) rest (omega (arith, l)) r

  passing_rises : (low : ℕ) (xs : List ℕ) → Rises low xs → Rises low (passing xs)
  passing_rises low [] r = tt
  passing_rises low (x ∷ xs) r = keep_rises low x (p x) (passing xs) r.0 (passing_rises (suc x) xs r.1)

  module _ (P : ℕ → Type 0) where
    abbrev Both : ℕ → Type 0
    Both x = P x × (p x ≡ true)

    keep_each : (x : ℕ) (b : Bool) (rest : List ℕ) → (b ≡ true → Both x) → Each Both rest → Each Both (keep x b rest)
    keep_each x true rest h e = (h refl, e)
    keep_each x false rest h e = e

    passing_each : (xs : List ℕ) → Each P xs → Each Both (passing xs)
    passing_each [] e = tt
    passing_each (x ∷ xs) e = keep_each x (p x) (passing xs) (λ h. (e.0, h)) (passing_each xs e.1)

range_rises : (s n : ℕ) → Rises s (range_with_len s n)
range_rises s zero = tt
range_rises s (suc n) = (omega arith, rises_from (suc s) (s + 1) (range_with_len (s + 1) n) (omega arith) (range_rises (s + 1) n))

each_more : (P Q : ℕ → Type 0) → ((x : ℕ) → P x → Q x) → (xs : List ℕ) → Each P xs → Each Q xs
each_more P Q f [] e = tt
each_more P Q f (x ∷ xs) e = (f x e.0, each_more P Q f xs e.1)

range_below : (s n : ℕ) → Each (λ x. x < s + n) (range_with_len s n)
range_below s zero = tt
range_below s (suc n) = (omega arith, each_more (λ x. x < s + 1 + n) (λ x. x < s + suc n) (λ x l. omega (arith, l)) (range_with_len (s + 1) n) (range_below (s + 1) n))

module _ (m : Floor) (t : Turns) (are : AreTurns m t) (cells : List ℕ) (placed : IsPlacement m cells) (e g : ℕ) (known : e < length cells) (floor : IsFloor m g) (has : HasRoom t g) where
  abbrev d : ℕ
  d = slice_index t.door g

  abbrev test : ℕ → Bool
  test = is_inside t.door cells d e

  -- the robots in the room
  abbrev those : List ℕ
  those = passing test (range_with_len 0 (length cells))

  many : length those ≡ inmates t.door cells d e
  many = passing_length test (range_with_len 0 (length cells))

  each : (i : ℕ) → i < length those → IsInside t.door cells d e (get_or those i 0)
  each i l =
      let both = each_at (λ x. (x < 0 + length cells) × (test x ≡ true)) those i (passing_each test (λ x. x < 0 + length cells) (range_with_len 0 (length cells)) (range_below 0 (length cells))) l in
      inside_true t.door cells d e (get_or those i 0) (let k = both.0 in omega (arith, k)) both.1

  rising : (i j : ℕ) → i < j → j < length those → get_or those i 0 < get_or those j 0
  rising i j less l = rises_less 0 those i j (passing_rises test 0 (range_with_len 0 (length cells)) (range_rises 0 (length cells))) less l

  cell_at : (i : ℕ) → i < length those → get_or (map (slice_index cells) those) i 0 ≡ slice_index cells (get_or those i 0)
  cell_at i l = get_or-map (slice_index cells) those i 0 0 l

  side : HasSide (IsNeighbour m) (slice_index t.mouth d) d (inmates t.door cells d e)
  side = record {
    cells = map (slice_index cells) those;
    many = omega (arith, many, length-map those (slice_index cells));
    apart = λ i j less l same. (
        let lj : j < length those = omega (arith, l, length-map those (slice_index cells)) in
        let li : i < length those = omega (arith, less, lj) in
        placed.distinct (get_or those i 0) (get_or those j 0) (rising i j less lj) (each j lj).known (sym (cell_at i li) ∙ (same ∙ cell_at j lj)));
    inside = λ i l. (
        let li : i < length those = omega (arith, l, length-map those (slice_index cells)) in
        let it = each i li in
        subst (λ (x : ℕ). IsOnSide (IsNeighbour m) (slice_index t.mouth d) d x) (sym (cell_at i li))
        ((told m t are g floor has (slice_index cells (get_or those i 0)) (placed.on_floor (get_or those i 0) it.known)).0 it.inside));
  }

  pub room_holds : (inmates t.door cells (slice_index t.door g) e < length cells) × (inmates t.door cells (slice_index t.door g) e ≤ slice_index t.size (slice_index t.door g))
  room_holds = (fewer_than_all t.door cells d e known, (are.rooms.sized g (inmates t.door cells d e) floor has).1 side)
