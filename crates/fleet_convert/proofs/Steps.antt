-- Where the letters of steps lead, and what they are read as.
use Rattle.std.proofs.Common.{◌≡◌, ◌≢◌, ℕ, zero, suc, ◌+◌, ◌-◌, ◌*◌, ◌%◌, ◌<◌, ◌≤◌, ◌⊎◌, inl, inr, true, false, List, [], ◌∷◌, ◌++◌, length, drop, map, slice_index, slice_index_or, All, refl, sym, ap, ◌∙◌, subst, arith}
use Rattle.std.specs.List.{list_all}
use Rattle.std.proofs.lemmas.Bool.{cases_eq, eq-eqb, ne_eqb, lt-ltb, le-ltb, lt-leb}
use Rattle.std.proofs.lemmas.Nat.{mod_below}
use Rattle.std.proofs.lemmas.List.{length-map}
use Rattle.std.proofs.lemmas.List.Elements.{All-nil, All-cons}
use Rattle.fleet_grid.specs.Floor.{IsBeside}
use Rattle.fleet_grid.specs.declared.dir.Dir.{Dir}
use Rattle.fleet_grid.specs.declared.dir.Dir.TheVariants.{North, East, South, West}
use Rattle.fleet_plans.specs.Valid.{place_at}
use Rattle.fleet_plans.specs.Tracks.{is_move, moved}
use Rattle.fleet_convert.specs.declared.step.Step.{Step}
use Rattle.fleet_convert.specs.declared.step.Step.TheVariants.{Up, Down, Left, Right, Wait}
use Rattle.fleet_convert.specs.Moves.{step_between, letter, steps_of, track_of}

-- ---- where a letter leads

module _ (w h from to : ℕ) (some : 0 < w) (inside : from < w * h) where
  wait_leads : to ≡ from → moved w h from (letter (step_between w from to)) ≡ to
  wait_leads same = rw (eq-eqb to from same, lt-leb (w * h) from inside) (sym same)

  up_leads : to + w ≡ from → moved w h from (letter (step_between w from to)) ≡ to
  up_leads next =
      let other : to ≢ from = λ e. omega (arith, e, next, some) in
      let back : from - w ≡ to = omega (arith, next) in
      rw (ne_eqb to from other, eq-eqb (to + w) from next, lt-leb (w * h) from inside, le-ltb from w (omega (arith, next))) back

  down_leads : from + w ≡ to → to < w * h → moved w h from (letter (step_between w from to)) ≡ to
  down_leads next there =
      let other : to ≢ from = λ e. omega (arith, e, next, some) in
      let not-up : to + w ≢ from = λ e. omega (arith, e, next, some) in
      rw (ne_eqb to from other, ne_eqb (to + w) from not-up, eq-eqb (from + w) to next, lt-leb (w * h) from inside, lt-ltb (from + w) (w * h) (omega (arith, next, there))) next

  -- a column that is not the first: the map is wider than one column
  wide : (c : ℕ) → c % w ≢ 0 → w ≢ 1
  wide c inner e = let zero-column : c % 1 < 1 = mod_below c 1 (omega arith) in let small : c % w < 1 = subst (λ (k : ℕ). c % k < 1) (sym e) zero-column in inner (omega (arith, small))

  left_leads : to + 1 ≡ from → from % w ≢ 0 → moved w h from (letter (step_between w from to)) ≡ to
  left_leads next inner =
      let one = wide from inner in
      let other : to ≢ from = λ e. omega (arith, e, next) in
      let not-up : to + w ≢ from = λ e. omega (arith, e, next, one) in
      let not-down : from + w ≢ to = λ e. omega (arith, e, next) in
      let back : from - 1 ≡ to = omega (arith, next) in
      rw (ne_eqb to from other, ne_eqb (to + w) from not-up, ne_eqb (from + w) to not-down, eq-eqb (to + 1) from next, lt-leb (w * h) from inside, ne_eqb (from % w) 0 inner) back

  right_leads : from + 1 ≡ to → to % w ≢ 0 → moved w h from (letter (step_between w from to)) ≡ to
  right_leads next inner =
      let one = wide to inner in
      let other : to ≢ from = λ e. omega (arith, e, next) in
      let not-up : to + w ≢ from = λ e. omega (arith, e, next) in
      let not-down : from + w ≢ to = λ e. omega (arith, e, next, one) in
      let not-left : to + 1 ≢ from = λ e. omega (arith, e, next) in
      let inner-next : (from + 1) % w ≢ 0 = subst (λ (k : ℕ). k % w ≢ 0) (sym next) inner in
      rw (ne_eqb to from other, ne_eqb (to + w) from not-up, ne_eqb (from + w) to not-down, ne_eqb (to + 1) from not-left, lt-leb (w * h) from inside, ne_eqb ((from + 1) % w) 0 inner-next) next

  beside_leads : (dir : Dir) → IsBeside w dir from to → to < w * h → moved w h from (letter (step_between w from to)) ≡ to
  beside_leads North next there = up_leads next
  beside_leads South next there = down_leads next there
  beside_leads West next there = left_leads next.0 next.1
  beside_leads East next there = right_leads next.0 next.1

  pub leads : (to ≡ from) ⊎ ((dir : Dir) × IsBeside w dir from to) → to < w * h → moved w h from (letter (step_between w from to)) ≡ to
  leads (inl same) there = wait_leads same
  leads (inr next) there = beside_leads next.0 next.1 there

-- ---- the letters of a robot

letter_is_move : (s : Step) → is_move (letter s) ≡ true
letter_is_move Up = refl
letter_is_move Down = refl
letter_is_move Left = refl
letter_is_move Right = refl
letter_is_move Wait = refl

letter_plain : (s : Step) → 14 ≤ letter s
letter_plain Up = omega arith
letter_plain Down = omega arith
letter_plain Left = omega arith
letter_plain Right = omega arith
letter_plain Wait = omega arith

pub letters_are_moves : (steps : List Step) → list_all is_move (map letter steps) ≡ true
letters_are_moves [] = refl
letters_are_moves (s ∷ ss) = rw (letter_is_move s) (letters_are_moves ss)

pub letters_plain : (steps : List Step) → All (λ b. 14 ≤ b) (map letter steps)
letters_plain [] = All-nil (λ b. 14 ≤ b)
letters_plain (s ∷ ss) = All-cons (λ b. 14 ≤ b) (letter s) (map letter ss) (letter_plain s) (letters_plain ss)

steps_count : (w r : ℕ) (places : List (List ℕ)) → 1 ≤ length places → length (steps_of w r places) + 1 ≡ length places
steps_count w r [] some = absurd (omega arith)
steps_count w r (p ∷ []) some = refl
steps_count w r (p ∷ q ∷ ps) some = let more = steps_count w r (q ∷ ps) (omega arith) in omega (arith, more)

pub track_count : (w r : ℕ) (places : List (List ℕ)) → 1 ≤ length places → length (track_of w r places) + 1 ≡ length places
track_count w r places some = ap (λ (n : ℕ). n + 1) (length-map (steps_of w r places) letter) ∙ steps_count w r places some

-- the letter of the step from a time on
pub track_at : (w r t : ℕ) (places : List (List ℕ)) → t + 1 < length places
    → slice_index_or (track_of w r places) t 119 ≡ letter (step_between w (slice_index (place_at places t) r) (slice_index (place_at places (t + 1)) r))
track_at w r t [] less = absurd (omega (arith, less))
track_at w r t (p ∷ []) less = absurd (omega (arith, less))
track_at w r zero (p ∷ q ∷ ps) less = refl
track_at w r (suc t) (p ∷ q ∷ ps) less =
    let same : suc (t + 1) ≡ suc t + 1 = omega arith in
    subst (λ (k : ℕ). slice_index_or (track_of w r (q ∷ ps)) t 119 ≡ letter (step_between w (slice_index (place_at (q ∷ ps) t) r) (slice_index (place_at (p ∷ q ∷ ps) k) r))) same
    (track_at w r t (q ∷ ps) (omega (arith, less)))

-- the rest of the steps, one time on
pub steps_more : (w r t : ℕ) (places : List (List ℕ)) → t + 1 < length places
    → steps_of w r (drop t places) ≡ step_between w (slice_index (place_at places t) r) (slice_index (place_at places (t + 1)) r) ∷ steps_of w r (drop (t + 1) places)
steps_more w r t [] less = absurd (omega (arith, less))
steps_more w r t (p ∷ []) less = absurd (omega (arith, less))
steps_more w r zero (p ∷ q ∷ ps) less = refl
steps_more w r (suc t) (p ∷ q ∷ ps) less =
    let same : suc (t + 1) ≡ suc t + 1 = omega arith in
    subst (λ (k : ℕ). steps_of w r (drop t (q ∷ ps)) ≡ step_between w (slice_index (place_at (q ∷ ps) t) r) (slice_index (place_at (p ∷ q ∷ ps) k) r) ∷ steps_of w r (drop k (p ∷ q ∷ ps))) same
    (steps_more w r t (q ∷ ps) (omega (arith, less)))

pub steps_over : (w r t : ℕ) (places : List (List ℕ)) → length places ≤ t + 1 → steps_of w r (drop t places) ≡ []
steps_over w r t [] past = ap (λ (l : List (List ℕ)). steps_of w r l) (drop_nil t)
  where
    drop_nil : (n : ℕ) → drop {A = List ℕ} n [] ≡ []
    drop_nil zero = refl
    drop_nil (suc n) = refl
steps_over w r zero (p ∷ []) past = refl
steps_over w r (suc t) (p ∷ []) past = steps_over w r t [] (omega arith)
steps_over w r zero (p ∷ q ∷ ps) past = absurd (omega (arith, past))
steps_over w r (suc t) (p ∷ q ∷ ps) past = steps_over w r t (q ∷ ps) (omega (arith, past))
