-- The text of cells, read as cells.
use Rattle.std.proofs.Common.{◌≡◌, ◌≢◌, ℕ, ◌+◌, ◌-◌, ◌*◌, ◌/◌, ◌%◌, ◌<◌, ◌≤◌, ◌^◌, inl, inr, false, List, [], ◌∷◌, ◌++◌, length, take, slice_index, min, All, Option, Some, decimal, option_map, option_and_then, refl, sym, ap, ◌∙◌, subst, arith}
use Rattle.std.proofs.lemmas.Bool.{cases_eq, lt-ltb}
use Rattle.std.proofs.lemmas.Nat.{div-add-mod', mod_below, div_below}
use Rattle.std.proofs.lemmas.List.{append_assoc, length_push, get_or_push, take_at}
use Rattle.std.proofs.lemmas.List.Elements.{All-nil, All-cons, All-head, All-tail, All-append, All-weaker}
use Rattle.fleet_plans.specs.Cells.{parts_of, coordinate, column_in, row_in, cell_at, pair_in, cells_in, is_faced, listed_in}
use Rattle.fleet_convert.specs.Cells.{cell_text, cells_text}
use Rattle.fleet_convert.proofs.Bytes.{IsLow, IsDigit, decimal_digits, number_reads, part_more}

low_digits : (n : ℕ) → n < 2 ^ 64 → All IsLow (decimal n)
low_digits n small = All-weaker IsDigit IsLow (λ b d. (omega (arith, d.0), d.1)) (decimal n) (decimal_digits n small)

one : (b : ℕ) → IsLow b → All IsLow (b ∷ [])
one b low = All-cons IsLow b [] low (All-nil IsLow)

two : (a b : ℕ) → IsLow a → IsLow b → All IsLow (a ∷ b ∷ [])
two a b low high = All-cons IsLow a (b ∷ []) low (one b high)

bracket_low : IsLow 40
bracket_low = (omega arith, omega arith)

comma_low : IsLow 44
comma_low = (omega arith, omega arith)

close_low : IsLow 41
close_low = (omega arith, omega arith)

module _ (w h c : ℕ) (slim : w ≤ 1024) (low : h ≤ 1024) (inside : c < h * w) where
  some : 0 < w
  some = elim (cases_eq w 0) [
    | inl none ↦ let empty : c < h * 0 = subst (λ (k : ℕ). c < h * k) none inside in absurd (omega (arith, empty))
    | inr other ↦ omega (arith, other)
  ]

  pub column_small : c % w < w
  column_small = mod_below c w some

  pub row_small : c / w < h
  row_small = div_below c w h some inside

  pub cell_low : All IsLow (cell_text w c)
  cell_low =
      let x = low_digits (c % w) (omega (arith, column_small, slim)) in
      let y = low_digits (c / w) (omega (arith, row_small, low)) in
      let dx = decimal (c % w) in
      let dy = decimal (c / w) in
      let a : All IsLow ((40 ∷ []) ++ dx) = All-append IsLow (40 ∷ []) dx (one 40 bracket_low) x in
      let b : All IsLow ((40 ∷ []) ++ dx ++ (44 ∷ [])) = All-append IsLow ((40 ∷ []) ++ dx) (44 ∷ []) a (one 44 comma_low) in
      let d : All IsLow ((40 ∷ []) ++ dx ++ (44 ∷ []) ++ dy) = All-append IsLow ((40 ∷ []) ++ dx ++ (44 ∷ [])) dy b y in
      All-append IsLow ((40 ∷ []) ++ dx ++ (44 ∷ []) ++ dy) (41 ∷ 44 ∷ []) d (two 41 44 close_low comma_low)

  coordinate_is : (n : ℕ) → n ≤ 1024 → coordinate (decimal n) ≡ Some n
  coordinate_is n small = rw (number_reads n (omega (arith, small))) (ap (λ (m : ℕ). Some m) (capped n small))
    where
      capped : (k : ℕ) → k ≤ 1024 → min k 1024 ≡ k
      capped k less = omega (arith, less)

  column_is : column_in (40 ∷ decimal (c % w)) ≡ Some (c % w)
  column_is = coordinate_is (c % w) (omega (arith, column_small, slim))

  last_is : slice_index (decimal (c / w) ++ 41 ∷ []) (length (decimal (c / w) ++ 41 ∷ []) - 1) ≡ 41
  last_is =
      let ds = decimal (c / w) in
      let long : length (ds ++ 41 ∷ []) - 1 ≡ length ds = omega (arith, length_push ds 41) in
      get_or_push ds 41 0 (length (ds ++ 41 ∷ []) - 1) (sym long)

  row_is : row_in (decimal (c / w) ++ 41 ∷ []) ≡ Some (c / w)
  row_is =
      let ds = decimal (c / w) in
      let long : length (ds ++ 41 ∷ []) - 1 ≡ length ds = omega (arith, length_push ds 41) in
      let last = last_is in
      let front : take (length (ds ++ 41 ∷ []) - 1) (ds ++ 41 ∷ []) ≡ ds = take_at ds (41 ∷ []) (length (ds ++ 41 ∷ []) - 1) (sym long) in
      rw (last, front) (coordinate_is (c / w) (omega (arith, row_small, low)))

  cell_is : cell_at w h (c % w) (c / w) ≡ c
  cell_is = rw (lt-ltb (c % w) w column_small, lt-ltb (c / w) h row_small) (div-add-mod' c w)

  pair_is : pair_in w h (40 ∷ decimal (c % w)) (decimal (c / w) ++ 41 ∷ []) ≡ Some c
  pair_is = rw (column_is, row_is) (ap (λ (n : ℕ). Some n) cell_is)

  shape : (x y rest : List ℕ) → ((((40 ∷ []) ++ x) ++ (44 ∷ [])) ++ y ++ (41 ∷ 44 ∷ [])) ++ rest ≡ (40 ∷ x) ++ 44 ∷ ((y ++ 41 ∷ []) ++ 44 ∷ rest)
  shape x y rest = simp append_assoc

  first_free : All (λ b. b ≢ 44) (40 ∷ decimal (c % w))
  first_free = All-cons (λ b. b ≢ 44) 40 (decimal (c % w)) (λ e. omega (arith, e)) (All-weaker IsDigit (λ b. b ≢ 44) (λ b d e. omega (arith, d.0, e)) (decimal (c % w)) (decimal_digits (c % w) (omega (arith, column_small, slim))))

  second_free : All (λ b. b ≢ 44) (decimal (c / w) ++ 41 ∷ [])
  second_free = All-append (λ b. b ≢ 44) (decimal (c / w)) (41 ∷ [])
      (All-weaker IsDigit (λ b. b ≢ 44) (λ b d e. omega (arith, d.0, e)) (decimal (c / w)) (decimal_digits (c / w) (omega (arith, row_small, low))))
      (All-cons (λ b. b ≢ 44) 41 [] (λ e. omega (arith, e)) (All-nil (λ b. b ≢ 44)))

  parts_are : (rest : List ℕ) → parts_of (cell_text w c ++ rest) ≡ (40 ∷ decimal (c % w)) ∷ (decimal (c / w) ++ 41 ∷ []) ∷ parts_of rest
  parts_are rest =
      ap parts_of (shape (decimal (c % w)) (decimal (c / w)) rest)
      ∙ (part_more (40 ∷ decimal (c % w)) ((decimal (c / w) ++ 41 ∷ []) ++ 44 ∷ rest) first_free
      ∙ ap (λ (ps : List (List ℕ)). (40 ∷ decimal (c % w)) ∷ ps) (part_more (decimal (c / w) ++ 41 ∷ []) rest second_free))

  pub is_plain : (rest : List ℕ) → is_faced (parts_of (cell_text w c ++ rest)) ≡ false
  is_plain rest = rw (parts_are rest, last_is) refl

  pub cell_more : (rest cells : List ℕ) → cells_in w h (parts_of rest) ≡ Some cells → cells_in w h (parts_of (cell_text w c ++ rest)) ≡ Some (c ∷ cells)
  cell_more rest cells read = rw (parts_are rest, pair_is, read) refl

-- cells read as themselves
pub cells_read : (w h : ℕ) (cells : List ℕ) → w ≤ 1024 → h ≤ 1024 → All (λ c. c < h * w) cells → cells_in w h (parts_of (cells_text w cells)) ≡ Some cells
cells_read w h [] slim low inside = refl
cells_read w h (c ∷ cs) slim low inside =
    let here = All-head (λ x. x < h * w) c cs inside in
    cell_more w h c slim low here (cells_text w cs) cs (cells_read w h cs slim low (All-tail (λ x. x < h * w) c cs inside))

-- they have no directions
pub listed_read : (w h : ℕ) (cells : List ℕ) → w ≤ 1024 → h ≤ 1024 → All (λ c. c < h * w) cells → listed_in w h (parts_of (cells_text w cells)) ≡ Some cells
listed_read w h [] slim low inside = refl
listed_read w h (c ∷ cs) slim low inside =
    rw (is_plain w h c slim low (All-head (λ x. x < h * w) c cs inside) (cells_text w cs)) (cells_read w h (c ∷ cs) slim low inside)

pub cells_low : (w h : ℕ) (cells : List ℕ) → w ≤ 1024 → h ≤ 1024 → All (λ c. c < h * w) cells → All IsLow (cells_text w cells)
cells_low w h [] slim low inside = All-nil IsLow
cells_low w h (c ∷ cs) slim low inside =
    All-append IsLow (cell_text w c) (cells_text w cs) (cell_low w h c slim low (All-head (λ x. x < h * w) c cs inside)) (cells_low w h cs slim low (All-tail (λ x. x < h * w) c cs inside))
