-- Cells that words name, and lists of them.
use Rattle.std.proofs.Common.{◌≡◌, ◌∙◌, ℕ, ◌+◌, ◌-◌, ◌≤◌, inl, inr, min, Bool, true, false, cond, ltb, List, [], ◌∷◌, ◌++◌, append_assoc, length, length-drop, take, drop, Option, None, Some, Ok, Err, refl, sym, ap, subst, arith}
use Rattle.std.specs.Prelude.{MatchOption, Result, if◌then◌else◌}
use Rattle.std.specs.List.{All, position}
use Rattle.std.specs.Option.{option_map}
use Rattle.std.proofs.Math.Nat.{min-eq_left, min_comm}
use Rattle.std.proofs.Math.Seq.{take-length}
use Rattle.std.proofs.lemmas.Bool.{cases_lt, false_from_ne_true, le-ltb}
use Rattle.std.proofs.lemmas.List.{append-nil}
use Rattle.std.proofs.lemmas.List.Elements.{All-append, All-cons, All-nil}
use Rattle.fleet_map.specs.Text.{number_of, words_of}
use Rattle.fleet_grid.specs.Floor.{Floor, IsFloor, is_floor}
use Rattle.fleet_grid.proofs.Forms.{floor_inside}
use Rattle.fleet_survey.specs.Cells.{and_lines, and_these, cell_at, cell_by, cell_on, cells_from, floor_only, is_comma, named_cell, named_cells}

-- ---- numbers that are too great for a cell

past : (m : Floor) (c : ℕ) → length m.letters ≤ c → is_floor m c ≡ false
past m c great = false_from_ne_true (is_floor m c) (λ is. (let inside = floor_inside m c is in omega (arith, inside, great)))

no_floor : (m : Floor) (c : ℕ) → is_floor m c ≡ false → floor_only m (Some c) ≡ None
no_floor m c e = rw e refl

pub capped : (m : Floor) (most : ℕ) → most ≡ length m.letters → (o : Option ℕ) → floor_only m (option_map (λ n. min n most) o) ≡ floor_only m o
capped m most is None = refl
capped m most is (Some n) = elim (cases_lt n most) [
  | inl less ↦ ap (λ (k : ℕ). floor_only m (Some k)) (min-eq_left (omega (arith, less)))
  | inr great ↦ ap (λ (k : ℕ). floor_only m (Some k)) (min_comm n most ∙ min-eq_left great) ∙ (no_floor m most (past m most (omega (arith, is))) ∙ sym (no_floor m n (past m n (omega (arith, is, great)))))
]

no_column : (m : Floor) (x y : ℕ) → m.width ≤ x → cell_on m x y ≡ None
no_column m x y le = rw (le-ltb x m.width le) refl

abbrev no_cell : Option ℕ
no_cell = None

none_either : (b : Bool) → (if b then no_cell else no_cell) ≡ no_cell
none_either true = refl
none_either false = refl

no_row : (m : Floor) (x y : ℕ) → m.height ≤ y → cell_on m x y ≡ None
no_row m x y le = rw (le-ltb y m.height le) (none_either (ltb x m.width))

pub both_capped : (m : Floor) (w h : ℕ) → w ≡ m.width → h ≡ m.height → (x y : Option ℕ) → cell_by m (option_map (λ n. min n w) x) (option_map (λ n. min n h) y) ≡ cell_by m x y
both_capped m w h wide high None y = refl
both_capped m w h wide high (Some x) None = refl
both_capped m w h wide high (Some x) (Some y) = elim (cases_lt x w) [
  | inl x_less ↦ ap (λ (k : ℕ). cell_on m k (min y h)) (min-eq_left (omega (arith, x_less))) ∙ elim (cases_lt y h) [
    | inl y_less ↦ ap (λ (k : ℕ). cell_on m x k) (min-eq_left (omega (arith, y_less)))
    | inr y_great ↦ ap (λ (k : ℕ). cell_on m x k) (min_comm y h ∙ min-eq_left y_great) ∙ (no_row m x h (omega (arith, high)) ∙ sym (no_row m x y (omega (arith, high, y_great))))
  ]
  | inr x_great ↦ ap (λ (k : ℕ). cell_on m k (min y h)) (min_comm x w ∙ min-eq_left x_great) ∙ (no_column m w (min y h) (omega (arith, wide)) ∙ sym (no_column m x y (omega (arith, wide, x_great))))
]

-- the word's part behind a place
pub behind : (s : List ℕ) (k : ℕ) → take (length s - k) (drop k s) ≡ drop k s
behind s k = rw (← length-drop k s) (take-length (drop k s))

pub by_comma : (m : Floor) (word : List ℕ) (comma : Option ℕ) (k : ℕ) (r : Option ℕ) → comma ≡ position is_comma word → comma ≡ Some k
    → r ≡ cell_by m (number_of (take k word)) (number_of (take (length word - (k + 1)) (drop (k + 1) word))) → floor_only m r ≡ named_cell m word
by_comma m word comma k r at is e =
    ap (floor_only m) (e ∙ (ap (λ (s : List ℕ). cell_by m (number_of (take k word)) (number_of s)) (behind word (k + 1)) ∙ ap (cell_at m word) (sym is ∙ at)))

pub by_number : (m : Floor) (word : List ℕ) (comma r : Option ℕ) → comma ≡ position is_comma word → comma ≡ None → floor_only m r ≡ floor_only m (number_of word) → floor_only m r ≡ named_cell m word
by_number m word comma r at is e = e ∙ ap (λ (o : Option ℕ). floor_only m (cell_at m word o)) (sym is ∙ at)

-- ---- the words of a line

abbrev pub told : List ℕ → Option (List ℕ) → Option (List ℕ)
told before None = None
told before (Some cells) = Some (before ++ cells)

some_is : (x y : List ℕ) → Some x ≡ Some y → x ≡ y
some_is x y e = cc

told_next : (before : List ℕ) (cell : ℕ) (o : Option (List ℕ)) → told before (and_these (Some cell) o) ≡ told (before ++ cell ∷ []) o
told_next before cell None = refl
told_next before cell (Some cells) = ap (λ (xs : List ℕ). Some xs) (sym (append_assoc before (cell ∷ []) cells))

pub word_more : (m : Floor) (before after word : List ℕ) (cell : ℕ) (words rest : List (List ℕ)) (all : Option (List ℕ)) → words ≡ word ∷ rest → Some cell ≡ named_cell m word → after ≡ before ++ cell ∷ []
    → told before (named_cells m words) ≡ all → told after (named_cells m rest) ≡ all
word_more m before after word cell words rest all cut is more known =
    ap (λ (xs : List ℕ). told xs (named_cells m rest)) more
    ∙ (sym (told_next before cell (named_cells m rest)) ∙ (ap (λ (o : Option ℕ). told before (and_these o (named_cells m rest))) is ∙ (ap (λ (ws : List (List ℕ)). told before (named_cells m ws)) (sym cut) ∙ known)))

pub word_bad : (m : Floor) (old before after word : List ℕ) (words rest : List (List ℕ)) (o : Option (List ℕ)) → words ≡ word ∷ rest → None ≡ named_cell m word → told before (named_cells m words) ≡ told old o
    → MatchOption o (false ≡ false) (λ more. (false ≡ true) × (after ≡ old ++ more))
word_bad m old before after word words rest None cut is known = refl
word_bad m old before after word words rest (Some more) cut is known = absurd (
    let none : told before (named_cells m words) ≡ None = ap (λ (ws : List (List ℕ)). told before (named_cells m ws)) cut ∙ ap (λ (c : Option ℕ). told before (and_these c (named_cells m rest))) (sym is) in
    let bad : None ≡ Some (old ++ more) = sym none ∙ known in
    cc bad)

pub words_end : (m : Floor) (old before : List ℕ) (words : List (List ℕ)) (o : Option (List ℕ)) → words ≡ [] → told before (named_cells m words) ≡ told old o
    → MatchOption o (true ≡ false) (λ more. (true ≡ true) × (before ≡ old ++ more))
words_end m old before words None none known = absurd (
    let some : Some (before ++ []) ≡ None = ap (λ (ws : List (List ℕ)). told before (named_cells m ws)) (sym none) ∙ known in
    cc some)
words_end m old before words (Some more) none known = (
  refl,
  sym (append-nil before) ∙ some_is (before ++ []) (old ++ more) (ap (λ (ws : List (List ℕ)). told before (named_cells m ws)) (sym none) ∙ known),
)

-- ---- the lines of a text

abbrev pub told_lines : List ℕ → Result (List ℕ) ℕ → Result (List ℕ) ℕ
told_lines before (Ok cells) = Ok (before ++ cells)
told_lines before (Err bad) = Err bad

line_next : (before after : List ℕ) (number : ℕ) (o : Option (List ℕ)) (rest : Result (List ℕ) ℕ) → MatchOption o (true ≡ false) (λ more. (true ≡ true) × (after ≡ before ++ more)) → told_lines before (and_lines number o rest) ≡ told_lines after rest
line_next before after number None rest says = absurd cc
line_next before after number (Some more) (Err bad) says = refl
line_next before after number (Some more) (Ok cells) says = ap (λ (xs : List ℕ). Ok xs) (sym (append_assoc before more cells) ∙ ap (λ (xs : List ℕ). xs ++ cells) (sym says.1))

pub line_more : (m : Floor) (before after line : List ℕ) (number next : ℕ) (lines rest : List (List ℕ)) (good : Bool) (all : Result (List ℕ) ℕ) → lines ≡ line ∷ rest → good ≡ true → next ≡ number + 1
    → MatchOption (named_cells m (words_of line)) (good ≡ false) (λ more. (good ≡ true) × (after ≡ before ++ more)) → told_lines before (cells_from m number lines) ≡ all → told_lines after (cells_from m next rest) ≡ all
line_more m before after line number next lines rest good all cut is on says known =
    ap (λ (k : ℕ). told_lines after (cells_from m k rest)) on
    ∙ (sym (line_next before after number (named_cells m (words_of line)) (cells_from m (number + 1) rest) (subst (λ (b : Bool). MatchOption (named_cells m (words_of line)) (b ≡ false) (λ more. (b ≡ true) × (after ≡ before ++ more))) is says))
    ∙ (ap (λ (ls : List (List ℕ)). told_lines before (cells_from m number ls)) (sym cut) ∙ known))

line_stops : (before after : List ℕ) (number : ℕ) (o : Option (List ℕ)) (rest : Result (List ℕ) ℕ) → MatchOption o (false ≡ false) (λ more. (false ≡ true) × (after ≡ before ++ more)) → told_lines before (and_lines number o rest) ≡ Err number
line_stops before after number None rest says = refl
line_stops before after number (Some more) rest says = absurd (let bad : false ≡ true = says.0 in cc bad)

pub line_bad : (m : Floor) (before after line : List ℕ) (number : ℕ) (lines rest : List (List ℕ)) (good : Bool) (all : Result (List ℕ) ℕ) → lines ≡ line ∷ rest → good ≡ false
    → MatchOption (named_cells m (words_of line)) (good ≡ false) (λ more. (good ≡ true) × (after ≡ before ++ more)) → told_lines before (cells_from m number lines) ≡ all → all ≡ Err number
line_bad m before after line number lines rest good all cut is says known =
    sym known
    ∙ (ap (λ (ls : List (List ℕ)). told_lines before (cells_from m number ls)) cut
    ∙ line_stops before after number (named_cells m (words_of line)) (cells_from m (number + 1) rest) (subst (λ (b : Bool). MatchOption (named_cells m (words_of line)) (b ≡ false) (λ more. (b ≡ true) × (after ≡ before ++ more))) is says))

pub lines_end : (m : Floor) (before : List ℕ) (number : ℕ) (lines : List (List ℕ)) (all : Result (List ℕ) ℕ) → lines ≡ [] → told_lines before (cells_from m number lines) ≡ all → all ≡ Ok before
lines_end m before number lines all none known = sym known ∙ (ap (λ (ls : List (List ℕ)). told_lines before (cells_from m number ls)) none ∙ ap (λ (xs : List ℕ). Ok xs) (append-nil before))

-- ---- all of them are floor

floor_if : (m : Floor) (cell c : ℕ) (b : Bool) → is_floor m cell ≡ b → cond b (Some cell) None ≡ Some c → IsFloor m c
floor_if m cell c true is e = (let same : cell ≡ c = cc e in subst (IsFloor m) same is)
floor_if m cell c false is e = absurd cc

floor_named : (m : Floor) (o : Option ℕ) (c : ℕ) → floor_only m o ≡ Some c → IsFloor m c
floor_named m None c e = absurd cc
floor_named m (Some cell) c e = floor_if m cell c (is_floor m cell) refl e

both_are : (m : Floor) (o : Option ℕ) (rest : Option (List ℕ)) (cells : List ℕ) → ((c : ℕ) → o ≡ Some c → IsFloor m c) → ((cs : List ℕ) → rest ≡ Some cs → All (IsFloor m) cs) → and_these o rest ≡ Some cells → All (IsFloor m) cells
both_are m None rest cells one more e = absurd cc
both_are m (Some c) None cells one more e = absurd cc
both_are m (Some c) (Some cs) cells one more e = subst (All (IsFloor m)) (some_is (c ∷ cs) cells e) (All-cons (IsFloor m) c cs (one c refl) (more cs refl))

line_floor : (m : Floor) (words : List (List ℕ)) (cells : List ℕ) → named_cells m words ≡ Some cells → All (IsFloor m) cells
line_floor m [] cells e = subst (All (IsFloor m)) (some_is [] cells e) (All-nil (IsFloor m))
line_floor m (word ∷ words) cells e = both_are m (named_cell m word) (named_cells m words) cells (λ c is. floor_named m (cell_at m word (position is_comma word)) c is) (λ cs is. line_floor m words cs is) e

abbrev result_list : Result (List ℕ) ℕ → List ℕ
result_list (Ok xs) = xs
result_list (Err bad) = []

ok_is : (x y : List ℕ) (r : Result (List ℕ) ℕ) → r ≡ Ok x → r ≡ Ok y → x ≡ y
ok_is x y r e f = sym (ap result_list e) ∙ ap result_list f

lines_are : (m : Floor) (number : ℕ) (o : Option (List ℕ)) (rest : Result (List ℕ) ℕ) (cells : List ℕ) → ((cs : List ℕ) → o ≡ Some cs → All (IsFloor m) cs) → ((cs : List ℕ) → rest ≡ Ok cs → All (IsFloor m) cs)
    → and_lines number o rest ≡ Ok cells → All (IsFloor m) cells
lines_are m number None rest cells one more e = absurd cc
lines_are m number (Some cs) (Err bad) cells one more e = absurd cc
lines_are m number (Some cs) (Ok xs) cells one more e = subst (All (IsFloor m)) (ok_is (cs ++ xs) cells (Ok (cs ++ xs)) refl e) (All-append (IsFloor m) cs xs (one cs refl) (more xs refl))

pub cells_floor : (m : Floor) (number : ℕ) (lines : List (List ℕ)) (cells : List ℕ) → cells_from m number lines ≡ Ok cells → All (IsFloor m) cells
cells_floor m number [] cells e = subst (All (IsFloor m)) (ok_is [] cells (Ok []) refl e) (All-nil (IsFloor m))
cells_floor m number (line ∷ lines) cells e = lines_are m number (named_cells m (words_of line)) (cells_from m (number + 1) lines) cells (λ cs is. line_floor m (words_of line) cs is) (λ cs is. cells_floor m (number + 1) lines cs is) e
