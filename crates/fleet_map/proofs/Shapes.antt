-- What is read has the shape of a map, and what has it is read.
use Rattle.std.proofs.Common.{◌≡◌, ℕ, zero, suc, ◌+◌, ◌≤◌, Bool, true, false, cond, ◌&&◌, eqb, not, List, [], ◌∷◌, ◌++◌, length, Option, Some, None, Result, Ok, Err, refl, sym, ap, subst, ◌∙◌, inl, inr, arith, min, codes, eq-eqb}
use Rattle.std.specs.Prelude.{IfOk}
use Rattle.std.specs.List.{flat_map, AllByRecursion, position_or_len}
use Rattle.std.specs.Str.{bytes_eq}
use Rattle.std.specs.Option.{option_map, option_and_then}
use Rattle.std.proofs.lemmas.Bool.{cases_Bool, eqb-true, ltb-false, le-ltb}
use Rattle.std.proofs.lemmas.Slice.Eq.{bytes_eq-Decides}
use Rattle.fleet_map.specs.declared.fault.MapFault.{MapFault}
use Rattle.fleet_map.specs.declared.fault.MapFault.TheVariants.{Header, Size, Row, Trailing}
use Rattle.fleet_map.specs.Text.{lines_of, trimmed, is_empty, number_of}
use Rattle.fleet_map.specs.declared.map_text.MapText.{MapText}
use Rattle.fleet_map.specs.Grammar.{Gives, view, ◌>>=◌, Map, need, only_if, line_at, side_on, side_at, sides_behind, sides_at, head_at, is_type_line, is_map_line, is_side, is_letter, odd_cell, letters_in, row_of, row_at, rows_at, end_at, map_of_lines, map_of, key_and_word}
use Rattle.fleet_map.specs.Shape.{IsRow, AreSides, IsBlankLine, IsMapText}

-- ---- a map's text is read

all_letters : (cells : List ℕ) → AllByRecursion (λ b. is_letter b ≡ true) cells → position_or_len (λ b. not (is_letter b)) cells ≡ length cells
all_letters [] h = refl
all_letters (b ∷ cells) h = rw (h.0, all_letters cells h.1) (omega arith)

no_odd : (cells : List ℕ) → AllByRecursion (λ b. is_letter b ≡ true) cells → odd_cell cells ≡ None
no_odd cells h = rw (all_letters cells h, le-ltb (length cells) (length cells) (omega arith)) refl

letters_of : (cells : List ℕ) → odd_cell cells ≡ None → AllByRecursion (λ b. is_letter b ≡ true) cells
letters_of cells e = go cells (ltb-false _ _ (none_is _ _ e))
  where
    none_is : (b : Bool) (n : ℕ) → cond b (Some n) None ≡ None → b ≡ false
    none_is true n e = absurd cc
    none_is false n e = refl

    go : (cells : List ℕ) → length cells ≤ position_or_len (λ b. not (is_letter b)) cells → AllByRecursion (λ b. is_letter b ≡ true) cells
    go [] le = tt
    go (b ∷ cells) le =
        elim (cases_Bool (is_letter b)) [
          | inl letter ↦ let more : suc (length cells) ≤ 1 + position_or_len (λ b. not (is_letter b)) cells = rw letter at le in (letter, go cells (omega arith))
          | inr other ↦ let bad : suc (length cells) ≤ 0 = rw other at le in absurd (omega arith)
        ]

row_again : (width row : ℕ) (line : List ℕ) → IsRow width line → row_of width row (trimmed line) ≡ Ok (trimmed line)
row_again width row line is = rw (eq-eqb _ _ is.len, no_odd (trimmed line) is.letters) refl

rows_again : (width i : ℕ) (rows behind : List (List ℕ)) → AllByRecursion (IsRow width) rows → rows_at (length rows) width i (rows ++ behind) ≡ Ok (flat_map trimmed rows, behind)
unfolding rows_at
rows_again width i [] behind h = refl
rows_again width i (line ∷ rows) behind h = rw (row_again width i line h.0, rows_again width (i + 1) rows behind h.1) refl

end_again : (number : ℕ) (behind : List (List ℕ)) → AllByRecursion IsBlankLine behind → end_at number behind ≡ Ok tt
unfolding end_at
end_again number [] h = refl
end_again number (line ∷ behind) h = rw h.0 (end_again (number + 1) behind h.1)

-- a line cannot name both sides
only_one : (line : List ℕ) (width : ℕ) → side_on (codes "width") line ≡ Some width → side_on (codes "height") line ≡ None
only_one line width e = go (key_and_word line) e
  where
    go : (o : Option (List ℕ × List ℕ)) → option_and_then (λ p. cond (bytes_eq p.0 (codes "width")) (option_map (λ n. min n 1025) (number_of p.1)) None) o ≡ Some width
        → option_and_then (λ p. cond (bytes_eq p.0 (codes "height")) (option_map (λ n. min n 1025) (number_of p.1)) None) o ≡ None
    go None e = refl
    go (Some p) e =
        elim (cases_Bool (bytes_eq p.0 (codes "height"))) [
          | inl high ↦ let is = (bytes_eq-Decides p.0 (codes "height")).0 high in let bad : None ≡ Some width = rw is at e in absurd cc
          | inr low ↦ rw low refl
        ]

sides_again : (height width : ℕ) (a b : List ℕ) (lines : List (List ℕ)) → AreSides height width a b → sides_at (a ∷ b ∷ lines) ≡ Ok (height, width, lines)
unfolding sides_at side_at
sides_again height width a b lines (inl s) = rw (s.0, s.1) refl
sides_again height width a b lines (inr s) = rw (only_one a width s.0, s.0, s.1) refl

pub is_read : (bytes : List ℕ) (m : Map) → IsMapText bytes m → map_of bytes ≡ Ok m
unfolding map_of_lines head_at
is_read bytes m t =
    let sides = sides_again m.height m.width t.second t.third (t.fourth ∷ (t.rows ++ t.behind)) t.sides in
    let rows : rows_at m.height m.width 0 (t.rows ++ t.behind) ≡ Ok (flat_map trimmed t.rows, t.behind) = rw (← t.row_count) (rows_again m.width 0 t.rows t.behind t.each_row) in
    rw (t.lines, t.typed, sides, t.named, t.height_fits, t.width_fits, rows, end_again (5 + m.height) t.behind t.blank, ← t.cells) refl

-- ---- what is read is a map's text

bind_ok : {A B : Type 0} (r : Result A MapFault) (f : A → Result B MapFault) (y : B) → (r >>= f) ≡ Ok y → (x : A) × (r ≡ Ok x) × (f x ≡ Ok y)
bind_ok (Ok x) f y e = (x, refl, e)
bind_ok (Err d) f y e = absurd cc

need_ok : {A : Type 0} (fault : MapFault) (o : Option A) (x : A) → need fault o ≡ Ok x → o ≡ Some x
need_ok fault None x e = absurd cc
need_ok fault (Some y) x e = cc

pub passed : (b : Bool) (fault : MapFault) (x : Unit {0}) → only_if b fault ≡ Ok x → b ≡ true
passed true fault x e = refl
passed false fault x e = absurd cc

chosen : {A : Type 0} (b : Bool) (x y : Result A MapFault) (fault : MapFault) (z : A) → y ≡ Err fault → cond b x y ≡ Ok z → (b ≡ true) × (x ≡ Ok z)
chosen true x y fault z fails e = (refl, e)
chosen false x y fault z fails e = let bad : Err fault ≡ Ok z = sym fails ∙ e in absurd cc

both : (a b : Bool) → (a && b) ≡ true → (a ≡ true) × (b ≡ true)
both true true e = (refl, refl)
both true false e = absurd cc
both false b e = absurd cc

abbrev done : {A : Type 0} → A → Result A MapFault
done x = Ok x

ok_is : {A : Type 0} (x y : A) → done x ≡ done y → x ≡ y
ok_is x y e = cc

pub line_first : (number : ℕ) (lines : List (List ℕ)) (x : List ℕ × List (List ℕ)) → line_at number lines ≡ Ok x → lines ≡ x.0 ∷ x.1
line_first number [] x e = absurd cc
line_first number (line ∷ lines) x e = ap (λ (p : List ℕ × List (List ℕ)). p.0 ∷ p.1) (ok_is (line, lines) x e)

letters_ok : (row : ℕ) (cells : List ℕ) (o : Option ℕ) (x : List ℕ) → letters_in row cells o ≡ Ok x → (o ≡ None) × (cells ≡ x)
letters_ok row cells None x e = (refl, cc)
letters_ok row cells (Some col) x e = absurd cc

pub row_is : (width row : ℕ) (lines : List (List ℕ)) (x : List ℕ × List (List ℕ)) → row_at width row lines ≡ Ok x → (line : List ℕ) × (lines ≡ line ∷ x.1) × IsRow width line × (x.0 ≡ trimmed line)
row_is width row [] x e = absurd cc
row_is width row (line ∷ lines) x e =
    let a = bind_ok (row_of width row (trimmed line)) (λ cells. Ok (cells, lines)) x e in
    let t = chosen (eqb (length (trimmed line)) width) (letters_in row (trimmed line) (odd_cell (trimmed line))) (Err (Row row)) (Row row) a.0 refl a.1 in
    let l = letters_ok row (trimmed line) (odd_cell (trimmed line)) a.0 t.1 in
    let p = ok_is (a.0, lines) x a.2 in
    (line, ap (λ (q : List ℕ × List (List ℕ)). line ∷ q.1) p, record { len = eqb-true _ _ t.0; letters = letters_of (trimmed line) l.0 }, sym (ap (λ (q : List ℕ × List (List ℕ)). q.0) p) ∙ sym l.1)

pub record RowsAre (count width : ℕ) (lines : List (List ℕ)) (x : List ℕ × List (List ℕ)) : Type 0 where
  pub rows : List (List ℕ)
  pub parts : lines ≡ rows ++ x.1
  pub number : length rows ≡ count
  pub each : AllByRecursion (IsRow width) rows
  pub cells : x.0 ≡ flat_map trimmed rows

pub rows_are : (count width row : ℕ) (lines : List (List ℕ)) (x : List ℕ × List (List ℕ)) → rows_at count width row lines ≡ Ok x → RowsAre count width lines x
unfolding rows_at
rows_are zero width row lines x e =
    let p = ok_is ([], lines) x e in
    record { rows = []; parts = ap (λ (q : List ℕ × List (List ℕ)). q.1) p; number = refl; each = tt; cells = sym (ap (λ (q : List ℕ × List (List ℕ)). q.0) p) }
rows_are (suc count) width row lines x e =
    let a = bind_ok (row_at width row lines) (λ first. rows_at count width (row + 1) first.1 >>= λ others. Ok (first.0 ++ others.0, others.1)) x e in
    let b = bind_ok (rows_at count width (row + 1) a.0.1) (λ others. Ok (a.0.0 ++ others.0, others.1)) x a.2 in
    let first = row_is width row lines a.0 a.1 in
    let rest = rows_are count width (row + 1) a.0.1 b.0 b.1 in
    let p = ok_is (a.0.0 ++ b.0.0, b.0.1) x b.2 in
    record {
      rows = first.0 ∷ rest.rows;
      parts = first.1 ∙ ap (λ (l : List (List ℕ)). first.0 ∷ l) (rest.parts ∙ ap (λ (q : List ℕ × List (List ℕ)). rest.rows ++ q.1) p);
      number = ap suc rest.number;
      each = (first.2, rest.each);
      cells = sym (ap (λ (q : List ℕ × List (List ℕ)). q.0) p) ∙ ap (λ (l : List ℕ). l ++ b.0.0) first.3 ∙ ap (λ (l : List ℕ). trimmed first.0 ++ l) rest.cells;
    }

pub nothing : (line : List ℕ) → is_empty line ≡ true → line ≡ []
nothing [] e = refl
nothing (b ∷ line) e = absurd cc

end_is : (number : ℕ) (lines : List (List ℕ)) (x : Unit {0}) → end_at number lines ≡ Ok x → AllByRecursion IsBlankLine lines
unfolding end_at
end_is number [] x e = tt
end_is number (line ∷ lines) x e =
    let t = chosen (is_empty (trimmed line)) (end_at (number + 1) lines) (Err (Trailing number)) (Trailing number) x refl e in
    (nothing (trimmed line) t.0, end_is (number + 1) lines x t.1)

side_is : (name : List ℕ) (number : ℕ) (lines : List (List ℕ)) (x : ℕ × List (List ℕ)) → side_at name number lines ≡ Ok x → (line : List ℕ) × (lines ≡ line ∷ x.1) × (side_on name line ≡ Some x.0)
unfolding side_at
side_is name number lines x e =
    let a = bind_ok (line_at number lines) (λ line. need (Header number) (side_on name line.0) >>= λ side. Ok (side, line.1)) x e in
    let b = bind_ok (need (Header number) (side_on name a.0.0)) (λ side. Ok (side, a.0.1)) x a.2 in
    let p = ok_is (b.0, a.0.1) x b.2 in
    (a.0.0, line_first number lines a.0 a.1 ∙ ap (λ (q : ℕ × List (List ℕ)). a.0.0 ∷ q.1) p, need_ok (Header number) (side_on name a.0.0) b.0 b.1 ∙ ap (λ (q : ℕ × List (List ℕ)). Some q.0) p)

pub sides_are : (lines : List (List ℕ)) (x : ℕ × ℕ × List (List ℕ)) → sides_at lines ≡ Ok x → (a : List ℕ) × (b : List ℕ) × (lines ≡ a ∷ b ∷ x.2) × AreSides x.0 x.1 a b
unfolding sides_at
sides_are lines x e =
    let a = bind_ok (line_at 2 lines) (λ line. sides_behind (side_on (codes "height") line.0) (side_on (codes "width") line.0) line.1) x e in
    let rest = go a.0.1 (side_on (codes "height") a.0.0) (side_on (codes "width") a.0.0) a.2 in
    (a.0.0, rest.0, line_first 2 lines a.0 a.1 ∙ ap (λ (l : List (List ℕ)). a.0.0 ∷ l) rest.1, rest.2 a.0.0 refl refl)
  where
    go : (lines : List (List ℕ)) (h w : Option ℕ) → sides_behind h w lines ≡ Ok x
        → (b : List ℕ) × (lines ≡ b ∷ x.2) × ((a : List ℕ) → side_on (codes "height") a ≡ h → side_on (codes "width") a ≡ w → AreSides x.0 x.1 a b)
    go lines (Some h) w e =
        let a = bind_ok (side_at (codes "width") 3 lines) (λ other. Ok (h, other.0, other.1)) x e in
        let s = side_is (codes "width") 3 lines a.0 a.1 in
        let p = ok_is (h, a.0.0, a.0.1) x a.2 in
        (s.0, s.1 ∙ ap (λ (q : ℕ × ℕ × List (List ℕ)). s.0 ∷ q.2) p, λ l high wide. inl (high ∙ ap (λ (q : ℕ × ℕ × List (List ℕ)). Some q.0) p, s.2 ∙ ap (λ (q : ℕ × ℕ × List (List ℕ)). Some q.1) p))
    go lines None (Some w) e =
        let a = bind_ok (side_at (codes "height") 3 lines) (λ other. Ok (other.0, w, other.1)) x e in
        let s = side_is (codes "height") 3 lines a.0 a.1 in
        let p = ok_is (a.0.0, w, a.0.1) x a.2 in
        (s.0, s.1 ∙ ap (λ (q : ℕ × ℕ × List (List ℕ)). s.0 ∷ q.2) p, λ l high wide. inr (wide ∙ ap (λ (q : ℕ × ℕ × List (List ℕ)). Some q.1) p, s.2 ∙ ap (λ (q : ℕ × ℕ × List (List ℕ)). Some q.0) p))
    go lines None None e = absurd cc

pub record HeadIs (all : List (List ℕ)) (x : ℕ × ℕ × List (List ℕ)) : Type 0 where
  pub first : List ℕ
  pub second : List ℕ
  pub third : List ℕ
  pub fourth : List ℕ
  pub lines : all ≡ first ∷ second ∷ third ∷ fourth ∷ x.2
  pub typed : is_type_line first ≡ true
  pub sides : AreSides x.0 x.1 second third
  pub named : is_map_line fourth ≡ true
  pub fits : (is_side x.0 ≡ true) × (is_side x.1 ≡ true)

pub head_is : (lines : List (List ℕ)) (x : ℕ × ℕ × List (List ℕ)) → head_at lines ≡ Ok x → HeadIs lines x
unfolding head_at
head_is lines x e =
    let a = bind_ok (line_at 1 lines) _ x e in
    let b = bind_ok (only_if (is_type_line a.0.0) (Header 1)) _ x a.2 in
    let c = bind_ok (sides_at a.0.1) _ x b.2 in
    let d = bind_ok (line_at 4 c.0.2) _ x c.2 in
    let f = bind_ok (only_if (is_map_line d.0.0) (Header 4)) _ x d.2 in
    let g = bind_ok (only_if (is_side c.0.0 && is_side c.0.1) Size) _ x f.2 in
    let s = sides_are a.0.1 c.0 c.1 in
    let p = ok_is (c.0.0, c.0.1, d.0.1) x g.2 in
    let fits = both (is_side c.0.0) (is_side c.0.1) (passed _ Size g.0 g.1) in
    subst (λ (y : ℕ × ℕ × List (List ℕ)). HeadIs lines y) p (record {
      first = a.0.0;
      second = s.0;
      third = s.1;
      fourth = d.0.0;
      lines = line_first 1 lines a.0 a.1 ∙ ap (λ (l : List (List ℕ)). a.0.0 ∷ l) (s.2 ∙ ap (λ (l : List (List ℕ)). s.0 ∷ s.1 ∷ l) (line_first 4 c.0.2 d.0 d.1));
      typed = passed _ (Header 1) b.0 b.1;
      sides = s.3;
      named = passed _ (Header 4) f.0 f.1;
      fits = fits;
    })

pub is_text : (bytes : List ℕ) (m : Map) → map_of bytes ≡ Ok m → IsMapText bytes m
unfolding map_of_lines
is_text bytes m e =
    let a = bind_ok (head_at (lines_of bytes)) _ m e in
    let b = bind_ok (rows_at a.0.0 a.0.1 0 a.0.2) _ m a.2 in
    let c = bind_ok (end_at (5 + a.0.0) b.0.1) _ m b.2 in
    let h = head_is (lines_of bytes) a.0 a.1 in
    let r = rows_are a.0.0 a.0.1 0 a.0.2 b.0 b.1 in
    subst (λ (y : Map). IsMapText bytes y) (ok_is (record { height = a.0.0; width = a.0.1; cells = b.0.0 }) m c.2) (record {
      first = h.first;
      second = h.second;
      third = h.third;
      fourth = h.fourth;
      rows = r.rows;
      behind = b.0.1;
      lines = h.lines ∙ ap (λ (l : List (List ℕ)). h.first ∷ h.second ∷ h.third ∷ h.fourth ∷ l) r.parts;
      typed = h.typed;
      sides = h.sides;
      named = h.named;
      height_fits = h.fits.0;
      width_fits = h.fits.1;
      row_count = r.number;
      each_row = r.each;
      cells = r.cells;
      blank = end_is (5 + a.0.0) b.0.1 c.0 c.1;
    })

pub is_found : {A : Type 0} (bytes : List ℕ) (r : Result (MapText A) MapFault) → Gives view r (map_of bytes) → IfOk r (λ m. IsMapText bytes (view m))
is_found bytes (Ok m) given = is_text bytes (view m) given
is_found bytes (Err e) given = tt
