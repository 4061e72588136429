-- A text that is not read: its fault is the first.
use Rattle.std.proofs.Common.{◌≡◌, ℕ, zero, suc, ◌+◌, ◌<◌, Bool, true, false, cond, ◌&&◌, eqb, List, [], ◌∷◌, ◌++◌, length, Option, Some, None, Result, Ok, Err, refl, ap, subst, ◌∙◌, inl, inr, arith, codes}
use Rattle.std.specs.Prelude.{◌⊎◌, IfErr}
use Rattle.std.specs.List.{AllByRecursion}
use Rattle.std.proofs.lemmas.Bool.{cases_Bool, eqb-true}
use Rattle.fleet_map.specs.declared.fault.MapFault.{MapFault}
use Rattle.fleet_map.specs.declared.fault.MapFault.TheVariants.{Header, Size, Row, Cell, Trailing, NoMemory}
use Rattle.fleet_map.specs.declared.map_text.MapText.{MapText}
use Rattle.fleet_map.specs.Text.{lines_of, trimmed, is_empty}
use Rattle.fleet_map.specs.Grammar.{◌>>=◌, Gives, view, need, only_if, line_at, side_on, side_at, sides_behind, sides_at, head_at, is_type_line, is_map_line, is_side, odd_cell, letters_in, row_of, row_at, rows_at, end_at, map_of_lines, map_of}
use Rattle.fleet_map.specs.Shape.{IsRow, IsBlankLine}
use Rattle.fleet_map.specs.FirstFault.{Lacks, gives_side, gives_a_side, LacksOtherSide, AreRowsBefore, IsFirstFault, first_line, second_line, third_line, fourth_line, size, row, cell, trailing, memory}
use Rattle.fleet_map.proofs.Shapes.{HeadIs, passed, line_first, sides_are, head_is, rows_are, row_is, nothing}

abbrev failed : {A : Type 0} → MapFault → Result A MapFault
failed e = Err e

abbrev Parts : Type 0
Parts = ℕ × ℕ × List (List ℕ)

err_is : {A : Type 0} (d e : MapFault) → failed {A = A} d ≡ failed e → d ≡ e
err_is d e h = cc

bind_err : {A B : Type 0} (r : Result A MapFault) (f : A → Result B MapFault) (e : MapFault) → (r >>= f) ≡ Err e → (r ≡ Err e) ⊎ ((x : A) × (r ≡ Ok x) × (f x ≡ Err e))
bind_err (Ok x) f e h = inr (x, refl, h)
bind_err (Err d) f e h = inl (ap (λ (z : MapFault). Err z) (err_is d e h))

refused : (b : Bool) (fault e : MapFault) → only_if b fault ≡ Err e → (b ≡ false) × (fault ≡ e)
refused true fault e h = absurd cc
refused false fault e h = (refl, err_is fault e h)

missing : (number : ℕ) (lines : List (List ℕ)) (e : MapFault) → line_at number lines ≡ Err e → (lines ≡ []) × (Header number ≡ e)
missing number [] e h = (refl, err_is (Header number) e h)
missing number (line ∷ lines) e h = absurd cc

lacks_none : (in_form : List ℕ → Bool) (lines : List (List ℕ)) → lines ≡ [] → Lacks in_form lines
lacks_none in_form lines h = rw h tt

lacks_first : (in_form : List ℕ → Bool) (lines : List (List ℕ)) (line : List ℕ) (rest : List (List ℕ)) → lines ≡ line ∷ rest → in_form line ≡ false → Lacks in_form lines
lacks_first in_form lines line rest h fails = rw h fails

-- ---- the head
unneeded : (o : Option ℕ) (fault e : MapFault) → need fault o ≡ Err e → (o ≡ None) × (fault ≡ e)
unneeded None fault e h = (refl, err_is fault e h)
unneeded (Some x) fault e h = absurd cc

side_fails : (name : List ℕ) (number : ℕ) (lines : List (List ℕ)) (e : MapFault) → side_at name number lines ≡ Err e → Lacks (gives_side name) lines × (Header number ≡ e)
unfolding side_at
side_fails name number lines e h =
    elim (bind_err (line_at number lines) (λ line. need (Header number) (side_on name line.0) >>= λ side. Ok (side, line.1)) e h) [
      | inl none ↦ let m = missing number lines e none in (lacks_none (gives_side name) lines m.0, m.1)
      | inr some ↦
          elim (bind_err (need (Header number) (side_on name some.0.0)) (λ side. Ok (side, some.0.1)) e some.2) [
            | inl other ↦ let u = unneeded (side_on name some.0.0) (Header number) e other in
                (lacks_first (gives_side name) lines some.0.0 some.0.1 (line_first number lines some.0 some.1) (rw (u.0) refl), u.1)
            | inr good ↦ let bad = good.2 in absurd (cc)
          ]
    ]

-- the fault of lines 2 and 3
abbrev SideFault : List (List ℕ) → MapFault → Type 0
SideFault lines e = (Lacks gives_a_side lines × (Header 2 ≡ e)) ⊎ ((second : List ℕ) × (rest : List (List ℕ)) × (lines ≡ second ∷ rest) × LacksOtherSide second rest × (Header 3 ≡ e))

sides_fail : (lines : List (List ℕ)) (e : MapFault) → sides_at lines ≡ Err e → SideFault lines e
unfolding sides_at
sides_fail lines e h =
    elim (bind_err (line_at 2 lines) (λ line. sides_behind (side_on (codes "height") line.0) (side_on (codes "width") line.0) line.1) e h) [
      | inl none ↦ let m = missing 2 lines e none in inl (lacks_none gives_a_side lines m.0, m.1)
      | inr some ↦ go some.0.0 some.0.1 (line_first 2 lines some.0 some.1) (side_on (codes "height") some.0.0) (side_on (codes "width") some.0.0) refl refl some.2
    ]
  where
    go : (line : List ℕ) (rest : List (List ℕ)) → lines ≡ line ∷ rest → (a b : Option ℕ) → side_on (codes "height") line ≡ a → side_on (codes "width") line ≡ b → sides_behind a b rest ≡ Err e → SideFault lines e
    go line rest parts (Some a) b high wide h =
        elim (bind_err (side_at (codes "width") 3 rest) (λ other. Ok (a, other.0, other.1)) e h) [
          | inl other ↦ let f = side_fails (codes "width") 3 rest e other in inr (line, rest, parts, inl (rw high refl, f.0), f.1)
          | inr good ↦ let bad = good.2 in absurd (cc)
        ]
    go line rest parts None (Some b) high wide h =
        elim (bind_err (side_at (codes "height") 3 rest) (λ other. Ok (other.0, b, other.1)) e h) [
          | inl other ↦ let f = side_fails (codes "height") 3 rest e other in inr (line, rest, parts, inr (rw wide refl, f.0), f.1)
          | inr good ↦ let bad = good.2 in absurd (cc)
        ]
    go line rest parts None None high wide h = inl (lacks_first gives_a_side lines line rest parts (rw (high, wide) refl), err_is (Header 2) e h)

head_fails : (lines : List (List ℕ)) (e : MapFault) → head_at lines ≡ Err e → IsFirstFault lines e
unfolding head_at
head_fails lines e h =
    elim (bind_err (line_at 1 lines) _ e h) [
      | inl none ↦ let m = missing 1 lines e none in subst (λ (z : MapFault). IsFirstFault lines z) m.1 (first_line (lacks_none is_type_line lines m.0))
      | inr a ↦ typed a.0 (line_first 1 lines a.0 a.1) a.2
    ]
  where
    named : (a : List ℕ × List (List ℕ)) → lines ≡ a.0 ∷ a.1 → is_type_line a.0 ≡ true → (c : ℕ × ℕ × List (List ℕ)) → sides_at a.1 ≡ Ok c
        → (line_at 4 c.2 >>= λ fourth. only_if (is_map_line fourth.0) (Header 4) >>= λ named. only_if (is_side c.0 && is_side c.1) Size >>= λ sized. Ok (c.0, c.1, fourth.1)) ≡ failed {A = Parts} e → IsFirstFault lines e
    named a parts is_typed c sided h =
        let s = sides_are a.1 c sided in
        let three : lines ≡ a.0 ∷ s.0 ∷ s.1 ∷ c.2 = parts ∙ ap (λ (l : List (List ℕ)). a.0 ∷ l) s.2 in
        elim (bind_err (line_at 4 c.2) _ e h) [
          | inl none ↦ let m = missing 4 c.2 e none in subst (λ (z : MapFault). IsFirstFault lines z) m.1 (fourth_line c.0 c.1 a.0 s.0 s.1 c.2 three is_typed s.3 (lacks_none is_map_line c.2 m.0))
          | inr d ↦
              elim (bind_err (only_if (is_map_line d.0.0) (Header 4)) _ e d.2) [
                | inl other ↦ let r = refused _ (Header 4) e other in
                    subst (λ (z : MapFault). IsFirstFault lines z) r.1 (fourth_line c.0 c.1 a.0 s.0 s.1 c.2 three is_typed s.3 (lacks_first is_map_line c.2 d.0.0 d.0.1 (line_first 4 c.2 d.0 d.1) r.0))
                | inr f ↦
                    elim (bind_err (only_if (is_side c.0 && is_side c.1) Size) _ e f.2) [
                      | inl other ↦ let r = refused _ Size e other in
                          subst (λ (z : MapFault). IsFirstFault lines z) r.1 (size c.0 c.1 d.0.1 (record {
                            first = a.0;
                            second = s.0;
                            third = s.1;
                            fourth = d.0.0;
                            parts = three ∙ ap (λ (l : List (List ℕ)). a.0 ∷ s.0 ∷ s.1 ∷ l) (line_first 4 c.2 d.0 d.1);
                            typed = is_typed;
                            sides = s.3;
                            named = passed _ (Header 4) f.0 f.1;
                          }) r.0)
                      | inr good ↦ let bad = good.2 in absurd (cc)
                    ]
              ]
        ]

    typed : (a : List ℕ × List (List ℕ)) → lines ≡ a.0 ∷ a.1
        → (only_if (is_type_line a.0) (Header 1) >>= λ typed. sides_at a.1 >>= λ c. line_at 4 c.2 >>= λ fourth. only_if (is_map_line fourth.0) (Header 4) >>= λ named. only_if (is_side c.0 && is_side c.1) Size >>= λ sized. Ok (c.0, c.1, fourth.1)) ≡ failed {A = Parts} e → IsFirstFault lines e
    typed a parts h =
        elim (bind_err (only_if (is_type_line a.0) (Header 1)) _ e h) [
          | inl other ↦ let r = refused _ (Header 1) e other in subst (λ (z : MapFault). IsFirstFault lines z) r.1 (first_line (lacks_first is_type_line lines a.0 a.1 parts r.0))
          | inr b ↦
              let is_typed = passed _ (Header 1) b.0 b.1 in
              elim (bind_err (sides_at a.1) _ e b.2) [
                | inl other ↦
                    elim (sides_fail a.1 e other) [
                      | inl two ↦ subst (λ (z : MapFault). IsFirstFault lines z) two.1 (second_line a.0 a.1 parts is_typed two.0)
                      | inr three ↦ subst (λ (z : MapFault). IsFirstFault lines z) three.4 (third_line a.0 three.0 three.1 (parts ∙ ap (λ (l : List (List ℕ)). a.0 ∷ l) three.2) is_typed three.3)
                    ]
                | inr c ↦ named a parts is_typed c.0 c.1 c.2
              ]
        ]

-- ---- the rows

-- the fault of a row of that number
abbrev RowFault : ℕ → ℕ → List (List ℕ) → MapFault → Type 0
RowFault width i rest e = (Lacks (λ line. eqb (length (trimmed line)) width) rest × (Row i ≡ e))
    ⊎ ((line : List ℕ) × (after : List (List ℕ)) × (col : ℕ) × (rest ≡ line ∷ after) × (length (trimmed line) ≡ width) × (odd_cell (trimmed line) ≡ Some col) × (Cell i col ≡ e))

row_fails : (width i : ℕ) (lines : List (List ℕ)) (e : MapFault) → row_at width i lines ≡ Err e → RowFault width i lines e
row_fails width i [] e h = inl (tt, err_is (Row i) e h)
row_fails width i (line ∷ after) e h =
    elim (bind_err (row_of width i (trimmed line)) (λ cells. Ok (cells, after)) e h) [
      | inl bad ↦ go (eqb (length (trimmed line)) width) refl (odd_cell (trimmed line)) refl bad
      | inr good ↦ let bad = good.2 in absurd (cc)
    ]
  where
    go : (b : Bool) → eqb (length (trimmed line)) width ≡ b → (o : Option ℕ) → odd_cell (trimmed line) ≡ o → cond b (letters_in i (trimmed line) o) (Err (Row i)) ≡ Err e → RowFault width i (line ∷ after) e
    go true len None odd h = absurd (cc)
    go true len (Some col) odd h = inr (line, after, col, refl, eqb-true _ _ len, odd, err_is (Cell i col) e h)
    go false len o odd h = inl (len, err_is (Row i) e h)

record RowsFail (count width i : ℕ) (lines : List (List ℕ)) (e : MapFault) : Type 0 where
  rows : List (List ℕ)
  rest : List (List ℕ)
  parts : lines ≡ rows ++ rest
  each : AllByRecursion (IsRow width) rows
  fewer : length rows < count
  fault : RowFault width (i + length rows) rest e

rows_fail : (count width i : ℕ) (lines : List (List ℕ)) (e : MapFault) → rows_at count width i lines ≡ Err e → RowsFail count width i lines e
unfolding rows_at
rows_fail zero width i lines e h = absurd (cc)
rows_fail (suc count) width i lines e h =
    elim (bind_err (row_at width i lines) (λ first. rows_at count width (i + 1) first.1 >>= λ others. Ok (first.0 ++ others.0, others.1)) e h) [
      | inl bad ↦
          let here : i ≡ i + 0 = omega arith in
          record { rows = []; rest = lines; parts = refl; each = tt; fewer = omega arith; fault = subst (λ (n : ℕ). RowFault width n lines e) here (row_fails width i lines e bad) }
      | inr a ↦
          elim (bind_err (rows_at count width (i + 1) a.0.1) (λ others. Ok (a.0.0 ++ others.0, others.1)) e a.2) [
            | inl bad ↦
                let f = rows_fail count width (i + 1) a.0.1 e bad in
                let first = row_is width i lines a.0 a.1 in
                let on : (i + 1) + length f.rows ≡ i + suc (length f.rows) = omega arith in
                record {
                  rows = first.0 ∷ f.rows;
                  rest = f.rest;
                  parts = first.1 ∙ ap (λ (l : List (List ℕ)). first.0 ∷ l) f.parts;
                  each = (first.2, f.each);
                  fewer = let less = f.fewer in omega arith;
                  fault = subst (λ (n : ℕ). RowFault width n f.rest e) on f.fault;
                }
            | inr good ↦ let bad = good.2 in absurd (cc)
          ]
    ]

record EndFails (number : ℕ) (lines : List (List ℕ)) (e : MapFault) : Type 0 where
  blank : List (List ℕ)
  line : List ℕ
  rest : List (List ℕ)
  parts : lines ≡ blank ++ (line ∷ rest)
  each : AllByRecursion IsBlankLine blank
  filled : is_empty (trimmed line) ≡ false
  fault : Trailing (number + length blank) ≡ e

end_fails : (number : ℕ) (lines : List (List ℕ)) (e : MapFault) → end_at number lines ≡ Err e → EndFails number lines e
unfolding end_at
end_fails number [] e h = absurd (cc)
end_fails number (line ∷ lines) e h =
    elim (cases_Bool (is_empty (trimmed line))) [
      | inl blank ↦
          let more : end_at (number + 1) lines ≡ Err e = rw blank at h in
          let f = end_fails (number + 1) lines e more in
          let on : (number + 1) + length f.blank ≡ number + suc (length f.blank) = omega arith in
          record {
            blank = line ∷ f.blank;
            line = f.line;
            rest = f.rest;
            parts = ap (λ (l : List (List ℕ)). line ∷ l) f.parts;
            each = (nothing (trimmed line) blank, f.each);
            filled = f.filled;
            fault = subst (λ (n : ℕ). Trailing n ≡ e) on f.fault;
          }
      | inr filled ↦
          let here : number ≡ number + 0 = omega arith in
          let stops : failed {A = Unit {0}} (Trailing number) ≡ failed e = rw filled at h in
          record { blank = []; line = line; rest = lines; parts = refl; each = tt; filled = filled; fault = subst (λ (n : ℕ). Trailing n ≡ e) here (err_is (Trailing number) e stops) }
    ]

-- ---- the whole
rows_before : (lines : List (List ℕ)) (x : ℕ × ℕ × List (List ℕ)) → HeadIs lines x → (rows rest : List (List ℕ)) → x.2 ≡ rows ++ rest → AllByRecursion (IsRow x.1) rows → AreRowsBefore lines x.0 x.1 rows rest
rows_before lines x h rows rest parts each = record {
  head = record {
    first = h.first;
    second = h.second;
    third = h.third;
    fourth = h.fourth;
    parts = h.lines ∙ ap (λ (l : List (List ℕ)). h.first ∷ h.second ∷ h.third ∷ h.fourth ∷ l) parts;
    typed = h.typed;
    sides = h.sides;
    named = h.named;
  };
  fit = rw (h.fits.0, h.fits.1) refl;
  each_row = each;
}

row_first : (lines : List (List ℕ)) (height width : ℕ) (rows rest : List (List ℕ)) (e : MapFault) → AreRowsBefore lines height width rows rest → length rows < height → RowFault width (length rows) rest e → IsFirstFault lines e
row_first lines height width rows rest e before fewer (inl f) = subst (λ (z : MapFault). IsFirstFault lines z) f.1 (row height width rows rest before fewer f.0)
row_first lines height width rows rest e before fewer (inr f) =
    let at : AreRowsBefore lines height width rows (f.0 ∷ f.1) = subst (λ (l : List (List ℕ)). AreRowsBefore lines height width rows l) f.3 before in
    subst (λ (z : MapFault). IsFirstFault lines z) f.6 (cell height width rows f.0 f.1 f.2 at fewer f.4 f.5)

pub map_fails : (lines : List (List ℕ)) (e : MapFault) → map_of_lines lines ≡ Err e → IsFirstFault lines e
unfolding map_of_lines
map_fails lines e h =
    elim (bind_err (head_at lines) _ e h) [
      | inl bad ↦ head_fails lines e bad
      | inr a ↦
          let head = head_is lines a.0 a.1 in
          elim (bind_err (rows_at a.0.0 a.0.1 0 a.0.2) _ e a.2) [
            | inl bad ↦
                let f = rows_fail a.0.0 a.0.1 0 a.0.2 e bad in
                let from_zero : 0 + length f.rows ≡ length f.rows = omega arith in
                row_first lines a.0.0 a.0.1 f.rows f.rest e (rows_before lines a.0 head f.rows f.rest f.parts f.each) f.fewer (subst (λ (n : ℕ). RowFault a.0.1 n f.rest e) from_zero f.fault)
            | inr b ↦
                let r = rows_are a.0.0 a.0.1 0 a.0.2 b.0 b.1 in
                elim (bind_err (end_at (5 + a.0.0) b.0.1) _ e b.2) [
                  | inl bad ↦
                      let f = end_fails (5 + a.0.0) b.0.1 e bad in
                      subst (λ (z : MapFault). IsFirstFault lines z) f.fault
                      (trailing a.0.0 a.0.1 r.rows f.blank f.line f.rest (rows_before lines a.0 head r.rows (f.blank ++ (f.line ∷ f.rest)) (r.parts ∙ ap (λ (l : List (List ℕ)). r.rows ++ l) f.parts) r.each) r.number f.each f.filled)
                  | inr good ↦ let bad = good.2 in absurd (cc)
                ]
          ]
    ]

pub is_first : {A : Type 0} (bytes : List ℕ) (r : Result (MapText A) MapFault) → Gives view r (map_of bytes) → IfErr r (λ e. IsFirstFault (lines_of bytes) e)
is_first bytes (Ok m) given = tt
is_first bytes (Err NoMemory) given = memory
is_first bytes (Err (Header n)) given = map_fails (lines_of bytes) (Header n) given
is_first bytes (Err Size) given = map_fails (lines_of bytes) Size given
is_first bytes (Err (Row n)) given = map_fails (lines_of bytes) (Row n) given
is_first bytes (Err (Cell n m)) given = map_fails (lines_of bytes) (Cell n m) given
is_first bytes (Err (Trailing n)) given = map_fails (lines_of bytes) (Trailing n) given
