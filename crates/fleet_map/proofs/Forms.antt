-- A map text has as many cells as its sides say.
use Rattle.std.proofs.Common.{◌≡◌, ℕ, ◌+◌, ◌*◌, ◌≤◌, true, leb, List, [], ◌∷◌, length, Result, Ok, Err, sym, ap, ◌∙◌, arith}
use Rattle.std.specs.Prelude.{IfOk}
use Rattle.std.specs.List.{flat_map, AllByRecursion}
use Rattle.std.proofs.lemmas.List.{length-append}
use Rattle.std.proofs.lemmas.List.Concat.{flat_map-cons}
use Rattle.std.proofs.lemmas.Bool.{and_parts, leb-true}
use Rattle.fleet_map.specs.Text.{trimmed}
use Rattle.fleet_map.specs.Grammar.{Map, view, is_side}
use Rattle.fleet_map.specs.Shape.{IsRow, IsMapText}
use Rattle.fleet_map.specs.Form.{HasSides}
use Rattle.fleet_map.specs.declared.fault.MapFault.{MapFault}
use Rattle.fleet_map.specs.declared.map_text.MapText.{MapText}

rows_cover : (width : ℕ) (rows : List (List ℕ)) → AllByRecursion (IsRow width) rows → length (flat_map trimmed rows) ≡ length rows * width
rows_cover width [] each = sym (omega arith)
rows_cover width (row ∷ rows) each =
    ap length (flat_map-cons trimmed row rows)
    ∙ (length-append (trimmed row) (flat_map trimmed rows) ∙ omega (arith, each.0.len, rows_cover width rows each.1, more))
  where
    more : length (row ∷ rows) * width ≡ width + length rows * width
    more = let e : length (row ∷ rows) ≡ length rows + 1 = grind arith in rw e (omega arith)

side_fits : (n : ℕ) → is_side n ≡ true → (1 ≤ n) × (n ≤ 1024)
side_fits n e = let p = and_parts (leb 1 n) (leb n 1024) e in (leb-true 1 n p.0, leb-true n 1024 p.1)

pub has_sides : (bytes : List ℕ) (m : Map) → IsMapText bytes m → HasSides m
has_sides bytes m t =
    let h = side_fits m.height t.height_fits in
    let w = side_fits m.width t.width_fits in
    record {
      tall = h.0;
      low = h.1;
      wide = w.0;
      slim = w.1;
      covered = ap length t.cells ∙ (rows_cover m.width t.rows t.each_row ∙ ap (λ (n : ℕ). n * m.width) t.row_count);
    }

pub form_is : {A : Type 0} (bytes : List ℕ) (r : Result (MapText A) MapFault) → IfOk r (λ m. IsMapText bytes (view m)) → IfOk r (λ m. HasSides (view m))
form_is bytes (Ok m) t = has_sides bytes (view m) t
form_is bytes (Err e) t = tt
