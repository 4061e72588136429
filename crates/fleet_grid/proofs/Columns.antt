-- The columns of a cell and of the one after it.
use Rattle.std.proofs.Common.{◌≡◌, ◌≢◌, ℕ, zero, suc, ◌+◌, ◌-◌, ◌*◌, ◌/◌, ◌%◌, ◌<◌, ◌≤◌, ◌↔◌, IsTrue, true, inl, inr, length, refl, sym, ap, ◌∙◌, arith}
use Rattle.std.proofs.Math.Bool.{not}
use Rattle.std.proofs.Math.Dec.{leb, ltb, eqb}
use Rattle.std.proofs.Math.Facts.{eqb_no}
use Rattle.std.proofs.lemmas.Bool.{leb-true, le-leb, ltb-true, lt-ltb, ne_eqb, cases_lt, cases_eq}
use Rattle.std.proofs.lemmas.Float.{T_from_true}
use Rattle.std.proofs.lemmas.Nat.{mod-mul-add, div-add-mod', mod_below}
use Rattle.fleet_grid.specs.Floor.{Floor, HasForm, IsBeside, cell_across}
use Rattle.fleet_grid.specs.declared.dir.Dir.TheVariants.{North, East, South, West}

column_on : (w c : ℕ) → c % w + 1 < w → (c + 1) % w ≡ c % w + 1
column_on w c less =
    let parts = div-add-mod' c w in
    let e : c + 1 ≡ c / w * w + (c % w + 1) = omega (arith, parts) in
    ap (λ (x : ℕ). x % w) e ∙ mod-mul-add (c / w) w (c % w + 1) less

column_round : (w c : ℕ) → 0 < w → c % w + 1 ≡ w → (c + 1) % w ≡ 0
column_round w c pos last =
    let parts = div-add-mod' c w in
    let more : (c / w + 1) * w ≡ c / w * w + w = omega arith in
    let e : c + 1 ≡ (c / w + 1) * w + 0 = omega (arith, parts, more, last) in
    ap (λ (x : ℕ). x % w) e ∙ mod-mul-add (c / w + 1) w 0 pos

pub next_column : (w c column : ℕ) → column ≡ c % w → column + 1 < w → column + 1 ≡ (c + 1) % w
next_column w c column e less = let n = column_on w c (omega (arith, e, less)) in omega (arith, e, n)

pub last_column : (w c column : ℕ) → 0 < w → column ≡ c % w → w ≤ column + 1 → 0 ≡ (c + 1) % w
last_column w c column pos e over = let x = mod_below c w pos in sym (column_round w c pos (omega (arith, e, over, x)))

-- where a map of that width has a cell on a side of another: by the column of the cell
pub north_side : (w cell : ℕ) → IsTrue (leb w cell) ↔ IsBeside w North cell (cell_across w cell North)
north_side w cell = (
  λ on. let less = leb-true w cell on in omega (arith, less),
  λ there. let e : cell - w + w ≡ cell = there in le-leb w cell (omega (arith, e)),
)

pub east_side : (w cell column : ℕ) → 0 < w → column ≡ cell % w → IsTrue (ltb (column + 1) w) ↔ IsBeside w East cell (cell_across w cell East)
east_side w cell column pos e = (
  λ on. (refl, (let n = next_column w cell column e (ltb-true (column + 1) w on) in λ z. omega (arith, n, z))),
  λ there. elim (cases_lt (column + 1) w) [
    | inl less ↦ lt-ltb (column + 1) w less
    | inr over ↦ absurd (there.1 (sym (last_column w cell column pos e over)))
  ],
)

pub south_side : (w cell : ℕ) → IsTrue true ↔ IsBeside w South cell (cell_across w cell South)
south_side w cell = (λ on. refl, λ there. refl)

inner_side : (w cell : ℕ) → 0 < cell % w → IsBeside w West cell (cell_across w cell West)
inner_side w cell pos = let parts = div-add-mod' cell w in (omega (arith, parts, pos), λ z. omega (arith, z, pos))

pub west_side : (w cell column : ℕ) → column ≡ cell % w → IsTrue (ltb 0 column) ↔ IsBeside w West cell (cell_across w cell West)
west_side w cell column e = (
  λ on. inner_side w cell (let less = ltb-true 0 column on in omega (arith, e, less)),
  λ there. elim (cases_eq column 0) [
    | inl zero_is ↦ absurd (there.1 (sym e ∙ zero_is))
    | inr ne ↦ lt-ltb 0 column (omega (arith, ne))
  ],
)

-- the same, by divisions
true_from_no : (x : ℕ) → x ≢ 0 → not (eqb x 0) ≡ true
true_from_no x ne = ap not (ne_eqb x 0 ne)

pub east_end : (w cell : ℕ) → IsTrue (not (eqb ((cell + 1) % w) 0)) ↔ IsBeside w East cell (cell_across w cell East)
east_end w cell = (
  λ on. (refl, eqb_no (T_from_true (not (eqb ((cell + 1) % w) 0)) on)),
  λ there. true_from_no ((cell + 1) % w) there.1,
)

pub west_end : (w cell : ℕ) → IsTrue (not (eqb (cell % w) 0)) ↔ IsBeside w West cell (cell_across w cell West)
west_end w cell = (
  λ on. inner_side w cell (let ne : cell % w ≢ 0 = eqb_no (T_from_true (not (eqb (cell % w) 0)) on) in omega (arith, ne)),
  λ there. true_from_no (cell % w) there.1,
)

-- a map with a cell is not without columns
pub has_columns : (m : Floor) (c : ℕ) → HasForm m → c < length m.letters → 0 < m.width
has_columns m c form inside = some m.width form.covered
  where
    some : (w : ℕ) → length m.letters ≡ m.height * w → 0 < w
    some zero e = absurd (omega (arith, inside, e))
    some (suc w) e = omega arith
