-- What a grid's form gives where its sides are read from it.
use Rattle.std.proofs.Common.{◌≡◌, ℕ, ◌+◌, ◌*◌, ◌<◌, ◌≤◌, List, length, slice_index, refl, sym, ap, subst, ◌∙◌, arith}
use Rattle.fleet_grid.specs.Floor.{Floor, HasForm, IsFloor}
use Rattle.fleet_grid.specs.Padded.{IsOpen, IsPadded, place}
use Rattle.fleet_grid.specs.Ways.{AreWays}
use Rattle.fleet_grid.proofs.Forms.{floor_inside, wide, few_cells}
use Rattle.fleet_field.proofs.Transfer.{blank_open}

pub is_slim : (m : Floor) (w : ℕ) → w ≡ m.width → HasForm m → w ≤ 1024
is_slim m w e form = let slim = form.slim in omega (arith, e, slim)

pub is_within : (m : Floor) (goal : ℕ) → HasForm m → IsFloor m goal → goal < 1048576
is_within m goal form f = let inside = floor_inside m goal f in let few = few_cells m form in omega (arith, inside, few)

module _ (m : Floor) (w goal : ℕ) (e : w ≡ m.width) (form : HasForm m) (f : IsFloor m goal) where
  pub is_wide : 0 < w
  is_wide = subst (λ (x : ℕ). 0 < x) (sym e) (wide m goal form f)

  module _ (s : ℕ) (blank : List ℕ) (p : IsPadded m s blank) where
    pub opens : (start : ℕ) → start ≡ place w s goal → IsOpen blank start
    opens start is = subst (IsOpen blank) (sym (is ∙ ap (λ (x : ℕ). place x s goal) e)) (blank_open m s blank form p goal f)

    pub is_low : place w s goal < 1073741824
    is_low = let o = (opens (place w s goal) refl).0 in let small = p.small in omega (arith, o, small)

area_at_least : (h s : ℕ) → s ≤ (h + 2) * s
area_at_least h s = grind arith

module _ (m : Floor) (s : ℕ) (blank : List ℕ) (p : IsPadded m s blank) where
  pub has_step : 0 < s
  has_step = let apart = p.apart in omega (arith, apart)

  -- a row is no longer than the list
  pub stride_fits : s < 1073741824
  stride_fits = let size = p.size in let small = p.small in let least = area_at_least m.height s in omega (arith, size, small, least)

  pub is_far : (v : ℕ) → IsOpen blank v → slice_index blank v ≡ 4294967295
  is_far v o = (p.only v o).0

  module _ (h w : ℕ) (eh : h ≡ m.height) (ew : w ≡ m.width) where
    pub is_apart : w < s
    is_apart = subst (λ (x : ℕ). x < s) (sym ew) p.apart

    pub is_small : (h + 2) * s < 1073741824
    is_small = subst (λ (x : ℕ). (x + 2) * s < 1073741824) (sym eh) (subst (λ (x : ℕ). x < 1073741824) p.size p.small)

    area : h * w ≡ m.height * m.width
    area = ap (λ (x : ℕ). x * w) eh ∙ ap (λ (x : ℕ). m.height * x) ew

    pub is_few : HasForm m → h * w ≤ 1048576
    is_few form = let few = few_cells m form in let covered = form.covered in omega (arith, area, few, covered)

    pub has_cells : (ways : List ℕ) → AreWays m ways → HasForm m → length ways ≡ h * w
    has_cells ways led form = led.size ∙ (form.covered ∙ sym area)

    pub are_low : (ways : List ℕ) → AreWays m ways → HasForm m → (cell : ℕ) → cell < h * w → slice_index ways cell < 16
    are_low ways led form cell below = led.low cell (omega (arith, below, area, form.covered))
