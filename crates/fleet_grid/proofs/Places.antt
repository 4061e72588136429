-- Cells and their places in the padded list.
use Rattle.std.proofs.Common.{◌≡◌, ◌≢◌, ℕ, ◌+◌, ◌-◌, ◌*◌, ◌/◌, ◌%◌, ◌<◌, ◌≤◌, refl, sym, ap, ◌∙◌, arith}
use Rattle.std.proofs.lemmas.Nat.{div-mul-add, mod-mul-add, div-add-mod', mod_below, same_from_place, div_below, mul-le}
use Rattle.fleet_grid.specs.Padded.{place}

row_more : (q w : ℕ) → (q + 1) * w ≡ q * w + w
row_more q w = omega arith

-- the place of the cell in row q and column r
place_at : (w s q r : ℕ) → r < w → place w s (q * w + r) ≡ (q + 1) * s + r
place_at w s q r h = rw (div-mul-add q w r h, mod-mul-add q w r h) refl

parts : (w c : ℕ) → c ≡ c / w * w + c % w
parts w c = sym (div-add-mod' c w)

-- a cell's place is in the list, a row from each end
pub place_inside : (h w s c : ℕ) → 0 < w → w < s → c < h * w → (s ≤ place w s c) × (place w s c + s < (h + 2) * s)
place_inside h w s c pos apart below =
    let row : c / w < h = div_below c w h pos below in
    let col = mod_below c w pos in
    let e1 = row_more (c / w) s in
    let more : (c / w + 1) * s ≤ h * s = mul-le (c / w + 1) s h s (omega (arith, row)) (omega arith) in
    let e2 = row_more h s in
    let e3 = row_more (h + 1) s in
    let e4 : (h + 2) * s ≡ h * s + s + s = ap (λ (x : ℕ). x * s) (omega arith) ∙ (e3 ∙ ap (λ (x : ℕ). x + s) e2) in
    (omega (arith, e1), omega (arith, more, col, apart, e4))

-- no two cells have one place
pub place_once : (w s a b : ℕ) → 0 < w → w < s → place w s a ≡ place w s b → a ≡ b
place_once w s a b pos apart e =
    let x = mod_below a w pos in
    let y = mod_below b w pos in
    let same = same_from_place (a / w + 1) (a % w) (b / w + 1) (b % w) s (omega (arith, x, apart)) (omega (arith, y, apart)) e in
    let rows : a / w ≡ b / w = omega (arith, same.0) in
    parts w a ∙ (ap (λ (q : ℕ). q * w + a % w) rows ∙ (ap (λ (r : ℕ). b / w * w + r) same.1 ∙ sym (parts w b)))

-- a cell that is not the first of its row has its place after the one before it
pub east_on : (w s a b : ℕ) → 0 < w → a + 1 ≡ b → b % w ≢ 0 → place w s b ≡ place w s a + 1
east_on w s a b pos e inner =
    let x = mod_below b w pos in
    let p = parts w b in
    let some : 0 < b % w = omega (arith, inner) in
    let is : a ≡ b / w * w + (b % w - 1) = omega (arith, e, some, p) in
    let at : place w s a ≡ (b / w + 1) * s + (b % w - 1) = ap (place w s) is ∙ place_at w s (b / w) (b % w - 1) (omega (arith, x)) in
    omega (arith, at, some)

-- the cell below has its place one row further
pub south_on : (w s a b : ℕ) → 0 < w → a + w ≡ b → place w s b ≡ place w s a + s
south_on w s a b pos e =
    let x = mod_below a w pos in
    let p = parts w a in
    let more = row_more (a / w) w in
    let is : b ≡ (a / w + 1) * w + a % w = omega (arith, e, p, more) in
    let at : place w s b ≡ (a / w + 1 + 1) * s + a % w = ap (place w s) is ∙ place_at w s (a / w + 1) (a % w) x in
    let rows = row_more (a / w + 1) s in
    omega (arith, at, rows)

pub east_back : (w s a b : ℕ) → 0 < w → w < s → place w s b ≡ place w s a + 1 → (a + 1 ≡ b) × (b % w ≢ 0)
east_back w s a b pos apart e =
    let x = mod_below a w pos in
    let y = mod_below b w pos in
    let same = same_from_place (b / w + 1) (b % w) (a / w + 1) (a % w + 1) s (omega (arith, y, apart)) (omega (arith, x, apart)) (omega (arith, e)) in
    let rows : b / w ≡ a / w = omega (arith, same.0) in
    let is : b ≡ a / w * w + b % w = parts w b ∙ ap (λ (q : ℕ). q * w + b % w) rows in
    let p = parts w a in
    (omega (arith, is, same.1, p), λ z. omega (arith, same.1, z))

pub south_back : (w s a b : ℕ) → 0 < w → w < s → place w s b ≡ place w s a + s → a + w ≡ b
south_back w s a b pos apart e =
    let x = mod_below a w pos in
    let y = mod_below b w pos in
    let more = row_more (a / w + 1) s in
    let same = same_from_place (b / w + 1) (b % w) (a / w + 1 + 1) (a % w) s (omega (arith, y, apart)) (omega (arith, x, apart)) (omega (arith, e, more)) in
    let rows : b / w ≡ a / w + 1 = omega (arith, same.0) in
    let is : b ≡ (a / w + 1) * w + b % w = parts w b ∙ ap (λ (q : ℕ). q * w + b % w) rows in
    let p = parts w a in
    let last = row_more (a / w) w in
    omega (arith, is, same.1, p, last)
