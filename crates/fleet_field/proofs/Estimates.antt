-- A step changes the estimate by one.
use Rattle.std.proofs.Common.{◌≡◌, ◌≢◌, ℕ, ◌+◌, ◌*◌, ◌/◌, ◌%◌, ◌<◌, ◌≤◌, ◌⊎◌, inl, inr, refl, sym, ap, subst, ◌∙◌, arith}
use Rattle.std.proofs.lemmas.Bool.{cases_lt}
use Rattle.std.proofs.lemmas.Nat.{div-mul-add, mod-mul-add, div-add-mod', mod_below}
use Rattle.fleet_grid.specs.declared.dir.Dir.{Dir}
use Rattle.fleet_grid.specs.declared.dir.Dir.TheVariants.{North, East, South, West}
use Rattle.fleet_grid.specs.Floor.{Floor, IsBeside, IsNeighbour}
use Rattle.fleet_grid.proofs.Columns.{next_column, last_column}
use Rattle.fleet_field.specs.declared.target.Target.{Target}
use Rattle.fleet_field.specs.inside.Estimate.{gap, estimate, IsToward}

-- the row and the column of the cell below
parts_below : (w n : ℕ) → n + w ≡ (n / w + 1) * w + n % w
parts_below w n =
    let parts = div-add-mod' n w in
    let more : (n / w + 1) * w ≡ n / w * w + w = omega arith in
    omega (arith, parts, more)

row_below : (w n : ℕ) → 0 < w → (n + w) / w ≡ n / w + 1
row_below w n pos = ap (λ (x : ℕ). x / w) (parts_below w n) ∙ div-mul-add (n / w + 1) w (n % w) (mod_below n w pos)

column_below : (w n : ℕ) → 0 < w → (n + w) % w ≡ n % w
column_below w n pos = ap (λ (x : ℕ). x % w) (parts_below w n) ∙ mod-mul-add (n / w + 1) w (n % w) (mod_below n w pos)

-- the row and the column of the cell after it, in its row
inner : (w n : ℕ) → 0 < w → (n + 1) % w ≢ 0 → n % w + 1 < w
inner w n pos ne = elim (cases_lt (n % w + 1) w) [
  | inl less ↦ less
  | inr over ↦ absurd (ne (sym (last_column w n (n % w) pos refl over)))
]

row_after : (w n : ℕ) → 0 < w → (n + 1) % w ≢ 0 → (n + 1) / w ≡ n / w
row_after w n pos ne =
    let less = inner w n pos ne in
    let parts = div-add-mod' n w in
    let e : n + 1 ≡ n / w * w + (n % w + 1) = omega (arith, parts) in
    ap (λ (x : ℕ). x / w) e ∙ div-mul-add (n / w) w (n % w + 1) less

column_after : (w n : ℕ) → 0 < w → (n + 1) % w ≢ 0 → (n + 1) % w ≡ n % w + 1
column_after w n pos ne = sym (next_column w n (n % w) refl (inner w n pos ne))

-- rows and columns of a cell and of one next to it
module _ (w : ℕ) (pos : 0 < w) (a b : ℕ) where
  rows_north : b + w ≡ a → a / w ≡ b / w + 1
  rows_north e = ap (λ (x : ℕ). x / w) (sym e) ∙ row_below w b pos

  columns_north : b + w ≡ a → a % w ≡ b % w
  columns_north e = ap (λ (x : ℕ). x % w) (sym e) ∙ column_below w b pos

  rows_east : a + 1 ≡ b → b % w ≢ 0 → b / w ≡ a / w
  rows_east e ne = ap (λ (x : ℕ). x / w) (sym e) ∙ row_after w a pos (λ z. ne (ap (λ (x : ℕ). x % w) (sym e) ∙ z))

  columns_east : a + 1 ≡ b → b % w ≢ 0 → b % w ≡ a % w + 1
  columns_east e ne = ap (λ (x : ℕ). x % w) (sym e) ∙ column_after w a pos (λ z. ne (ap (λ (x : ℕ). x % w) (sym e) ∙ z))

not_less : (x y : ℕ) → (x < y → ⊥) → y ≤ x
not_less x y never = elim (cases_lt x y) [ inl l ↦ absurd (never l) | inr m ↦ m ]

below_or_not : (x y : ℕ) → (x < y) ⊎ (x < y → ⊥)
below_or_not x y = elim (cases_lt x y) [ inl l ↦ inl l | inr m ↦ inr (λ l. omega (arith, l, m)) ]

pub estimate_toward : (t : Target) (dir : Dir) (a b : ℕ) → 0 < t.width → IsBeside t.width dir a b → IsToward t a dir → estimate t b + 1 ≡ estimate t a
estimate_toward t North a b pos s near = let r = rows_north t.width pos a b s in let c = columns_north t.width pos a b s in omega (arith, r, c, near)
estimate_toward t East a b pos s near = let r = rows_east t.width pos a b s.0 s.1 in let c = columns_east t.width pos a b s.0 s.1 in omega (arith, r, c, near)
estimate_toward t South a b pos s near = let r = rows_north t.width pos b a s in let c = columns_north t.width pos b a s in omega (arith, r, c, near)
estimate_toward t West a b pos s near = let r = rows_east t.width pos b a s.0 s.1 in let c = columns_east t.width pos b a s.0 s.1 in omega (arith, r, c, near)

pub estimate_away : (t : Target) (dir : Dir) (a b : ℕ) → 0 < t.width → IsBeside t.width dir a b → (IsToward t a dir → ⊥) → estimate t b ≡ estimate t a + 1
estimate_away t North a b pos s far = let r = rows_north t.width pos a b s in let c = columns_north t.width pos a b s in omega (arith, r, c, not_less t.row (a / t.width) far)
estimate_away t East a b pos s far = let r = rows_east t.width pos a b s.0 s.1 in let c = columns_east t.width pos a b s.0 s.1 in omega (arith, r, c, not_less (a % t.width) t.column far)
estimate_away t South a b pos s far = let r = rows_north t.width pos b a s in let c = columns_north t.width pos b a s in omega (arith, r, c, not_less (a / t.width) t.row far)
estimate_away t West a b pos s far = let r = rows_east t.width pos b a s.0 s.1 in let c = columns_east t.width pos b a s.0 s.1 in omega (arith, r, c, not_less t.column (a % t.width) far)

pub toward_or_away : (t : Target) (a : ℕ) (dir : Dir) → IsToward t a dir ⊎ (IsToward t a dir → ⊥)
toward_or_away t a North = below_or_not t.row (a / t.width)
toward_or_away t a East = below_or_not (a % t.width) t.column
toward_or_away t a South = below_or_not (a / t.width) t.row
toward_or_away t a West = below_or_not t.column (a % t.width)

-- of two neighbours one is nearer to the target by one
pub neighbour_step : (m : Floor) (t : Target) (a b : ℕ) → 0 < t.width → t.width ≡ m.width → IsNeighbour m a b
    → (estimate t b + 1 ≡ estimate t a) ⊎ (estimate t b ≡ estimate t a + 1)
neighbour_step m t a b pos same n =
    let side : IsBeside t.width n.0 a b = subst (λ (w : ℕ). IsBeside w n.0 a b) (sym same) n.1.beside in
    elim (toward_or_away t a n.0) [
      | inl near ↦ inl (estimate_toward t n.0 a b pos side near)
      | inr far ↦ inr (estimate_away t n.0 a b pos side far)
    ]

pub gap_same : (a : ℕ) → gap a a ≡ 0
gap_same a = omega arith

-- two numbers are no farther apart than by way of a third
pub gap_over : (a b c : ℕ) → gap a c ≤ gap b c + gap b a
gap_over a b c = elim (cases_lt a b) [
  | inl l ↦ elim (cases_lt b c) [ inl p ↦ omega (arith, l, p) | inr p ↦ elim (cases_lt a c) [ inl q ↦ omega (arith, l, p, q) | inr q ↦ omega (arith, l, p, q) ] ]
  | inr l ↦ elim (cases_lt b c) [ inl p ↦ elim (cases_lt a c) [ inl q ↦ omega (arith, l, p, q) | inr q ↦ omega (arith, l, p, q) ] | inr p ↦ omega (arith, l, p) ]
]
