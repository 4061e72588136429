-- The labels before a search, from the ways of the cells.
use Rattle.std.proofs.Common.{◌≡◌, ◌≢◌, ℕ, ◌*◌, ◌<◌, inl, inr, List, length, slice_index, sym, ap, subst, ◌∙◌, arith}
use Rattle.std.specs.Int.{bit_at}
use Rattle.std.proofs.lemmas.Bool.{cases_eq}
use Rattle.std.proofs.lemmas.Nat.Bits.{bit_at-lt, bit_at-zero}
use Rattle.fleet_grid.specs.declared.dir.Dir.{Dir}
use Rattle.fleet_grid.specs.declared.dir.Dir.TheVariants.{North, East, South, West}
use Rattle.fleet_grid.specs.Direction.{dir_number}
use Rattle.fleet_grid.specs.Floor.{Floor, HasForm, IsFloor}
use Rattle.fleet_grid.specs.Padded.{IsOpen, IsPadded, place}
use Rattle.fleet_grid.specs.Ways.{IsWay, AreWays}
use Rattle.fleet_grid.proofs.Forms.{floor_inside, wide}
use Rattle.fleet_field.specs.inside.Search.{IsBeside, IsLink}
use Rattle.fleet_field.specs.inside.Labels.{IsLabel, AreLabels, AreUnseen, IsReady}
use Rattle.fleet_field.proofs.Transfer.{side_of, blank_open, is_walled}

-- where there are ways, one leads in some direction
some_way : (ways : ℕ) → ways ≢ 0 → ways < 16 → (dir : Dir) × IsWay ways dir
some_way ways some low = elim (cases_eq (bit_at ways 0) 1) [
  | inl north ↦ (North, north)
  | inr not_north ↦ elim (cases_eq (bit_at ways 1) 1) [
    | inl east ↦ (East, east)
    | inr not_east ↦ elim (cases_eq (bit_at ways 2) 1) [
      | inl south ↦ (South, south)
      | inr not_south ↦ elim (cases_eq (bit_at ways 3) 1) [
        | inl west ↦ (West, west)
        | inr not_west ↦ absurd (some (none ways low (bit_none 0 not_north) (bit_none 1 not_east) (bit_none 2 not_south) (bit_none 3 not_west)))
      ]
    ]
  ]
]
  where
    bit_none : (k : ℕ) → bit_at ways k ≢ 1 → bit_at ways k ≡ 0
    bit_none k ne = let few = bit_at-lt ways k in omega (arith, few, ne)

    none : (x : ℕ) → x < 16 → bit_at x 0 ≡ 0 → bit_at x 1 ≡ 0 → bit_at x 2 ≡ 0 → bit_at x 3 ≡ 0 → x ≡ 0
    none x small a b c d = omega (arith, small, a, b, c, d)

no_ways : (dir : Dir) (ways : ℕ) → IsWay ways dir → ways ≢ 0
no_ways dir ways way e =
    let z : bit_at ways (dir_number dir) ≡ 0 = ap (λ (x : ℕ). bit_at x (dir_number dir)) e ∙ bit_at-zero (dir_number dir) in
    omega (arith, z, way)

module _ (m : Floor) (s : ℕ) (blank ways labels : List ℕ) (form : HasForm m) (p : IsPadded m s blank) (led : AreWays m ways) (laid : AreUnseen m.height m.width s ways labels) where
  -- a cell with ways is floor
  floor_at : (c : ℕ) → c < m.height * m.width → slice_index ways c ≢ 0 → IsFloor m c
  floor_at c below some =
      let inside : c < length m.letters = omega (arith, below, form.covered) in
      let way = some_way (slice_index ways c) some (led.low c inside) in
      ((led.each c inside way.0).0 way.1).1.from

  -- an open place with an open one next to it is that of a cell with ways
  linked : (v u : ℕ) → IsLink blank s v u → slice_index labels v ≡ 0
  linked v u l =
      let a = p.only v l.from in
      let b = p.only u l.to in
      let inside = floor_inside m a.1 a.2 in
      let beside : IsBeside s (place m.width s a.1) (place m.width s b.1) = subst (IsBeside s (place m.width s a.1)) b.3 (subst (λ (x : ℕ). IsBeside s x u) a.3 l.side) in
      let side = side_of m.width s a.1 b.1 (wide m a.1 form a.2) p.apart beside in
      let way = (led.each a.1 inside side.0).1 (b.1, record { from = a.2; to = b.2; beside = side.1 }) in
      ap (slice_index labels) a.3 ∙ laid.cells a.1 (omega (arith, inside, form.covered)) (no_ways side.0 (slice_index ways a.1) way)

  each : (v : ℕ) → v < length blank → IsLabel s blank v (slice_index labels v)
  each v below = elim (laid.each v (omega (arith, below, laid.len, p.size))) [
    | inl shut ↦ inr (inr (shut, λ u l. (let z = linked v u l in omega (arith, z, shut))))
    | inr o ↦ inl (ap (slice_index blank) o.3 ∙ p.each o.1 (floor_at o.1 o.2 o.4), o.0)
  ]

  pub unseen_labels : AreLabels s blank labels
  unseen_labels = record { len = laid.len ∙ sym p.size; each = each }

-- the labels are ready for a search, where the sides were read from the grid
pub ready_by : (m : Floor) (h w s goal start : ℕ) (blank ways labels : List ℕ) → h ≡ m.height → w ≡ m.width → HasForm m → IsPadded m s blank → AreWays m ways → AreUnseen h w s ways labels → IsFloor m goal → start ≡ place w s goal
    → IsReady blank s start labels
ready_by m h w s goal start blank ways labels eh ew form p led laid f es = record {
  small = p.small;
  far = λ v o. (p.only v o).0;
  walled = is_walled m s blank form p;
  start = subst (IsOpen blank) (sym (es ∙ ap (λ (x : ℕ). place x s goal) ew)) (blank_open m s blank form p goal f);
  unseen = unseen_labels m s blank ways labels form p led (subst (λ (x : ℕ). AreUnseen x m.width s ways labels) eh (subst (λ (y : ℕ). AreUnseen h y s ways labels) ew laid));
}
