-- Steps down the ways that lead nearer are as many as the distance.
use Rattle.std.proofs.Common.{◌≡◌, ◌≢◌, ℕ, zero, suc, ◌+◌, ◌-◌, ◌*◌, ◌/◌, ◌<◌, ◌≤◌, ◌⊎◌, inl, inr, ◌==◌, Bool, true, false, cond, List, [], ◌∷◌, length, get_or, slice_get, slice_index, Option, Some, None, MatchOption, IsTrue, ◌↔◌, refl, sym, ap, subst, ◌∙◌, arith}
use Rattle.std.specs.Int.{bit_at}
use Rattle.std.proofs.lemmas.Bool.{cases_lt, eqb-true, eq-eqb, false≢true}
use Rattle.std.proofs.lemmas.List.{get_or_past}
use Rattle.std.proofs.lemmas.List.FromFn.{get_or-map-range_with_len, length-map-range_with_len}
use Rattle.fleet_grid.specs.declared.dir.Dir.{Dir}
use Rattle.fleet_grid.specs.declared.dir.Dir.TheVariants.{North, East, South, West}
use Rattle.fleet_grid.specs.Direction.{dir_number}
use Rattle.fleet_grid.specs.Floor.{Floor, HasForm, IsFloor, IsBeside, IsNeighbour, IsNeighbourIn}
use Rattle.fleet_grid.specs.Walk.{Walks, IsDistance, AreApart}
use Rattle.fleet_grid.specs.Ways.{IsWay, IsLess, AreNearer, AreOpen, AreWays}
use Rattle.fleet_grid.specs.Padded.{IsPadded, place}
use Rattle.fleet_grid.proofs.Edges.{beside_once}
use Rattle.fleet_grid.proofs.Forms.{floor_inside, wide, few_cells}
use Rattle.fleet_grid.proofs.Shortest.{distance_below}
use Rattle.fleet_grid.proofs.Colours.{differ_by_one}
use Rattle.fleet_field.specs.Field.{Aim, IsField}
use Rattle.fleet_field.specs.inside.Search.{SameWalls, AreLevels}
use Rattle.fleet_field.specs.inside.Labels.{IsSearched, IsPointed}
use Rattle.fleet_field.specs.Kept.{aways, IsLaidOut}
use Rattle.fleet_field.specs.Compass.{next_cell, steps_down, aways_down, low, exits_of, aim_by, IsNear, AreWaysAt, IsRight, IsCompass}
use Rattle.fleet_field.proofs.Transfer as transfer
use Rattle.fleet_field.proofs.Halves.{low_bit, few_ways}
use Rattle.fleet_field.proofs.Pointed.{points}
use Rattle.fleet_field.proofs.Marks.{some_is, none_is, less_parts, less_by, around_inside, is_right}
use Rattle.fleet_field.proofs.Descent.{step_found, step_stuck, step_on}

-- the first of four that is there
abbrev first_of_four : Bool → Bool → Bool → Bool → ℕ → ℕ → ℕ → ℕ → Option ℕ
first_of_four a b c d x y z u = cond a (Some x) (cond b (Some y) (cond c (Some z) (cond d (Some u) None)))

picked : (a b c d : Bool) (x y z u n : ℕ) → first_of_four a b c d x y z u ≡ Some n → (((a ≡ true) × (x ≡ n)) ⊎ ((b ≡ true) × (y ≡ n))) ⊎ (((c ≡ true) × (z ≡ n)) ⊎ ((d ≡ true) × (u ≡ n)))
picked true b c d x y z u n e = inl (inl (refl, some_is x n e))
picked false true c d x y z u n e = inl (inr (refl, some_is y n e))
picked false false true d x y z u n e = inr (inl (refl, some_is z n e))
picked false false false true x y z u n e = inr (inr (refl, some_is u n e))
picked false false false false x y z u n e = absurd (none_is n e)

none_picked : (a b c d : Bool) (x y z u : ℕ) → first_of_four a b c d x y z u ≡ None → (a ≡ false) × (b ≡ false) × (c ≡ false) × (d ≡ false)
none_picked true b c d x y z u e = absurd (none_is x (sym e))
none_picked false true c d x y z u e = absurd (none_is y (sym e))
none_picked false false true d x y z u e = absurd (none_is z (sym e))
none_picked false false false true x y z u e = absurd (none_is u (sym e))
none_picked false false false false x y z u e = (refl, refl, refl, refl)

maybe : (o : Option ℕ) → (o ≡ None) ⊎ (n : ℕ) × (o ≡ Some n)
maybe None = inl refl
maybe (Some n) = inr (n, refl)

module _ (w : ℕ) (ways : List ℕ) (D : ℕ → Option ℕ) (right : IsRight w ways D) where
  next_is : (c n : ℕ) → next_cell w (slice_index ways c) c ≡ Some n → (dir : Dir) × IsBeside w dir c n × IsLess (D n) (D c)
  next_is c n e = elim (picked (bit_at (slice_index ways c) 0 == 1) (bit_at (slice_index ways c) 1 == 1) (bit_at (slice_index ways c) 2 == 1) (bit_at (slice_index ways c) 3 == 1) (c - w) (c + 1) (c + w) (c - 1) n e) [
    | inl (inl p) ↦ (
        let t = right.leads c North (eqb-true (bit_at (slice_index ways c) 0) 1 p.0) in
        let same : t.0 ≡ n = (let b = t.1 in omega (arith, b, p.1)) in
        subst (λ (x : ℕ). (dir : Dir) × IsBeside w dir c x × IsLess (D x) (D c)) same (North, t.1, t.2))
    | inl (inr p) ↦ (
        let t = right.leads c East (eqb-true (bit_at (slice_index ways c) 1) 1 p.0) in
        let same : t.0 ≡ n = (let b = t.1.0 in omega (arith, b, p.1)) in
        subst (λ (x : ℕ). (dir : Dir) × IsBeside w dir c x × IsLess (D x) (D c)) same (East, t.1, t.2))
    | inr (inl p) ↦ (
        let t = right.leads c South (eqb-true (bit_at (slice_index ways c) 2) 1 p.0) in
        let same : t.0 ≡ n = (let b = t.1 in omega (arith, b, p.1)) in
        subst (λ (x : ℕ). (dir : Dir) × IsBeside w dir c x × IsLess (D x) (D c)) same (South, t.1, t.2))
    | inr (inr p) ↦ (
        let t = right.leads c West (eqb-true (bit_at (slice_index ways c) 3) 1 p.0) in
        let same : t.0 ≡ n = (let b = t.1.0 in omega (arith, b, p.1)) in
        subst (λ (x : ℕ). (dir : Dir) × IsBeside w dir c x × IsLess (D x) (D c)) same (West, t.1, t.2))
  ]

  no_way : (c : ℕ) (dir : Dir) → next_cell w (slice_index ways c) c ≡ None → IsWay (slice_index ways c) dir → ⊥
  no_way c dir e = by dir
    where
      none : (k : ℕ) → (bit_at (slice_index ways c) k == 1) ≡ false → bit_at (slice_index ways c) k ≡ 1 → ⊥
      none k f one = false≢true (sym f ∙ eq-eqb (bit_at (slice_index ways c) k) 1 one)

      by : (d : Dir) → IsWay (slice_index ways c) d → ⊥
      by North = none 0 (none_picked (bit_at (slice_index ways c) 0 == 1) (bit_at (slice_index ways c) 1 == 1) (bit_at (slice_index ways c) 2 == 1) (bit_at (slice_index ways c) 3 == 1) (c - w) (c + 1) (c + w) (c - 1) e).0
      by East = none 1 (none_picked (bit_at (slice_index ways c) 0 == 1) (bit_at (slice_index ways c) 1 == 1) (bit_at (slice_index ways c) 2 == 1) (bit_at (slice_index ways c) 3 == 1) (c - w) (c + 1) (c + w) (c - 1) e).1
      by South = none 2 (none_picked (bit_at (slice_index ways c) 0 == 1) (bit_at (slice_index ways c) 1 == 1) (bit_at (slice_index ways c) 2 == 1) (bit_at (slice_index ways c) 3 == 1) (c - w) (c + 1) (c + w) (c - 1) e).2
      by West = none 3 (none_picked (bit_at (slice_index ways c) 0 == 1) (bit_at (slice_index ways c) 1 == 1) (bit_at (slice_index ways c) 2 == 1) (bit_at (slice_index ways c) 3 == 1) (c - w) (c + 1) (c + w) (c - 1) e).3

abbrev Tells : Floor → ℕ → ℕ → Option ℕ → Type 0
Tells m goal c o = MatchOption o (AreApart (IsNeighbour m) c goal) (λ d. IsDistance (IsNeighbour m) c goal d)

module _ (m : Floor) (goal : ℕ) (form : HasForm m) (at : IsFloor m goal) (ways : List ℕ) (D : ℕ → Option ℕ) (each : (c : ℕ) → Tells m goal c (D c)) (right : IsRight m.width ways D) where
  distance_is : (c d : ℕ) → D c ≡ Some d → IsDistance (IsNeighbour m) c goal d
  distance_is c d e = subst (Tells m goal c) e (each c)

  floor_by : (c : ℕ) (cs : List ℕ) → Walks (IsNeighbour m) c cs goal → IsFloor m c
  floor_by c [] walk = subst (IsFloor m) (sym walk) at
  floor_by c (x ∷ xs) walk = walk.0.1.from

  floor_at : (c d : ℕ) → D c ≡ Some d → IsFloor m c
  floor_at c d e = let is = distance_is c d e in floor_by c is.walk.0 is.walk.1

  start_at : (o : Option ℕ) → Tells m goal goal o → o ≡ Some 0
  start_at None apart = absurd (apart [] refl)
  start_at (Some d) is = ap Some (let l : d ≤ 0 = is.least [] refl in omega (arith, l))

  start : D goal ≡ Some 0
  start = start_at (D goal) (each goal)

  short : (c : ℕ) (cs : List ℕ) → Walks (IsNeighbour m) c cs goal → length cs ≡ 0 → c ≡ goal
  short c [] walk e = walk
  short c (x ∷ xs) walk e = absurd (omega (arith, e))

  zero_goal : (c : ℕ) → D c ≡ Some 0 → c ≡ goal
  zero_goal c e = let is = distance_is c 0 e in short c is.walk.0 is.walk.1 is.walk.2

  not_goal : (c d : ℕ) → D c ≡ Some (d + 1) → c ≢ goal
  not_goal c d e same = let z : 0 ≡ d + 1 = some_is 0 (d + 1) (sym start ∙ (ap D (sym same) ∙ e)) in absurd (omega (arith, z))

  one_less : (dir : Dir) (c n d e : ℕ) → IsBeside m.width dir c n → D c ≡ Some d → D n ≡ Some e → e < d → d ≡ e + 1
  one_less dir c n d e beside ec en less =
      elim (differ_by_one m c n goal d e form (dir, record { from = floor_at c d ec; to = floor_at n e en; beside = beside }) (distance_is c d ec) (distance_is n e en)) [
        | inl more ↦ more
        | inr under ↦ absurd (omega (arith, under, less))
      ]

  closer : (c n d : ℕ) (ns : List ℕ) → Walks (IsNeighbour m) n ns goal → length ns ≡ d → D c ≡ Some (d + 1) → (o : Option ℕ) → Tells m goal n o → D n ≡ o → IsLess (D n) (D c)
  closer c n d ns walk len e None apart en = absurd (apart ns walk)
  closer c n d ns walk len e (Some x) is en = less_by (D n) (D c) x (d + 1) en e (let l = is.least ns walk in omega (arith, l, len))

  way_by : (c d : ℕ) (cs : List ℕ) → Walks (IsNeighbour m) c cs goal → length cs ≡ d + 1 → D c ≡ Some (d + 1) → (dir : Dir) × IsWay (slice_index ways c) dir
  way_by c d [] walk len e = absurd (omega (arith, len))
  way_by c d (n ∷ ns) walk len e = (walk.0.0, right.all c walk.0.0 n walk.0.1.beside (closer c n d ns walk.1 (omega (arith, len)) e (D n) (each n) refl))

  has_way : (c d : ℕ) → D c ≡ Some (d + 1) → (dir : Dir) × IsWay (slice_index ways c) dir
  has_way c d e = let is = distance_is c (d + 1) e in way_by c d is.walk.0 is.walk.1 is.walk.2 e

  down_on : (c n d : ℕ) → D c ≡ Some (d + 1) → next_cell m.width (slice_index ways c) c ≡ Some n → D n ≡ Some d
  down_on c n d e on =
      let next = next_is m.width ways D right c n on in
      let p = less_parts (D n) (D c) next.2 in
      let same : d + 1 ≡ p.1 = some_is (d + 1) p.1 (sym e ∙ p.3) in
      let one = one_less next.0 c n p.1 p.0 next.1 p.3 p.2 p.4 in
      p.2 ∙ ap Some (omega (arith, same, one))

  down_some : (d left taken c : ℕ) → D c ≡ Some d → d < left → steps_down m.width ways goal left taken c ≡ Some (taken + d)
  down_some zero left taken c e less = step_found m.width ways goal left taken c (omega (arith, less)) (zero_goal c e) ∙ ap Some (omega arith)
  down_some (suc d) left taken c e less =
      let e1 : D c ≡ Some (d + 1) = e ∙ ap Some (omega arith) in
      elim (maybe (next_cell m.width (slice_index ways c) c)) [
        | inl none ↦ absurd (let way = has_way c d e1 in no_way m.width ways D right c way.0 none way.1)
        | inr some ↦ step_on m.width ways goal left (left - 1) taken c some.0 (omega (arith, less)) (not_goal c d e1) some.1
            ∙ (down_some d (left - 1) (taken + 1) some.0 (down_on c some.0 d e1 some.1) (omega (arith, less)) ∙ ap Some (omega arith))
      ]

  down_none : (left taken c : ℕ) → D c ≡ None → steps_down m.width ways goal left taken c ≡ None
  down_none left taken c e =
      step_stuck m.width ways goal left taken c (λ same. none_is 0 (sym e ∙ (ap D same ∙ start)))
      (elim (maybe (next_cell m.width (slice_index ways c) c)) [
        | inl none ↦ none
        | inr some ↦ absurd (
            let next = next_is m.width ways D right c some.0 some.1 in
            let p = less_parts (D some.0) (D c) next.2 in
            none_is p.1 (sym e ∙ p.3))
      ])

  down_same : (c : ℕ) → steps_down m.width ways goal (m.height * m.width) 0 c ≡ D c
  down_same c = elim (maybe (D c)) [
    | inl none ↦ down_none (m.height * m.width) 0 c none ∙ sym none
    | inr some ↦ (
        let below = distance_below m c goal some.0 (floor_at c some.0 some.1) (distance_is c some.0 some.1) in
        down_some some.0 (m.height * m.width) 0 c some.1 (omega (arith, below, form.covered)) ∙ (ap Some (omega arith) ∙ sym some.1))
  ]

  past_none : (c : ℕ) → m.height * m.width ≤ c → D c ≡ None
  past_none c past = elim (maybe (D c)) [
    | inl none ↦ none
    | inr some ↦ absurd (let below = floor_inside m c (floor_at c some.0 some.1) in omega (arith, below, past, form.covered))
  ]

  same : (c : ℕ) → get_or (aways_down m.height m.width goal ways) c None ≡ D c
  same c = elim (cases_lt c (m.height * m.width)) [
    | inl below ↦ get_or-map-range_with_len (λ i. steps_down m.width ways goal (m.height * m.width) 0 i) 0 (m.height * m.width) c c None below (omega arith) ∙ down_same c
    | inr past ↦ get_or_past (aways_down m.height m.width goal ways) c None (omega (arith, past, length-map-range_with_len (λ i. steps_down m.width ways goal (m.height * m.width) 0 i) 0 (m.height * m.width))) ∙ sym (past_none c past)
  ]

  pub is_compass : length ways ≡ m.height * m.width → IsCompass m.height m.width goal ways
  is_compass len = record {
    wide = wide m goal form at;
    slim = form.slim;
    few = (let few = few_cells m form in omega (arith, few, form.covered));
    size = len;
    right = record {
      leads = λ c dir way. (
          let t = right.leads c dir way in
          (t.0, t.1, subst (λ (o : Option ℕ). IsLess o (get_or (aways_down m.height m.width goal ways) c None)) (sym (same t.0)) (subst (IsLess (D t.0)) (sym (same c)) t.2)));
      all = λ c dir n beside less. right.all c dir n beside (subst (λ (o : Option ℕ). IsLess o (D c)) (same n) (subst (IsLess (get_or (aways_down m.height m.width goal ways) n None)) (same c) less));
    };
  }

  pub is_field : ((c exits : ℕ) → IsFloor m c → slice_get (exits_of ways) c ≡ Some exits → AreOpen m c exits) → IsField m goal (aim_by m.height m.width goal ways)
  is_field opens = record {
    goal = refl;
    covers = length-map-range_with_len (λ i. steps_down m.width ways goal (m.height * m.width) 0 i) 0 (m.height * m.width) ∙ sym form.covered;
    each = λ c. subst (Tells m goal c) (sym (same c)) (each c);
    opens = opens;
  }

-- the same, where the sides were read from the grid
pub made : (m : Floor) (h w goal : ℕ) (ways : List ℕ) (D : ℕ → Option ℕ) → h ≡ m.height → w ≡ m.width → HasForm m → IsFloor m goal → ((c : ℕ) → Tells m goal c (D c)) → IsRight w ways D → length ways ≡ h * w
    → ((c exits : ℕ) → IsFloor m c → slice_get (exits_of ways) c ≡ Some exits → AreOpen m c exits) → IsCompass h w goal ways × IsField m goal (aim_by h w goal ways)
made m h w goal ways D eh ew form at each right len opens =
    let r : IsRight m.width ways D = subst (λ (x : ℕ). IsRight x ways D) ew right in
    let l : length ways ≡ m.height * m.width = len ∙ (ap (λ (x : ℕ). x * w) eh ∙ ap (λ (x : ℕ). m.height * x) ew) in
    subst (λ (x : ℕ). IsCompass x w goal ways × IsField m goal (aim_by x w goal ways)) (sym eh)
    (subst (λ (y : ℕ). IsCompass m.height y goal ways × IsField m goal (aim_by m.height y goal ways)) (sym ew)
    (is_compass m goal form at ways D each r l, is_field m goal form at ways D each r opens))

-- the cells of the places that the search reached
cells_of : (m : Floor) (h w s : ℕ) (blank dist : List ℕ) → h ≡ m.height → w ≡ m.width → HasForm m → IsPadded m s blank → SameWalls blank dist → (v : ℕ) → v < length dist → slice_index dist v < 4294967294 → (c : ℕ) × (c < h * w) × (v ≡ place w s c)
cells_of m h w s blank dist eh ew form p walls v inside less =
    let cell = p.only v (walls.no_more v (inside, λ e. omega (arith, e, less))) in
    let below = floor_inside m cell.1 cell.2 in
    let size : h * w ≡ m.height * m.width = ap (λ (x : ℕ). x * w) eh ∙ ap (λ (x : ℕ). m.height * x) ew in
    (cell.1, omega (arith, below, form.covered, size), cell.3 ∙ ap (λ (x : ℕ). place x s cell.1) (sym ew))

pub compass_of : (m : Floor) (h w s goal start : ℕ) (blank dist ways : List ℕ) → h ≡ m.height → w ≡ m.width → HasForm m → IsPadded m s blank → IsFloor m goal → SameWalls blank dist → start ≡ place w s goal → AreLevels dist s start
    → length ways ≡ h * w → ((c : ℕ) → c < h * w → AreWaysAt dist s (place w s c) (slice_index ways c))
    → ((c exits : ℕ) → IsFloor m c → slice_get (exits_of ways) c ≡ Some exits → AreOpen m c exits) → IsCompass h w goal ways × IsField m goal (aim_by h w goal ways)
compass_of m h w s goal start blank dist ways eh ew form p at walls es levels len each opens =
    let field = transfer.made m h w s goal start blank dist eh ew form p at walls es levels in
    made m h w goal ways (λ c. get_or (aways h w s dist) c None) eh ew form at field.1.each (is_right h w s dist field.0 ways len (cells_of m h w s blank dist eh ew form p walls) each) len opens

-- the labels that the search left lie as the map's places do
pub searched_out : (m : Floor) (h w s goal start : ℕ) (blank labels : List ℕ) → h ≡ m.height → w ≡ m.width → HasForm m → IsPadded m s blank → IsFloor m goal → start ≡ place w s goal → IsSearched blank s start labels → IsLaidOut h w s labels
searched_out m h w s goal start blank labels eh ew form p at es r =
    let l = (transfer.made m h w s goal start blank r.dist eh ew form p at r.walls es r.levels).0 in
    let same : length labels ≡ length r.dist = r.labelled.len in
    record { wide = l.wide; apart = l.apart; few = l.few; small = (let x = l.small in omega (arith, x, same)); size = same ∙ l.size }

-- the bytes of the cells, as exits
shown_byte : (ways : List ℕ) (c exits : ℕ) → slice_get (exits_of ways) c ≡ Some exits → (c < length ways) × (slice_index ways c / 16 ≡ exits)
shown_byte [] c exits e = absurd (none_is exits e)
shown_byte (x ∷ ways) zero exits e = (omega arith, some_is (x / 16) exits e)
shown_byte (x ∷ ways) (suc c) exits e = let it = shown_byte ways c exits e in (omega (arith, it.0), it.1)

byte_shown : (ways : List ℕ) (c : ℕ) → c < length ways → slice_get (exits_of ways) c ≡ Some (slice_index ways c / 16)
byte_shown [] c below = absurd (omega (arith, below))
byte_shown (x ∷ ways) zero below = refl
byte_shown (x ∷ ways) (suc c) below = byte_shown ways c (omega (arith, below))

-- the exits of a floor cell are those that the grid has
opens_by : (m : Floor) (n s : ℕ) (place_of : ℕ → ℕ) (labels ways bytes : List ℕ) → AreWays m ways → length bytes ≡ n → ((c : ℕ) → c < n → IsPointed s labels (place_of c) (slice_index ways c) (slice_index bytes c))
    → (c exits : ℕ) → IsFloor m c → slice_get (exits_of bytes) c ≡ Some exits → AreOpen m c exits
opens_by m n s place_of labels ways bytes led len each c exits at shown =
    let byte = shown_byte bytes c exits shown in
    let same : slice_index ways c ≡ exits = sym (each c (omega (arith, byte.0, len))).high ∙ byte.1 in
    subst (AreOpen m c) same (led.each c (floor_inside m c at))

pub compass_by : (m : Floor) (h w s goal start : ℕ) (blank labels ways bytes : List ℕ) → h ≡ m.height → w ≡ m.width → HasForm m → IsPadded m s blank → IsFloor m goal → start ≡ place w s goal → IsSearched blank s start labels → AreWays m ways
    → length bytes ≡ h * w → ((c : ℕ) → c < h * w → IsPointed s labels (place w s c) (slice_index ways c) (slice_index bytes c)) → IsCompass h w goal bytes × IsField m goal (aim_by h w goal bytes)
compass_by m h w s goal start blank labels ways bytes eh ew form p at es r led len each =
    let l = (transfer.made m h w s goal start blank r.dist eh ew form p at r.walls es r.levels).0 in
    let apart = p.apart in
    compass_of m h w s goal start blank r.dist bytes eh ew form p at r.walls es r.levels len
    (λ c below. (
    let i = around_inside h w s r.dist l c below in
    points s start (place w s c) (slice_index ways c) (slice_index bytes c) r.dist labels (omega (arith, apart)) r.levels r.labelled i.0 i.1 (each c below)))
    (opens_by m (h * w) s (place w s) labels ways bytes led len each)

-- the exits of a floor cell, in the memory of a compass
pub exits_at : (m : Floor) (h w goal cell : ℕ) (ways : List ℕ) (aim : Aim) → aim_by h w goal ways ≡ aim → IsField m aim.goal aim → IsFloor m cell → cell < length ways → AreOpen m cell (slice_index ways cell / 16)
exits_at m h w goal cell ways aim is field at below =
    field.opens cell (slice_index ways cell / 16) at (ap (λ (a : Aim). slice_get a.exits cell) (sym is) ∙ byte_shown ways cell below)

pub byte_inside : (m : Floor) (h w goal cell : ℕ) (ways : List ℕ) (aim : Aim) → IsCompass h w goal ways → aim_by h w goal ways ≡ aim → IsField m aim.goal aim → IsFloor m cell → cell < length ways
byte_inside m h w goal cell ways aim compass is field at =
    let inside = floor_inside m cell at in
    let long = ap (λ (a : Aim). length a.away) is in
    let cells = length-map-range_with_len (λ i. steps_down w ways goal (h * w) 0 i) 0 (h * w) in
    omega (arith, inside, field.covers, long, cells, compass.size)

pub down_in : (h w goal c : ℕ) (ways : List ℕ) → c < h * w → get_or (aways_down h w goal ways) c None ≡ steps_down w ways goal (h * w) 0 c
down_in h w goal c ways below = get_or-map-range_with_len (λ i. steps_down w ways goal (h * w) 0 i) 0 (h * w) c c None below (omega arith)

pub down_out : (h w goal c : ℕ) (ways : List ℕ) → h * w ≤ c → get_or (aways_down h w goal ways) c None ≡ None
down_out h w goal c ways past = get_or_past (aways_down h w goal ways) c None (omega (arith, past, length-map-range_with_len (λ i. steps_down w ways goal (h * w) 0 i) 0 (h * w)))

pub are_nearer : (m : Floor) (h w goal : ℕ) (ways : List ℕ) → IsCompass h w goal ways → m.width ≡ w → (cell : ℕ) → AreNearer m (λ c. get_or (aways_down h w goal ways) c None) cell (low (slice_index ways cell))
are_nearer m h w goal ways is ew cell dir n near =
    let beside : IsBeside w dir cell n = subst (λ (x : ℕ). IsBeside x dir cell n) ew near.beside in (
      λ way. (
          let t = is.right.leads cell dir (sym (low_bit (slice_index ways cell) (dir_number dir) (few_ways dir)) ∙ way) in
          subst (λ (x : ℕ). IsLess (get_or (aways_down h w goal ways) x None) (get_or (aways_down h w goal ways) cell None)) (beside_once w dir cell t.0 n t.1 beside) t.2),
      λ less. low_bit (slice_index ways cell) (dir_number dir) (few_ways dir) ∙ is.right.all cell dir n beside less,
    )

-- whether one is less than another tells whether the neighbour in a direction is nearer
pub nearer_tells : (m : Floor) (dir : Dir) (cell next w : ℕ) (away : List (Option ℕ)) (r : Bool) (a b : Option ℕ) → IsNeighbourIn m dir cell next → IsNeighbourIn m dir cell w →
    a ≡ get_or away next None → b ≡ get_or away cell None → IsTrue r ↔ IsLess a b → IsTrue r ↔ IsLess (get_or away w None) (get_or away cell None)
nearer_tells m dir cell next w away r a b here there p q tells =
    let same : a ≡ get_or away w None = p ∙ ap (λ (k : ℕ). get_or away k None) (beside_once m.width dir cell next w here.beside there.beside) in
    subst (λ (x : Option ℕ). IsTrue r ↔ IsLess x (get_or away cell None)) same (subst (λ (y : Option ℕ). IsTrue r ↔ IsLess a y) q tells)
