-- From the padded list to the cells.
use Rattle.std.proofs.Common.{◌≡◌, ◌≢◌, ℕ, ◌+◌, ◌*◌, ◌<◌, ◌≤◌, inl, inr, Bool, cond, List, [], ◌∷◌, length, get_or, slice_index, Option, Some, None, MatchOption, refl, sym, ap, subst, ◌∙◌, arith}
use Rattle.std.proofs.lemmas.Bool.{cases_lt, cases_eq}
use Rattle.std.proofs.lemmas.List.{get_or_past}
use Rattle.std.proofs.lemmas.List.FromFn.{get_or-map-range_with_len, length-map-range_with_len}
use Rattle.std.proofs.lemmas.Bool.{lt-ltb, le-ltb}
use Rattle.fleet_grid.specs.declared.dir.Dir.{Dir}
use Rattle.fleet_grid.specs.declared.dir.Dir.TheVariants.{North, East, South, West}
use Rattle.fleet_grid.specs.Floor.{Floor, HasForm, IsFloor, IsNeighbour, IsNeighbourIn}
use Rattle.fleet_grid.specs.Floor as floor
use Rattle.fleet_grid.specs.Padded.{IsOpen, IsPadded, place}
use Rattle.fleet_grid.specs.Walk.{IsDistance, AreApart}
use Rattle.fleet_grid.proofs.Forms.{floor_inside, wide, few_cells}
use Rattle.fleet_grid.proofs.Places.{place_inside, place_once, east_on, south_on, east_back, south_back}
use Rattle.fleet_field.specs.inside.Search.{IsBeside, IsWalled, AreLevels, SameWalls}
use Rattle.fleet_field.specs.Field.{IsField, aim_of}
use Rattle.fleet_field.specs.Kept.{IsLaidOut, away_at, aways}
use Rattle.fleet_field.proofs.Distance.{is_distance, is_apart}

-- cells are next to each other exactly where their places do
places_beside : (w s : ℕ) (dir : Dir) (a b : ℕ) → 0 < w → floor.IsBeside w dir a b → IsBeside s (place w s a) (place w s b)
places_beside w s North a b pos e = inl (inl (south_on w s b a pos e))
places_beside w s East a b pos e = inl (inr (east_on w s a b pos e.0 e.1))
places_beside w s South a b pos e = inr (inl (south_on w s a b pos e))
places_beside w s West a b pos e = inr (inr (east_on w s b a pos e.0 e.1))

pub side_of : (w s a b : ℕ) → 0 < w → w < s → IsBeside s (place w s a) (place w s b) → (dir : Dir) × floor.IsBeside w dir a b
side_of w s a b pos apart (inl (inl e)) = (North, south_back w s b a pos apart e)
side_of w s a b pos apart (inl (inr e)) = (East, east_back w s a b pos apart e)
side_of w s a b pos apart (inr (inl e)) = (South, south_back w s a b pos apart e)
side_of w s a b pos apart (inr (inr e)) = (West, east_back w s b a pos apart e)

beside_back : (s a b : ℕ) → IsBeside s a b → IsBeside s b a
beside_back s a b (inl (inl e)) = inr (inl e)
beside_back s a b (inl (inr e)) = inr (inr e)
beside_back s a b (inr (inl e)) = inl (inl e)
beside_back s a b (inr (inr e)) = inl (inr e)

pub aways_len : (h w s : ℕ) (dist : List ℕ) → length (aways h w s dist) ≡ h * w
aways_len h w s dist = length-map-range_with_len (λ c. away_at (slice_index dist (place w s c))) 0 (h * w)

pub away_in : (h w s c : ℕ) (dist : List ℕ) → c < h * w → get_or (aways h w s dist) c None ≡ away_at (slice_index dist (place w s c))
away_in h w s c dist below = get_or-map-range_with_len (λ i. away_at (slice_index dist (place w s i))) 0 (h * w) c c None below (omega arith)

pub away_out : (h w s c : ℕ) (dist : List ℕ) → h * w ≤ c → get_or (aways h w s dist) c None ≡ None
away_out h w s c dist past = get_or_past (aways h w s dist) c None (omega (arith, past, aways_len h w s dist))

pub away_near : (d : ℕ) → d < 4294967294 → away_at d ≡ Some d
away_near d less = ap (λ (b : Bool). cond b (Some d) None) (lt-ltb d 4294967294 less)

pub away_far : (d : ℕ) → 4294967294 ≤ d → away_at d ≡ None
away_far d more = ap (λ (b : Bool). cond b (Some d) None) (le-ltb d 4294967294 more)

pub in_list : (h w s c : ℕ) (dist : List ℕ) → IsLaidOut h w s dist → c < h * w → place w s c < length dist
in_list h w s c dist l below = let p = place_inside h w s c l.wide l.apart below in omega (arith, p.1, l.size)

-- what the padded form gives the search
module _ (m : Floor) (s : ℕ) (blank : List ℕ) (form : HasForm m) (p : IsPadded m s blank) where
  below_all : (c : ℕ) → IsFloor m c → c < m.height * m.width
  below_all c f = let b = floor_inside m c f in omega (arith, b, form.covered)

  pub blank_open : (c : ℕ) → IsFloor m c → IsOpen blank (place m.width s c)
  blank_open c f =
      let i = place_inside m.height m.width s c (wide m c form f) p.apart (below_all c f) in
      let e = p.each c f in
      (omega (arith, i.1, p.size), λ x. omega (arith, e, x))

  pub is_walled : IsWalled blank s
  is_walled v o =
      let cell = p.only v o in
      let i = place_inside m.height m.width s cell.1 (wide m cell.1 form cell.2) p.apart (below_all cell.1 cell.2) in
      (omega (arith, i.0, cell.3), omega (arith, i.1, cell.3, p.size))

  -- the field of the goal that the search left
  module _ (goal : ℕ) (dist : List ℕ) (f : IsFloor m goal) (same : SameWalls blank dist) (levels : AreLevels dist s (place m.width s goal)) where
    pub laid_out : IsLaidOut m.height m.width s dist
    laid_out = record {
      wide = wide m goal form f;
      apart = p.apart;
      few = (let few = few_cells m form in omega (arith, few, form.covered));
      small = omega (arith, p.small, same.len);
      size = same.len ∙ p.size;
    }

    floor_open : (c : ℕ) → IsFloor m c → IsOpen dist (place m.width s c)
    floor_open c at = same.kept (place m.width s c) (blank_open c at)

    open_floor : (c : ℕ) → c < m.height * m.width → slice_index dist (place m.width s c) ≢ 4294967294 → IsFloor m c
    open_floor c below ne =
        let cell = p.only (place m.width s c) (same.no_more (place m.width s c) (in_list m.height m.width s c dist laid_out below, ne)) in
        let is : c ≡ cell.1 = place_once m.width s c cell.1 laid_out.wide p.apart cell.3 in
        subst (IsFloor m) (sym is) cell.2

    only_goal : (v : ℕ) → IsFloor m v → slice_index dist (place m.width s v) ≡ 0 → v ≡ goal
    only_goal v at e = place_once m.width s v goal laid_out.wide p.apart (levels.only (place m.width s v) (floor_open v at) e)

    back : (v d : ℕ) → IsFloor m v → slice_index dist (place m.width s v) ≢ 4294967295 → slice_index dist (place m.width s v) ≡ d + 1
        → (u : ℕ) × IsNeighbour m v u × (slice_index dist (place m.width s u) ≡ d)
    back v d at near e =
        let step = levels.back (place m.width s v) d (floor_open v at) near e in
        let cell = p.only step.0 (same.no_more step.0 step.1.to) in
        let beside : IsBeside s (place m.width s v) (place m.width s cell.1) = subst (IsBeside s (place m.width s v)) cell.3 step.1.side in
        let side = side_of m.width s v cell.1 laid_out.wide p.apart beside in
        (cell.1, (side.0, record { from = at; to = cell.2; beside = side.1 }), ap (slice_index dist) (sym cell.3) ∙ step.2)

    onward : (v u : ℕ) → IsNeighbour m v u → slice_index dist (place m.width s u) ≢ 4294967295
        → slice_index dist (place m.width s v) ≤ slice_index dist (place m.width s u) + 1
    onward v u n near = levels.onward (place m.width s u) (place m.width s v)
        (record { from = floor_open u n.1.to; to = floor_open v n.1.from; side = beside_back s (place m.width s v) (place m.width s u) (places_beside m.width s n.0 v u laid_out.wide n.1.beside) }) near

    low : (c : ℕ) → IsFloor m c → slice_index dist (place m.width s c) ≢ 4294967295 → slice_index dist (place m.width s c) ≤ length dist
    low c at near = levels.low (place m.width s c) (floor_open c at) near

    near_distance : (v : ℕ) → v < m.height * m.width → slice_index dist (place m.width s v) < 4294967294 → IsDistance (IsNeighbour m) v goal (slice_index dist (place m.width s v))
    near_distance v below less = is_distance (IsNeighbour m) (IsFloor m) (λ c. slice_index dist (place m.width s c)) goal (length dist) laid_out.small
        (λ a b n. n.1.to) levels.start.1 only_goal back onward low v (open_floor v below (λ e. omega (arith, e, less))) (λ e. omega (arith, e, less))

    not_floor_apart : (v : ℕ) → (IsFloor m v → ⊥) → AreApart (IsNeighbour m) v goal
    not_floor_apart v off [] x = off (subst (IsFloor m) (sym x) f)
    not_floor_apart v off (c ∷ cs) x = off x.0.1.from

    far_apart : (v : ℕ) → IsFloor m v → slice_index dist (place m.width s v) ≡ 4294967295 → AreApart (IsNeighbour m) v goal
    far_apart = is_apart (IsNeighbour m) (IsFloor m) (λ c. slice_index dist (place m.width s c)) goal (length dist) laid_out.small
        (λ a b n. n.1.to) levels.start.1 only_goal back onward low

    high_apart : (v : ℕ) → v < m.height * m.width → 4294967294 ≤ slice_index dist (place m.width s v) → AreApart (IsNeighbour m) v goal
    high_apart v below high = elim (cases_eq (slice_index dist (place m.width s v)) 4294967294) [
      | inl e ↦ not_floor_apart v (λ at. (floor_open v at).1 e)
      | inr ne ↦ elim (cases_eq (slice_index dist (place m.width s v)) 4294967295) [
        | inl far ↦ far_apart v (open_floor v below ne) far
        | inr near ↦ absurd (let l = levels.low (place m.width s v) (in_list m.height m.width s v dist laid_out below, ne) near in omega (arith, l, high, laid_out.small))
      ]
    ]

    each : (c : ℕ) → MatchOption (get_or (aways m.height m.width s dist) c None) (AreApart (IsNeighbour m) c goal) (λ d. IsDistance (IsNeighbour m) c goal d)
    each c = elim (cases_lt c (m.height * m.width)) [
      | inl below ↦ elim (cases_lt (slice_index dist (place m.width s c)) 4294967294) [
        | inl near ↦ subst (λ (o : Option ℕ). MatchOption o (AreApart (IsNeighbour m) c goal) (λ d. IsDistance (IsNeighbour m) c goal d))
            (sym (away_in m.height m.width s c dist below ∙ away_near (slice_index dist (place m.width s c)) near)) (near_distance c below near)
        | inr far ↦ subst (λ (o : Option ℕ). MatchOption o (AreApart (IsNeighbour m) c goal) (λ d. IsDistance (IsNeighbour m) c goal d))
            (sym (away_in m.height m.width s c dist below ∙ away_far (slice_index dist (place m.width s c)) far)) (high_apart c below far)
      ]
      | inr past ↦ subst (λ (o : Option ℕ). MatchOption o (AreApart (IsNeighbour m) c goal) (λ d. IsDistance (IsNeighbour m) c goal d))
          (sym (away_out m.height m.width s c dist past)) (not_floor_apart c (λ at. (let b = below_all c at in omega (arith, b, past))))
    ]

    pub is_field : IsField m goal (aim_of goal (aways m.height m.width s dist))
    is_field = record { goal = refl; covers = aways_len m.height m.width s dist ∙ sym form.covered; each = each; opens = λ cell exits at none. absurd (cc (none)) }

-- the same, where the sides were read from the grid
pub made : (m : Floor) (h w s goal start : ℕ) (blank dist : List ℕ) → h ≡ m.height → w ≡ m.width → HasForm m → IsPadded m s blank → IsFloor m goal → SameWalls blank dist → start ≡ place w s goal → AreLevels dist s start
    → IsLaidOut h w s dist × IsField m goal (aim_of goal (aways h w s dist))
made m h w s goal start blank dist eh ew form p f same es levels =
    let l : AreLevels dist s (place m.width s goal) = subst (λ (x : ℕ). AreLevels dist s (place x s goal)) ew (subst (AreLevels dist s) es levels) in
    subst (λ (x : ℕ). IsLaidOut x w s dist × IsField m goal (aim_of goal (aways x w s dist))) (sym eh)
    (subst (λ (y : ℕ). IsLaidOut m.height y s dist × IsField m goal (aim_of goal (aways m.height y s dist))) (sym ew)
    (laid_out m s blank form p goal dist f same l, is_field m s blank form p goal dist f same l))
