-- Steps from spot to spot, and the spot of a place.
use Rattle.std.proofs.Common.{◌≡◌, ◌≢◌, ℕ, ◌+◌, ◌-◌, ◌*◌, ◌/◌, ◌%◌, ◌<◌, ◌≤◌, inl, inr, List, length, refl, sym, ap, subst, ◌∙◌, arith}
use Rattle.std.specs.Prelude.{slice_index}
use Rattle.std.proofs.lemmas.Nat.{div-mul-add, mod-mul-add, div-add-mod', mod_below, mul-le}
use Rattle.std.proofs.lemmas.Bool.{cases_order}
use Rattle.fleet_grid.specs.declared.dir.Dir.{Dir}
use Rattle.fleet_grid.specs.declared.dir.Dir.TheVariants.{North, East, South, West}
use Rattle.fleet_grid.specs.Floor.{Floor, HasForm, IsFloor, IsNeighbour, IsNeighbourIn, cell_across}
use Rattle.fleet_grid.specs.Padded.{IsOpen, IsPadded, place}
use Rattle.fleet_grid.specs.Walk.{AreJoined, IsBridgeless}
use Rattle.fleet_grid.proofs.Edges.{beside_once}
use Rattle.fleet_grid.proofs.Forms.{floor_inside, wide, few_cells}
use Rattle.fleet_grid.proofs.Places.{place_inside, place_once, east_on, south_on, east_back, south_back}
use Rattle.fleet_bridge.specs.inside.First.{HasNoneBeside, HasNone, HasNoneBelow}
use Rattle.fleet_bridge.specs.inside.Search.{NearWithout}
use Rattle.fleet_bridge.specs.inside.Places.{IsSpot, IsStep, IsOnWay, HasNoneAt, place_across}
use Rattle.fleet_bridge.specs.declared.places.Spot.{Spot}
use Rattle.fleet_bridge.proofs.Joins.{joined_on, joined_by, joined_same, joined_back, besides_back}
use Rattle.fleet_bridge.proofs.Rounds.{none_is, near_turn}
use Rattle.fleet_bridge.proofs.Squares.{open_inside}

-- the row and the column of a place are those of its cell
pub row_of : (w s c : ℕ) → 0 < w → w < s → place w s c / s ≡ c / w + 1
row_of w s c pos apart = let col = mod_below c w pos in div-mul-add (c / w + 1) s (c % w) (omega (arith, col, apart))

pub column_of : (w s c : ℕ) → 0 < w → w < s → place w s c % s ≡ c % w
column_of w s c pos apart = let col = mod_below c w pos in mod-mul-add (c / w + 1) s (c % w) (omega (arith, col, apart))

pub cell_of : (w c : ℕ) → c / w * w + c % w ≡ c
cell_of w c = div-add-mod' c w

-- cells in order have their places in order
pub place_before : (w s a b : ℕ) → 0 < w → w < s → a < b → place w s a < place w s b
place_before w s a b pos apart less =
    let x = mod_below a w pos in
    let y = mod_below b w pos in
    let p = div-add-mod' a w in
    let q = div-add-mod' b w in
    elim (cases_order (a / w) (b / w)) [
      | inl e ↦ (let f : a / w * w ≡ b / w * w = ap (λ (r : ℕ). r * w) e in
          let g : (a / w + 1) * s ≡ (b / w + 1) * s = ap (λ (r : ℕ). (r + 1) * s) e in
          omega (arith, f, g, p, q, less))
      | inr (inl up) ↦ (let g : (a / w + 1 + 1) * s ≤ (b / w + 1) * s = mul-le (a / w + 1 + 1) s (b / w + 1) s (omega arith) (omega arith) in
          let h : (a / w + 1 + 1) * s ≡ (a / w + 1) * s + s = omega arith in
          omega (arith, g, h, x, apart))
      | inr (inr down) ↦ (let g : (b / w + 1) * w ≤ a / w * w = mul-le (b / w + 1) w (a / w) w (omega arith) (omega arith) in
          let h : (b / w + 1) * w ≡ b / w * w + w = omega arith in
          absurd (omega (arith, g, h, p, q, y, less)))
    ]

module _ (m : Floor) (s : ℕ) (list : List ℕ) (form : HasForm m) (p : IsPadded m s list) where
  open_at : (v : ℕ) → v < length list → slice_index list v ≡ 4294967295 → IsOpen list v
  open_at v below e = (below, λ x. omega (arith, e, x))

  spot_open : (c v : ℕ) → IsFloor m c → v ≡ place m.width s c → IsOpen list v
  spot_open c v f at =
      let below : c < m.height * m.width = omega (arith, floor_inside m c f, form.covered) in
      let i = place_inside m.height m.width s c (wide m c form f) p.apart below in
      open_at v (omega (arith, i.1, at, p.size)) (ap (slice_index list) at ∙ p.each c f)

  pub spot_inside : (c v : ℕ) → IsFloor m c → v ≡ place m.width s c → (s ≤ v) × (1 ≤ v) × (v + s + 1 < length list)
  spot_inside c v f at = open_inside m s list form p v (spot_open c v f at)

  pub across_inside : (dir : Dir) (c v : ℕ) → IsFloor m c → v ≡ place m.width s c → place_across s v dir < length list
  across_inside North c v f at = (let i = spot_inside c v f at in omega (arith, i))
  across_inside East c v f at = (let i = spot_inside c v f at in let o = spot_open c v f at in let apart = p.apart in omega (arith, i, apart))
  across_inside South c v f at = (let i = spot_inside c v f at in omega (arith, i))
  across_inside West c v f at = (let i = spot_inside c v f at in omega (arith, i))

  moved : (dir : Dir) (c u x y : ℕ) → y ≡ x → IsNeighbourIn m dir c x → u ≡ place m.width s x → IsNeighbourIn m dir c y × (u ≡ place m.width s y)
  moved dir c u x y e n at = subst (λ (z : ℕ). IsNeighbourIn m dir c z × (u ≡ place m.width s z)) (sym e) (n, at)

  -- what lies on a side
  pub found_across : (dir : Dir) (c v : ℕ) → IsFloor m c → v ≡ place m.width s c → slice_index list (place_across s v dir) ≡ 4294967295
      → IsNeighbourIn m dir c (cell_across m.width c dir) × (place_across s v dir ≡ place m.width s (cell_across m.width c dir))
  found_across North c v f at far =
      let i = spot_inside c v f at in
      let x = p.only (v - s) (open_at (v - s) (omega (arith, i.2)) far) in
      let side = south_back m.width s x.1 c (wide m c form f) p.apart (omega (arith, at, x.3, i.0)) in
      moved North c (v - s) x.1 (c - m.width) (omega (arith, side)) (record { from = f; to = x.2; beside = side }) x.3
  found_across East c v f at far =
      let i = spot_inside c v f at in
      let x = p.only (v + 1) (open_at (v + 1) (omega (arith, i.2)) far) in
      let side = east_back m.width s c x.1 (wide m c form f) p.apart (omega (arith, at, x.3)) in
      moved East c (v + 1) x.1 (c + 1) side.0 (record { from = f; to = x.2; beside = side }) x.3
  found_across South c v f at far =
      let i = spot_inside c v f at in
      let x = p.only (v + s) (open_at (v + s) (omega (arith, i.2)) far) in
      let side = south_back m.width s c x.1 (wide m c form f) p.apart (omega (arith, at, x.3)) in
      moved South c (v + s) x.1 (c + m.width) side (record { from = f; to = x.2; beside = side }) x.3
  found_across West c v f at far =
      let i = spot_inside c v f at in
      let x = p.only (v - 1) (open_at (v - 1) (omega (arith, i.2)) far) in
      let side = east_back m.width s x.1 c (wide m c form f) p.apart (omega (arith, at, x.3, i.1)) in
      moved West c (v - 1) x.1 (c - 1) (omega (arith, side.0)) (record { from = f; to = x.2; beside = side }) x.3

  across_place : (dir : Dir) (c v b : ℕ) → v ≡ place m.width s c → IsNeighbourIn m dir c b → place_across s v dir ≡ place m.width s b
  across_place North c v b at n = (let e = south_on m.width s b c (wide m c form n.from) n.beside in omega (arith, at, e))
  across_place East c v b at n = (let e = east_on m.width s c b (wide m c form n.from) n.beside.0 n.beside.1 in omega (arith, at, e))
  across_place South c v b at n = (let e = south_on m.width s c b (wide m c form n.from) n.beside in omega (arith, at, e))
  across_place West c v b at n = (let e = east_on m.width s b c (wide m c form n.from) n.beside.0 n.beside.1 in omega (arith, at, e))

  pub none_across : (dir : Dir) (c v b : ℕ) → v ≡ place m.width s c → slice_index list (place_across s v dir) ≢ 4294967295 → IsNeighbourIn m dir c b → ⊥
  none_across dir c v b at wall n = wall (ap (slice_index list) (across_place dir c v b at n) ∙ p.each b n.to)

  pub step_found : (width : ℕ) (dir : Dir) (spot next : Spot) → width ≡ m.width → IsSpot m s spot
      → next.cell ≡ cell_across width spot.cell dir → next.place ≡ place_across s spot.place dir → slice_index list next.place ≡ 4294967295
      → IsStep m s dir spot.cell next
  step_found width dir spot next w here cell_is place_is far =
      let found = found_across dir spot.cell spot.place here.floor here.at (sym (ap (slice_index list) place_is) ∙ far) in
      let e : next.cell ≡ cell_across m.width spot.cell dir = cell_is ∙ ap (λ (x : ℕ). cell_across x spot.cell dir) w in
      let there = moved dir spot.cell (place_across s spot.place dir) (cell_across m.width spot.cell dir) next.cell e found.0 found.1 in
      record { near = there.0; spot = record { floor = there.0.to; at = place_is ∙ there.1 } }

  -- the cell at a place is that of its spot
  pub none_of_spot : (v : ℕ) (spot : Spot) → spot.place ≡ v → IsSpot m s spot → HasNone m spot.cell → HasNoneAt m s v
  none_of_spot v spot e here none c at =
      let same = place_once m.width s spot.cell c (wide m spot.cell form here.floor) p.apart (sym here.at ∙ (e ∙ at)) in
      subst (HasNone m) same none

  -- the spots before a place
  pub none_before : (n : ℕ) (spot : Spot) → ((v : ℕ) → v < n → HasNoneAt m s v) → spot.place ≡ n → IsSpot m s spot → HasNoneBelow m spot.cell
  none_before n spot none e here c less d lt bridge =
      let before = place_before m.width s c spot.cell (wide m spot.cell form here.floor) p.apart less in
      none (place m.width s c) (omega (arith, before, here.at, e)) c refl d lt bridge

  pub none_in_list : (n : ℕ) → length list ≤ n + s + 1 → ((v : ℕ) → v < n → HasNoneAt m s v) → IsBridgeless (IsNeighbour m)
  none_in_list n all none =
      none_is m (length m.letters) form (omega arith)
      (λ c less d lt bridge. (let i = spot_inside c (place m.width s c) bridge.edge.1.from refl in
      none (place m.width s c) (omega (arith, i.2, all)) c refl d lt bridge))

  -- no cell lies before the first row
  pub none_above : (v : ℕ) → v < s → HasNoneAt m s v
  none_above v less c at d lt bridge = (let i = spot_inside c v bridge.edge.1.from at in absurd (omega (arith, i.0, less)))

  -- the spot of a place
  pub spot_of : (width v : ℕ) → width ≡ m.width → IsOpen list v → (c : ℕ) × IsFloor m c × (v ≡ place m.width s c) × (0 < s) × (v / s ≡ c / width + 1) × (v % s ≡ c % width) × (c / width * width + c % width ≡ c) × (c < 1048577)
  spot_of width v w o =
      let x = p.only v o in
      let c = x.1 in
      let pos = wide m c form x.2 in
      let e : v / s ≡ c / m.width + 1 = ap (λ (u : ℕ). u / s) x.3 ∙ row_of m.width s c pos p.apart in
      let f : v % s ≡ c % m.width = ap (λ (u : ℕ). u % s) x.3 ∙ column_of m.width s c pos p.apart in
      let small : c < 1048577 = omega (arith, floor_inside m c x.2, few_cells m form) in
      let some : 0 < s = omega (arith, pos, p.apart) in
      rw w (c, x.2, x.3, some, e, f, cell_of m.width c, small)

  -- its row, and the numbers on the way to its cell
  pub spot_fits : (width v : ℕ) → width ≡ m.width → IsOpen list v → (0 < s) × (1 ≤ v / s) × ((v / s - 1) * width < 1048577) × ((v / s - 1) * width + v % s < 1048577)
  spot_fits width v w o =
      let x = spot_of width v w o in
      let row : v / s - 1 ≡ x.0 / width = omega (arith, x.4) in
      let rows : (v / s - 1) * width ≡ x.0 / width * width = ap (λ (r : ℕ). r * width) row in
      (x.3, omega (arith, x.4), omega (arith, rows, x.6, x.7), omega (arith, rows, x.5, x.6, x.7))

  -- what lies around a spot is in the list, and a row around its cell is a number
  pub spot_around : (c v : ℕ) → IsFloor m c → v ≡ place m.width s c → (s ≤ v) × (1 ≤ v) × (v + s + 1 < 1073741824) × (c < 1048576) × (m.width ≤ 1024)
  spot_around c v f at =
      let i = spot_inside c v f at in
      (i.0, i.1, omega (arith, i.2, p.small), omega (arith, floor_inside m c f, few_cells m form), form.slim)

-- a walk that follows the walls

pub way_on : (m : Floor) (s from to : ℕ) (dir : Dir) (spot next : Spot) → IsOnWay m s from to spot → IsStep m s dir spot.cell next
    → (spot.cell ≡ from → next.cell ≡ to → ⊥) × (spot.cell ≡ to → next.cell ≡ from → ⊥) → IsOnWay m s from to next
way_on m s from to dir spot next way step other = record {
  here = step.spot;
  joined = joined_on (NearWithout m from to) to spot.cell next.cell way.joined
      (joined_by (NearWithout m from to) spot.cell next.cell (record { near = (dir, step.near); there = other.0; back = other.1 }));
}

pub way_begins : (m : Floor) (s from : ℕ) (to : Spot) → IsSpot m s to → IsOnWay m s from to.cell to
way_begins m s from to here = record { here = here; joined = joined_same (NearWithout m from to.cell) to.cell to.cell refl }

pub way_round : (m : Floor) (s from to : ℕ) (spot : Spot) → IsOnWay m s from to spot → spot.cell ≡ from → AreJoined (NearWithout m from to) from to
way_round m s from to spot way e =
    joined_back (NearWithout m from to) (besides_back (IsNeighbour m) (near_turn m) from to) to from
    (subst (AreJoined (NearWithout m from to) to) e way.joined)

pub none_round : (m : Floor) (s a : ℕ) (dir : Dir) (next : Spot) → IsStep m s dir a next → AreJoined (NearWithout m a next.cell) a next.cell → HasNoneBeside m a dir
none_round m s a dir next step round b n bridge =
    let e = beside_once m.width dir a b next.cell n.beside step.near.beside in
    bridge.alone (subst (λ (x : ℕ). AreJoined (NearWithout m a x) a x) (sym e) round)
