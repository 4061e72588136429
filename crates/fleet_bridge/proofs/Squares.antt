-- An edge next to a square of floor lies on a ring of four cells, and so is no bridge.
use Rattle.std.proofs.Common.{◌≡◌, ◌≢◌, ℕ, ◌+◌, ◌*◌, ◌/◌, ◌<◌, ◌≤◌, ◌⊎◌, inl, inr, List, length, Bool, true, false, ◌||◌, refl, sym, ap, subst, ◌∙◌, arith}
use Rattle.std.specs.Prelude.{slice_index}
use Rattle.std.proofs.lemmas.Nat.{mod_below, div_below, mul-le}
use Rattle.fleet_grid.specs.declared.dir.Dir.{Dir}
use Rattle.fleet_grid.specs.declared.dir.Dir.TheVariants.{East, South}
use Rattle.fleet_grid.specs.Floor.{Floor, HasForm, IsFloor, IsNeighbour, IsNeighbourIn}
use Rattle.fleet_grid.specs.Padded.{IsOpen, IsPadded, place}
use Rattle.fleet_grid.specs.Walk.{Besides, AreJoined, IsBridge}
use Rattle.fleet_grid.proofs.Edges.{neighbour_back}
use Rattle.fleet_grid.proofs.Forms.{floor_inside, wide}
use Rattle.fleet_grid.proofs.Places.{place_inside, east_on, south_on, east_back, south_back}
use Rattle.fleet_bridge.specs.inside.Places.{IsSquare, HasNoneAt, HasNoneBesideAt}
use Rattle.fleet_bridge.proofs.Joins.{joined_on, joined_by}
use Rattle.fleet_bridge.proofs.Rounds.{from_none}

-- round the other three edges of a ring of four
pub ring : (Near : ℕ → ℕ → Type 0) (a b c d : ℕ) → Near a c → Near c d → Near d b → a ≢ b → c ≢ a → c ≢ b → d ≢ a → AreJoined (Besides Near a b) a b
ring Near a b c d ac cd db ab ca cb da =
    let R = Besides Near a b in
    joined_on R a c b (joined_by R a c (record { near = ac; there = λ p q. cb q; back = λ p q. ab p }))
    (joined_on R c d b (joined_by R c d (record { near = cd; there = λ p q. ca p; back = λ p q. cb p }))
    (joined_by R d b (record { near = db; there = λ p q. da p; back = λ p q. ab (sym q) })))

-- the place of a cell has a row and a place more after it
pub more_behind : (h w s c : ℕ) → 0 < w → w < s → c < h * w → place w s c + s + 1 < (h + 2) * s
more_behind h w s c pos apart below =
    let row : c / w < h = div_below c w h pos below in
    let col = mod_below c w pos in
    let more : (c / w + 1) * s ≤ h * s = mul-le (c / w + 1) s h s (omega (arith, row)) (omega arith) in
    let e : (h + 2) * s ≡ h * s + s + s = omega arith in
    omega (arith, more, col, apart, e)

module _ (m : Floor) (s : ℕ) (list : List ℕ) (form : HasForm m) (p : IsPadded m s list) where
  -- two floor cells whose places lie side by side
  east_by : (a b : ℕ) → IsFloor m a → IsFloor m b → place m.width s b ≡ place m.width s a + 1 → IsNeighbourIn m East a b
  east_by a b f g e = record { from = f; to = g; beside = east_back m.width s a b (wide m a form f) p.apart e }

  south_by : (a b : ℕ) → IsFloor m a → IsFloor m b → place m.width s b ≡ place m.width s a + s → IsNeighbourIn m South a b
  south_by a b f g e = record { from = f; to = g; beside = south_back m.width s a b (wide m a form f) p.apart e }

  east_place : (a b : ℕ) → IsNeighbourIn m East a b → place m.width s b ≡ place m.width s a + 1
  east_place a b n = east_on m.width s a b (wide m a form n.from) n.beside.0 n.beside.1

  south_place : (a b : ℕ) → IsNeighbourIn m South a b → place m.width s b ≡ place m.width s a + s
  south_place a b n = south_on m.width s a b (wide m a form n.from) n.beside

  other : (a b : ℕ) → place m.width s a ≢ place m.width s b → a ≢ b
  other a b ne e = ne (ap (place m.width s) e)

  -- a ring of four whose places are these
  no_bridge : (a b c d : ℕ) → IsNeighbour m a c → IsNeighbour m c d → IsNeighbour m d b
      → place m.width s a ≢ place m.width s b → place m.width s c ≢ place m.width s a → place m.width s c ≢ place m.width s b → place m.width s d ≢ place m.width s a
      → IsBridge (IsNeighbour m) a b → ⊥
  no_bridge a b c d ac cd db ab ca cb da bridge = bridge.alone (ring (IsNeighbour m) a b c d ac cd db (other a b ab) (other c a ca) (other c b cb) (other d a da))

  east_below : (a b : ℕ) → IsNeighbourIn m East a b → IsSquare list s (place m.width s a) → IsBridge (IsNeighbour m) a b → ⊥
  east_below a b n q =
      let pos = wide m a form n.from in
      let apart = p.apart in
      let c = p.only (place m.width s a + s) q.south in
      let d = p.only (place m.width s a + s + 1) q.last in
      let at_b = east_place a b n in
      let at_c = c.3 in
      let at_d = d.3 in
      let ac = south_by a c.1 n.from c.2 (omega (arith, at_c)) in
      let cd = east_by c.1 d.1 c.2 d.2 (omega (arith, at_c, at_d)) in
      let bd = south_by b d.1 n.to d.2 (omega (arith, at_b, at_d)) in
      no_bridge a b c.1 d.1 (South, ac) (East, cd) (neighbour_back m b d.1 (South, bd))
      (omega (arith, at_b)) (omega (arith, at_c, pos, apart)) (omega (arith, at_b, at_c, pos, apart)) (omega (arith, at_d))

  east_above : (a b v : ℕ) → place m.width s a ≡ v + s → IsNeighbourIn m East a b → IsSquare list s v → IsBridge (IsNeighbour m) a b → ⊥
  east_above a b v e n q =
      let pos = wide m a form n.from in
      let apart = p.apart in
      let c = p.only v q.first in
      let d = p.only (v + 1) q.east in
      let at_b = east_place a b n in
      let at_c = c.3 in
      let at_d = d.3 in
      let ca = south_by c.1 a c.2 n.from (omega (arith, e, at_c)) in
      let cd = east_by c.1 d.1 c.2 d.2 (omega (arith, at_c, at_d)) in
      let db = south_by d.1 b d.2 n.to (omega (arith, e, at_b, at_d)) in
      no_bridge a b c.1 d.1 (neighbour_back m c.1 a (South, ca)) (East, cd) (South, db)
      (omega (arith, at_b)) (omega (arith, e, at_c, pos, apart)) (omega (arith, e, at_b, at_c)) (omega (arith, e, at_d, pos, apart))

  south_right : (a b : ℕ) → IsNeighbourIn m South a b → IsSquare list s (place m.width s a) → IsBridge (IsNeighbour m) a b → ⊥
  south_right a b n q =
      let pos = wide m a form n.from in
      let apart = p.apart in
      let c = p.only (place m.width s a + 1) q.east in
      let d = p.only (place m.width s a + s + 1) q.last in
      let at_b = south_place a b n in
      let at_c = c.3 in
      let at_d = d.3 in
      let ac = east_by a c.1 n.from c.2 (omega (arith, at_c)) in
      let cd = south_by c.1 d.1 c.2 d.2 (omega (arith, at_c, at_d)) in
      let bd = east_by b d.1 n.to d.2 (omega (arith, at_b, at_d)) in
      no_bridge a b c.1 d.1 (East, ac) (South, cd) (neighbour_back m b d.1 (East, bd))
      (omega (arith, at_b, pos, apart)) (omega (arith, at_c)) (omega (arith, at_b, at_c, pos, apart)) (omega (arith, at_d))

  south_left : (a b v : ℕ) → place m.width s a ≡ v + 1 → IsNeighbourIn m South a b → IsSquare list s v → IsBridge (IsNeighbour m) a b → ⊥
  south_left a b v e n q =
      let pos = wide m a form n.from in
      let apart = p.apart in
      let c = p.only v q.first in
      let d = p.only (v + s) q.south in
      let at_b = south_place a b n in
      let at_c = c.3 in
      let at_d = d.3 in
      let ca = east_by c.1 a c.2 n.from (omega (arith, e, at_c)) in
      let cd = south_by c.1 d.1 c.2 d.2 (omega (arith, at_c, at_d)) in
      let db = east_by d.1 b d.2 n.to (omega (arith, e, at_b, at_d)) in
      no_bridge a b c.1 d.1 (neighbour_back m c.1 a (East, ca)) (South, cd) (East, db)
      (omega (arith, at_b, pos, apart)) (omega (arith, e, at_c)) (omega (arith, e, at_b, at_c)) (omega (arith, e, at_d, pos, apart))

  -- where no floor is no edge ends
  none_east_wall : (v : ℕ) → slice_index list (v + 1) ≢ 4294967295 → HasNoneBesideAt m s v East
  none_east_wall v wall c at b n bridge =
      let on = east_place c b n in
      wall (ap (slice_index list) (omega (arith, at, on)) ∙ p.each b n.to)

  none_south_wall : (v : ℕ) → slice_index list (v + s) ≢ 4294967295 → HasNoneBesideAt m s v South
  none_south_wall v wall c at b n bridge =
      let on = south_place c b n in
      wall (ap (slice_index list) (omega (arith, at, on)) ∙ p.each b n.to)

  none_east_below : (v : ℕ) → IsSquare list s v → HasNoneBesideAt m s v East
  none_east_below v q c at b n = east_below c b n (subst (IsSquare list s) at q)

  none_east_above : (v u : ℕ) → v ≡ u + s → IsSquare list s u → HasNoneBesideAt m s v East
  none_east_above v u e q c at b n = east_above c b u (sym at ∙ e) n q

  none_south_right : (v : ℕ) → IsSquare list s v → HasNoneBesideAt m s v South
  none_south_right v q c at b n = south_right c b n (subst (IsSquare list s) at q)

  none_south_left : (v u : ℕ) → v ≡ u + 1 → IsSquare list s u → HasNoneBesideAt m s v South
  none_south_left v u e q c at b n = south_left c b u (sym at ∙ e) n q

  none_beside_wall : (v : ℕ) (dir : Dir) → slice_index list v ≢ 4294967295 → HasNoneBesideAt m s v dir
  none_beside_wall v dir wall c at b n bridge = wall (ap (slice_index list) at ∙ p.each c n.from)

  -- what is left of an edge that is not bare
  pub none_east : (v u : ℕ) → v ≡ u + s → ((slice_index list v ≢ 4294967295) ⊎ (slice_index list (v + 1) ≢ 4294967295)) ⊎ (IsSquare list s v ⊎ IsSquare list s u) → HasNoneBesideAt m s v East
  none_east v u e (inl (inl wall)) = none_beside_wall v East wall
  none_east v u e (inl (inr wall)) = none_east_wall v wall
  none_east v u e (inr (inl q)) = none_east_below v q
  none_east v u e (inr (inr q)) = none_east_above v u e q

  pub none_south : (v u : ℕ) → v ≡ u + 1 → ((slice_index list v ≢ 4294967295) ⊎ (slice_index list (v + s) ≢ 4294967295)) ⊎ (IsSquare list s v ⊎ IsSquare list s u) → HasNoneBesideAt m s v South
  none_south v u e (inl (inl wall)) = none_beside_wall v South wall
  none_south v u e (inl (inr wall)) = none_south_wall v wall
  none_south v u e (inr (inl q)) = none_south_right v q
  none_south v u e (inr (inr q)) = none_south_left v u e q

  pub none_at : (v : ℕ) → HasNoneBesideAt m s v East → HasNoneBesideAt m s v South → HasNoneAt m s v
  none_at v east south c at = from_none m c form (east c at) (south c at)

  -- an open place lies in the list with its neighbours
  pub open_inside : (v : ℕ) → IsOpen list v → (s ≤ v) × (1 ≤ v) × (v + s + 1 < length list)
  open_inside v o =
      let c = p.only v o in
      let pos = wide m c.1 form c.2 in
      let below : c.1 < m.height * m.width = omega (arith, floor_inside m c.1 c.2, form.covered) in
      let i = place_inside m.height m.width s c.1 pos p.apart below in
      let j = more_behind m.height m.width s c.1 pos p.apart below in
      let at = c.3 in
      let apart = p.apart in
      (omega (arith, i.0, at), omega (arith, i.0, at, pos, apart), omega (arith, j, at, p.size))

-- where one of two is not so, neither is
pub neither : (a b : Bool) → (a || b) ≡ false → (a ≡ false) × (b ≡ false)
neither true b e = absurd (cc e)
neither false b e = (refl, e)
