-- What a search from the far end of an edge shows of that side, and lists lowered one after another.
use Rattle.std.proofs.Common.{◌≡◌, ℕ, ◌+◌, ◌<◌, ◌≤◌, inl, inr, Bool, true, false, List, length, min, get_or, set, refl, sym, ap, subst, ◌∙◌, arith}
use Rattle.std.specs.Prelude.{slice_index, count_by, ◌↔◌}
use Rattle.std.proofs.lemmas.Bool.{cases_eq}
use Rattle.std.proofs.lemmas.List.{length-set, get_or-set_same, get_or-set_other}
use Rattle.fleet_grid.specs.Floor.{Floor, IsNeighbour, IsNeighbourIn}
use Rattle.fleet_grid.specs.declared.dir.Dir.{Dir}
use Rattle.fleet_grid.specs.declared.dir.Dir.TheVariants.{North, East, South, West}
use Rattle.fleet_grid.specs.Walk.{IsBridge, IsOnSide, HasSide}
use Rattle.fleet_grid.proofs.Edges.{beside_once}
use Rattle.fleet_grid.proofs.Forms.{floor_inside}
use Rattle.fleet_bridge.specs.Roominess.{AreRoomyFor}
use Rattle.fleet_bridge.specs.inside.Capped.{IsCapped, IsCappedBeside, IsCappedAround, IsCappedBelow}
use Rattle.fleet_bridge.specs.inside.Search.{NearWithout, IsMarked, IsReach}
use Rattle.fleet_bridge.proofs.Fronts.{reach_is}
use Rattle.fleet_bridge.proofs.Joins.{joined_back, besides_back}
use Rattle.fleet_bridge.proofs.Marks.{marks_many, marked_from, length-marked_from, marked_each, marked_rise}
use Rattle.fleet_bridge.proofs.Rounds.{near_turn, joined_turned, joined_other}

-- the side of `b` of the edge from `a` to `b`, as a search from `b` marks it
module _ (m : Floor) (a b : ℕ) (seen : List Bool) (edge : IsNeighbour m a b) (it : IsReach (NearWithout m b a) b seen) where
  on_side : (c : ℕ) → IsOnSide (IsNeighbour m) a b c → IsMarked seen c
  on_side c side = reach_is (NearWithout m b a) b seen it c (joined_other m a b b c side)

  pub no_bridge_marked : IsMarked seen a → IsBridge (IsNeighbour m) a b → ⊥
  no_bridge_marked marked bridge = bridge.alone (joined_turned m a b (it.joined a marked))

  pub bridge_unmarked : get_or seen a false ≡ false → IsBridge (IsNeighbour m) a b
  bridge_unmarked not_marked = record {
    edge = edge;
    alone = λ j. (let marked : get_or seen a false ≡ true = on_side a (joined_back (NearWithout m a b) (besides_back (IsNeighbour m) (near_turn m) a b) a b j) in absurd cc);
  }

  side_many : (n : ℕ) → HasSide (IsNeighbour m) a b n → n ≤ count_by (λ s. s) seen
  side_many n side = omega (arith, side.many, marks_many seen side.cells side.apart (λ i inner. on_side (slice_index side.cells i) (side.inside i inner)))

  many_side : (n : ℕ) → n ≤ count_by (λ s. s) seen → HasSide (IsNeighbour m) a b n
  many_side n le = record {
    cells = marked_from seen 0;
    many = omega (arith, length-marked_from seen 0);
    apart = λ i j less inner same. (let rise = marked_rise seen 0 i j less inner in absurd (omega (arith, rise, same)));
    inside = λ i inner. (
        let at = marked_each seen 0 i inner in
        let e : at.0 ≡ slice_index (marked_from seen 0) i = omega (arith, at.1) in
        subst (IsOnSide (IsNeighbour m) a b) e (joined_other m b a b at.0 (it.joined at.0 at.2)));
  }

  -- lowering the marked cells to their number lowers by that bridge
  pub capped_side : (dir : Dir) (old new : List ℕ) → IsNeighbourIn m dir a b → length old ≡ length m.letters → get_or seen a false ≡ false
      → IsCapped (IsMarked seen) (count_by (λ s. s) seen) old new → IsCappedBeside m a dir old new
  capped_side dir old new n size not_marked capped = record {
    same = capped.same;
    each = λ c k small. (
        let by = capped.each c k (omega (arith, small, size)) in (
          λ le. (
              let both = by.0 le in (
                both.0,
                λ x y at bridge side.
                    (let e : b ≡ y = beside_once m.width dir a b y n.beside (subst (λ (z : ℕ). IsNeighbourIn m dir z y) at.0 at.1).beside in
                    let side' : IsOnSide (IsNeighbour m) a b c = subst (λ (z : ℕ). IsOnSide (IsNeighbour m) a z c) (sym e) (subst (λ (z : ℕ). IsOnSide (IsNeighbour m) z y c) at.0 side) in
                    subst (λ (z : ℕ). HasSide (IsNeighbour m) z y k) (sym at.0) (subst (λ (z : ℕ). HasSide (IsNeighbour m) a z k) e (many_side k (both.1 (on_side c side'))))),
              )),
          λ both. by.1 (
            both.0,
            λ marked.
                side_many k (both.1 a b (refl, n) (bridge_unmarked not_marked) (joined_other m b a b c (it.joined c marked))),
          ),
        ));
  }

-- the edge in a direction is no bridge if the search comes around it
pub not_beside : (m : Floor) (a b : ℕ) (seen : List Bool) (dir : Dir) → IsNeighbourIn m dir a b → IsReach (NearWithout m b a) b seen → IsMarked seen a → (y : ℕ) → IsNeighbourIn m dir a y → IsBridge (IsNeighbour m) a y → ⊥
not_beside m a b seen dir n it marked y at bridge =
    let e : y ≡ b = beside_once m.width dir a y b at.beside n.beside in
    no_bridge_marked m a b seen (dir, n) it marked (subst (IsBridge (IsNeighbour m) a) e bridge)

-- where there is no bridge nothing is lowered
pub capped_none : (m : Floor) (a : ℕ) (dir : Dir) (list : List ℕ) → ((b : ℕ) → IsNeighbourIn m dir a b → IsBridge (IsNeighbour m) a b → ⊥) → IsCappedBeside m a dir list list
capped_none m a dir list none = record {
  same = refl;
  each = λ c k small. (
    λ le. (le, λ x y at bridge side. absurd (none y (subst (λ (z : ℕ). IsNeighbourIn m dir z y) at.0 at.1) (subst (λ (z : ℕ). IsBridge (IsNeighbour m) z y) at.0 bridge))),
    λ both. both.0,
  );
}

-- the first cells of a list are lowered where they are marked
pub record IsCappedTo (seen : List Bool) (size : ℕ) (old list : List ℕ) (cell : ℕ) : Type 0 where
  pub same : length list ≡ length old
  pub done : (c n : ℕ) → c < cell → (n ≤ slice_index list c) ↔ ((n ≤ slice_index old c) × (IsMarked seen c → n ≤ size))
  pub rest : (c : ℕ) → cell ≤ c → slice_index list c ≡ slice_index old c

pub capped_to_begin : (seen : List Bool) (size : ℕ) (old : List ℕ) → IsCappedTo seen size old old 0
capped_to_begin seen size old = record { same = refl; done = λ c n less. absurd (omega (arith, less)); rest = λ c le. refl }

pub capped_to_marked : (seen : List Bool) (size : ℕ) (old list : List ℕ) (cell : ℕ) → cell < length list → IsMarked seen cell → IsCappedTo seen size old list cell
    → IsCappedTo seen size old (set list cell (min (slice_index list cell) size)) (cell + 1)
capped_to_marked seen size old list cell small marked it = record {
  same = length-set list cell (min (slice_index list cell) size) ∙ it.same;
  done = λ c n less. elim (cases_eq c cell) [
    | inl is ↦ (
        let here : get_or (set list cell (min (slice_index list cell) size)) c 0 ≡ min (slice_index list cell) size =
        ap (λ (k : ℕ). get_or (set list cell (min (slice_index list cell) size)) k 0) is ∙ get_or-set_same list cell (min (slice_index list cell) size) 0 small in
        let before : slice_index list cell ≡ slice_index old c = it.rest cell (omega arith) ∙ ap (slice_index old) (sym is) in (
          λ le. (omega (arith, le, here, before), λ mark. omega (arith, le, here, before)),
          λ both. (let most : n ≤ size = both.1 (subst (IsMarked seen) (sym is) marked) in omega (arith, both.0, most, here, before)),
        ))
    | inr ne ↦ (
        let here : get_or (set list cell (min (slice_index list cell) size)) c 0 ≡ slice_index list c = get_or-set_other list cell c (min (slice_index list cell) size) 0 ne in
        let done = it.done c n (omega (arith, less, ne)) in
        (λ le. done.0 (omega (arith, le, here)), λ both. (let le : n ≤ slice_index list c = done.1 both in omega (arith, le, here))))
  ];
  rest = λ c le. get_or-set_other list cell c (min (slice_index list cell) size) 0 (λ is. omega (arith, le, is)) ∙ it.rest c (omega (arith, le));
}

pub capped_to_other : (seen : List Bool) (size : ℕ) (old list : List ℕ) (cell : ℕ) → get_or seen cell false ≡ false → IsCappedTo seen size old list cell → IsCappedTo seen size old list (cell + 1)
capped_to_other seen size old list cell other it = record {
  same = it.same;
  done = λ c n less. elim (cases_eq c cell) [
    | inl is ↦ (
        let here : slice_index list c ≡ slice_index old c = it.rest c (omega (arith, is)) in
        let off : get_or seen c false ≡ false = ap (λ (k : ℕ). get_or seen k false) is ∙ other in
        (λ le. (omega (arith, le, here), λ mark. absurd (cc (mark, off))), λ both. omega (arith, both.0, here)))
    | inr ne ↦ it.done c n (omega (arith, less, ne))
  ];
  rest = λ c le. it.rest c (omega (arith, le));
}

pub capped_to_all : (seen : List Bool) (size : ℕ) (old list : List ℕ) (cell : ℕ) → length old ≤ cell → IsCappedTo seen size old list cell → IsCapped (IsMarked seen) size old list
capped_to_all seen size old list cell le it = record { same = it.same; each = λ c n small. it.done c n (omega (arith, small, le)) }

-- the four directions
pub capped_around : (m : Floor) (a : ℕ) (o1 o2 o3 o4 o5 : List ℕ) → IsCappedBeside m a North o1 o2 → IsCappedBeside m a East o2 o3 → IsCappedBeside m a South o3 o4 → IsCappedBeside m a West o4 o5
    → IsCappedAround m a o1 o5
capped_around m a o1 o2 o3 o4 o5 north east south west = record {
  same = west.same ∙ (south.same ∙ (east.same ∙ north.same));
  each = λ c k small. (
    λ le. (
        let w = (west.each c k small).0 le in
        let s = (south.each c k small).0 w.0 in
        let e = (east.each c k small).0 s.0 in
        let n = (north.each c k small).0 e.0 in
        let at : (x y : ℕ) → x ≡ a → (dir : Dir) → IsNeighbourIn m dir x y → IsBridge (IsNeighbour m) x y → IsOnSide (IsNeighbour m) x y c → HasSide (IsNeighbour m) x y k =
        λ x y is dir edge bridge side. elim dir as (λ (d : Dir). IsNeighbourIn m d x y → HasSide (IsNeighbour m) x y k) [
          | North ↦ λ edge. n.1 x y (is, edge) bridge side
          | East ↦ λ edge. e.1 x y (is, edge) bridge side
          | South ↦ λ edge. s.1 x y (is, edge) bridge side
          | West ↦ λ edge. w.1 x y (is, edge) bridge side
        ] edge in
        (n.0, λ x y is bridge side. at x y is bridge.edge.0 bridge.edge.1 bridge side)),
    λ both. (west.each c k small).1 (
      (south.each c k small).1 (
        (east.each c k small).1 (
          (north.each c k small).1 (
            both.0,
            λ x y is bridge side. both.1 x y is.0 bridge side,
          ),
          λ x y is bridge side. both.1 x y is.0 bridge side,
        ),
        λ x y is bridge side. both.1 x y is.0 bridge side,
      ),
      λ x y is bridge side. both.1 x y is.0 bridge side,
    ),
  );
}

-- one cell more
pub capped_more : (m : Floor) (a : ℕ) (old mid new : List ℕ) → IsCappedBelow m a old mid → IsCappedAround m a mid new → IsCappedBelow m (a + 1) old new
capped_more m a old mid new below around = record {
  same = around.same ∙ below.same;
  each = λ c k small. (
    λ le. (
        let here = (around.each c k small).0 le in
        let before = (below.each c k small).0 here.0 in
        (before.0, λ x y less bridge side. elim (cases_eq x a) [ inl is ↦ here.1 x y is bridge side | inr ne ↦ before.1 x y (omega (arith, less, ne)) bridge side ])),
    λ both. (around.each c k small).1 (
      (below.each c k small).1 (both.0, λ x y less bridge side. both.1 x y (omega (arith, less)) bridge side),
      λ x y is bridge side. both.1 x y (omega (arith, is)) bridge side,
    ),
  );
}

-- all cells, from numbers that no number passes
pub capped_all : (m : Floor) (old new : List ℕ) → length old ≡ length m.letters → ((c : ℕ) → c < length m.letters → slice_index old c ≡ 4294967295) → IsCappedBelow m (length m.letters) old new → AreRoomyFor m new
capped_all m old new size most it = record {
  size = it.same ∙ size;
  each = λ c n floor less. (
      let inside = floor_inside m c floor in
      let by = it.each c n inside in (
        λ le a b bridge side. (by.0 le).1 a b (floor_inside m a bridge.edge.1.from) bridge side,
        λ roomy. by.1 (omega (arith, most c inside, less), λ a b below bridge side. roomy a b bridge side),
      ));
}

pub capped_begin : (m : Floor) (list : List ℕ) → IsCappedBelow m 0 list list
capped_begin m list = record { same = refl; each = λ c k small. (λ le. (le, λ x y less bridge side. absurd (omega (arith, less))), λ both. both.0) }
