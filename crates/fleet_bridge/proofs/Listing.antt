-- The list of all bridges, grown by one cell after another.
use Rattle.std.proofs.Common.{◌≡◌, ℕ, ◌+◌, ◌<◌, ◌≤◌, ◌⊎◌, inl, inr, List, [], ◌∷◌, ◌++◌, length, get_or, refl, sym, subst, ◌∙◌, arith}
use Rattle.std.specs.Prelude.{slice_index, Option, MatchOption, Some, None}
use Rattle.std.specs.List.{Contains}
use Rattle.std.proofs.lemmas.Bool.{cases_lt}
use Rattle.std.proofs.lemmas.Nat.{mod_below}
use Rattle.std.proofs.lemmas.List.{append-nil}
use Rattle.std.proofs.lemmas.List.Elements.{Contains-append_left, Contains-get_or, Contains-push, Contains-push_cases}
use Rattle.std.proofs.lemmas.List.Quantifiers.{all_pairs_push}
use Rattle.fleet_grid.specs.declared.dir.Dir.TheVariants.{East, South}
use Rattle.fleet_grid.specs.Floor.{Floor, HasForm, IsFloor, IsNeighbour, IsNeighbourIn}
use Rattle.fleet_grid.proofs.Forms.{floor_inside, wide}
use Rattle.fleet_grid.specs.Walk.{IsBridge}
use Rattle.fleet_bridge.specs.Bridges.{AreBridges, IsEarlier}
use Rattle.fleet_bridge.specs.inside.First.{HasNoneBeside, IsBeside}
use Rattle.fleet_bridge.specs.inside.Listed.{AreListed, AreListedBelow, pair_if}
use Rattle.fleet_bridge.specs.inside.Preorder.{IsHungIn, IsWalk}
use Rattle.fleet_bridge.specs.inside.Spanning.{IsSpanning}
use Rattle.fleet_bridge.specs.declared.tree.Tree.{Tree}
use Rattle.fleet_bridge.proofs.Beyond.{hung_bridge}
use Rattle.fleet_bridge.proofs.Rounds.{above, bridge_turned, east_is, near_turn, south_is}

-- an edge by which a subtree hangs is a bridge
pub hung_up : {A : Type 0} (m : Floor) (t : Tree A) (a b : ℕ) → IsSpanning m t → IsWalk m t → IsNeighbour m a b → slice_index t.up.items a ≡ b → IsHungIn t a → IsBridge (IsNeighbour m) a b
hung_up m t a b span walk edge e hung =
    subst (IsBridge (IsNeighbour m) a) e
    (hung_bridge (IsNeighbour m) (IsFloor m) (length m.letters) (length t.order.items) (slice_index t.up.items) (slice_index t.number.items) (slice_index t.end.items) (slice_index t.top.items) (slice_index t.far.items) (slice_index t.order.items)
    (near_turn m) (λ x y e. e.1.from) (floor_inside m) span.fits walk.whole walk.listed a edge.1.from hung)

pub hung_down : {A : Type 0} (m : Floor) (t : Tree A) (a b : ℕ) → IsSpanning m t → IsWalk m t → IsNeighbour m a b → slice_index t.up.items b ≡ a → IsHungIn t b → IsBridge (IsNeighbour m) a b
hung_down m t a b span walk edge e hung = bridge_turned m b a (hung_up m t b a span walk (near_turn m a b edge) e hung)

-- one more bridge, after all that are done
pub listed_more : (Near Done Done' : ℕ → ℕ → Type 0) (list : List (ℕ × ℕ)) (a b : ℕ) → AreListed Near Done list → a < b → IsBridge Near a b
    → ((c d : ℕ) → Done c d → IsEarlier (c, d) (a, b)) → ((c d : ℕ) → Done c d → Done' c d) → Done' a b
    → ((c d : ℕ) → c < d → IsBridge Near c d → Done' c d → Done c d ⊎ ((c ≡ a) × (d ≡ b)))
    → AreListed Near Done' (list ++ (a, b) ∷ [])
listed_more Near Done Done' list a b known less bridge after on here split = record {
  only = λ e c. elim (Contains-push_cases list (a, b) e c) [
    | inl there ↦ (let it = known.only e there in (it.0, it.1, on e.0 e.1 it.2))
    | inr same ↦ subst (λ (f : ℕ × ℕ). (f.0 < f.1) × IsBridge Near f.0 f.1 × Done' f.0 f.1) same (less, bridge, here)
  ];
  all = λ c d low is done. elim (split c d low is done) [
    | inl before ↦ Contains-append_left list ((a, b) ∷ []) (c, d) (known.all c d low is before)
    | inr same ↦ subst (λ (x : ℕ). Contains (list ++ (a, b) ∷ []) (x, d)) (sym same.0) (subst (λ (y : ℕ). Contains (list ++ (a, b) ∷ []) (a, y)) (sym same.1) (Contains-push list (a, b)))
  ];
  order = all_pairs_push IsEarlier list (a, b) known.order (λ k d inside. (let it = known.only (get_or list k d) (Contains-get_or list k d inside) in after (get_or list k d).0 (get_or list k d).1 it.2));
}

-- the same list, where no more bridges are done
pub listed_same : (Near Done Done' : ℕ → ℕ → Type 0) (list : List (ℕ × ℕ)) → AreListed Near Done list → ((c d : ℕ) → Done c d → Done' c d)
    → ((c d : ℕ) → c < d → IsBridge Near c d → Done' c d → Done c d) → AreListed Near Done' list
listed_same Near Done Done' list known on split = record {
  only = λ e c. (let it = known.only e c in (it.0, it.1, on e.0 e.1 it.2));
  all = λ c d low is done. known.all c d low is (split c d low is done);
  order = known.order;
}

-- the bridges before the cell's, and its own to the east
abbrev pub IsEastward : Floor → ℕ → ℕ → ℕ → Type 0
IsEastward m cell a b = (a < cell) ⊎ ((a ≡ cell) × IsNeighbourIn m East cell b)

-- the cell's bridges east, where that is one or none
pub with_east : (m : Floor) (cell : ℕ) (east : Option ℕ) (list : List (ℕ × ℕ)) → MatchOption east (HasNoneBeside m cell East) (IsBeside m cell East)
    → AreListedBelow (IsNeighbour m) cell list → AreListed (IsNeighbour m) (IsEastward m cell) (list ++ pair_if cell east)
with_east m cell None list none known =
    subst (AreListed (IsNeighbour m) (IsEastward m cell)) (sym (append-nil list))
    (listed_same (IsNeighbour m) (λ a b. a < cell) (IsEastward m cell) list known (λ c d before. inl before)
    (λ c d low is done. elim done [ inl before ↦ before | inr here ↦ absurd (none d here.1 (subst (λ (x : ℕ). IsBridge (IsNeighbour m) x d) here.0 is)) ]))
with_east m cell (Some b) list is known =
    let e = east_is m cell b is.0 in
    listed_more (IsNeighbour m) (λ a b. a < cell) (IsEastward m cell) list cell b known (omega (arith, e)) is.1
    (λ c d before. inl before) (λ c d before. inl before) (inr (refl, is.0))
    (λ c d low bridge done. elim done [ inl before ↦ inl before | inr here ↦ inr (here.0, east_is m cell d here.1 ∙ sym e) ])

-- an end to the south is a greater cell than one to the east
east_first : (m : Floor) (cell b d : ℕ) → HasForm m → IsNeighbourIn m East cell d → IsNeighbourIn m South cell b → d < b
east_first m cell b d form east south =
    let some = wide m cell form east.from in
    let low = mod_below d m.width some in
    let other = east.beside.1 in
    omega (arith, east_is m cell d east, south_is m cell b south, some, low, other)

-- what is done with the bridges to the south
pub with_south : (m : Floor) (cell : ℕ) (south : Option ℕ) (list : List (ℕ × ℕ)) → HasForm m → MatchOption south (HasNoneBeside m cell South) (IsBeside m cell South)
    → AreListed (IsNeighbour m) (IsEastward m cell) list → AreListedBelow (IsNeighbour m) (cell + 1) (list ++ pair_if cell south)
with_south m cell None list form none known =
    subst (AreListedBelow (IsNeighbour m) (cell + 1)) (sym (append-nil list))
    (listed_same (IsNeighbour m) (IsEastward m cell) (λ a b. a < cell + 1) list known below
    (λ c d low is done. elim (cases_lt c cell) [
      | inl before ↦ inl before
      | inr from ↦ (
          let e : c ≡ cell = omega (arith, from, done) in
          let bridge = subst (λ (x : ℕ). IsBridge (IsNeighbour m) x d) e is in
          elim (above m cell d bridge.edge (omega (arith, low, e))) [ inl to ↦ inr (e, to) | inr to ↦ absurd (none d to bridge) ])
    ]))
  where
    below : (c d : ℕ) → IsEastward m cell c d → c < cell + 1
    below c d it = elim it [ inl before ↦ omega (arith, before) | inr here ↦ omega (arith, here.0) ]
with_south m cell (Some b) list form is known =
    let e = south_is m cell b is.0 in
    let some = wide m cell form is.0.from in
    listed_more (IsNeighbour m) (IsEastward m cell) (λ a b. a < cell + 1) list cell b known (omega (arith, e, some)) is.1
    (λ c d it. elim it [ inl before ↦ inl before | inr here ↦ inr (here.0, east_first m cell b d form here.1 is.0) ])
    (λ c d it. elim it [ inl before ↦ omega (arith, before) | inr here ↦ omega (arith, here.0) ])
    (omega arith)
    (λ c d low bridge done. elim (cases_lt c cell) [
      | inl before ↦ inl (inl before)
      | inr from ↦ (
          let same : c ≡ cell = omega (arith, from, done) in
          let to = subst (λ (x : ℕ). IsBridge (IsNeighbour m) x d) same bridge in
          elim (above m cell d to.edge (omega (arith, low, same))) [ inl way ↦ inl (inr (same, way)) | inr way ↦ inr (same, south_is m cell d way ∙ sym e) ])
    ])

-- an empty list, before the first cell
pub listed_none : (Near : ℕ → ℕ → Type 0) (list : List (ℕ × ℕ)) → length list ≡ 0 → AreListedBelow Near 0 list
listed_none Near list none = record {
  only = λ e c. absurd (omega (arith, none, c.1));
  all = λ a b low is before. absurd (omega (arith, before));
  order = λ i j d less inside. absurd (omega (arith, none, inside));
}

-- all cells are done
pub listed_all : (m : Floor) (n : ℕ) (list : List (ℕ × ℕ)) → length m.letters ≤ n → AreListedBelow (IsNeighbour m) n list → AreBridges (IsNeighbour m) list
listed_all m n list le known = record {
  each = λ a b. (
    λ c. (let it = known.only (a, b) c in (it.0, it.1)),
    λ it. known.all a b it.0 it.1 (omega (arith, le, floor_inside m a it.1.edge.1.from)),
  );
  order = known.order;
}
