-- The two sides of the edge above a subtree that hangs, and how many cells they have.
use Rattle.std.proofs.Common.{◌≡◌, ℕ, zero, suc, ◌+◌, ◌-◌, ◌<◌, ◌≤◌, ◌⊎◌, inl, inr, List, length, map, ◌++◌, refl, sym, ap, subst, ◌∙◌, arith, length-append}
use Rattle.std.specs.Prelude.{slice_index}
use Rattle.std.specs.List.{range_with_len}
use Rattle.std.proofs.lemmas.Bool.{cases_eq, cases_lt}
use Rattle.std.proofs.lemmas.List.{get_or-append_right}
use Rattle.std.proofs.Math.ListN.{get_or-append}
use Rattle.std.proofs.lemmas.List.FromFn.{length-map-range_with_len, get_or-map-range_with_len}
use Rattle.fleet_grid.specs.Walk.{Besides, AreJoined, IsBridge, IsOnSide, HasSide}
use Rattle.fleet_bridge.specs.inside.Tree.{IsUnder, IsTree}
use Rattle.fleet_bridge.specs.inside.Preorder.{IsWhole, IsListed, IsHung, subtree_size}
use Rattle.fleet_bridge.proofs.Certificate.{under_same, under_up, under_within, from_under, out_to_top}
use Rattle.fleet_bridge.proofs.Joins.{joined_on, joined_back, joined_inside, besides_back}
use Rattle.fleet_bridge.proofs.Marks.{few_in}
use Rattle.fleet_bridge.proofs.Ranges.{IsInRange, cell_up, one_number, within, stays}
use Rattle.fleet_bridge.proofs.Rounds.{walks_map, walks_turned}

-- an edge left out is left out in either direction
pub other_way : (Near : ℕ → ℕ → Type 0) (a b x y : ℕ) → AreJoined (Besides Near a b) x y → AreJoined (Besides Near b a) x y
other_way Near a b x y j = record { steps = j.steps; walk = walks_map (Besides Near a b) (Besides Near b a) (walks_turned Near b a) x y j.steps j.walk }

module _ (Near : ℕ → ℕ → Type 0) (Cell : ℕ → Type 0) (n count : ℕ) (up number end top far order : ℕ → ℕ)
    (turn : (x y : ℕ) → Near x y → Near y x) (cell : (x y : ℕ) → Near x y → Cell x) (inside : (x : ℕ) → Cell x → x < n)
    (tree : IsTree Near n up number end top) (whole : (x : ℕ) → Cell x → IsWhole Near up number end far order count x)
    (listed : (k : ℕ) → k < count → IsListed Cell number order k) where
  pub near_inside : (x y : ℕ) → Near x y → (x < n) × (y < n)
  near_inside x y near = (inside x (cell x y near), inside y (cell y x (turn x y near)))

  -- each cell is in the range of its top
  rooted : (fuel x : ℕ) → Cell x → number x < fuel → IsUnder up (top x) x × Cell (top x) × (up (top x) ≡ top x)
  rooted zero x in_x less = absurd (omega (arith, less))
  rooted (suc fuel) x in_x less = elim (cases_eq (up x) x) [
    | inl own ↦ (
        let e : top x ≡ x = (tree x (inside x in_x)).root own in
        (under_same up (top x) x (sym e), subst Cell (sym e) in_x, ap up e ∙ (own ∙ sym e)))
    | inr ne ↦ (
        let fit = tree x (inside x in_x) in
        let rises = fit.rises ne in
        let e : top (up x) ≡ top x = sym (fit.same (up x) (fit.edge ne)) in
        let rest = rooted fuel (up x) (cell_up Near Cell n count up number end top far order turn cell inside tree whole listed x in_x ne) (omega (arith, rises, less)) in
        (subst (λ (t : ℕ). IsUnder up t x) e (under_up up (top (up x)) x rest.0), subst Cell e rest.1, ap up (sym e) ∙ (rest.2 ∙ e)))
  ]

  pub top_is : (x : ℕ) → Cell x → Cell (top x) × (up (top x) ≡ top x) × (number (top x) ≤ number x) × (number x < end (top x)) × (top (top x) ≡ top x)
  top_is x in_x =
      let at = rooted (suc (number x)) x in_x (omega arith) in
      let range = under_within Near n up number end top turn near_inside tree (top x) at.0.times x (inside x in_x) at.0.comes in
      (at.1, at.2, range.0, range.1, (tree (top x) (inside (top x) at.1)).root at.2)

  module _ (v : ℕ) (in_v : Cell v) (hung : IsHung up number far v) where
    abbrev R : ℕ → ℕ → Type 0
    R = Besides Near v (up v)

    in_p : Cell (up v)
    in_p = cell_up Near Cell n count up number end top far order turn cell inside tree whole listed v in_v hung.child

    in_stays : (x y : ℕ) → R x y → IsInRange number end v x → IsInRange number end v y
    in_stays x y step r = stays Near Cell n count up number end top far order turn cell inside tree whole listed v x y in_v hung r.0 r.1 step

    turn_r : (x y : ℕ) → R x y → R y x
    turn_r x y step = besides_back Near turn v (up v) x y step

    above_out : IsInRange number end v (up v) → ⊥
    above_out r = (let rises = (tree v (inside v in_v)).rises hung.child in omega (arith, rises, r.0))

    below_in : IsInRange number end v v
    below_in = (let some = (tree v (inside v in_v)).some in (omega arith, some))

    -- it is a bridge, from either end
    pub hung_bridge : IsBridge Near v (up v)
    hung_bridge = record { edge = (tree v (inside v in_v)).edge hung.child; alone = λ j. above_out (joined_inside R (IsInRange number end v) in_stays v (up v) j below_in) }

    pub hung_back : IsBridge Near (up v) v
    hung_back = record {
      edge = turn v (up v) hung_bridge.edge;
      alone = λ j. hung_bridge.alone (joined_back R turn_r (up v) v (other_way Near (up v) v (up v) v j));
    }

    -- the side of the subtree is its range
    pub below_is : (x : ℕ) → IsOnSide Near (up v) v x → Cell x × IsInRange number end v x
    below_is x side = joined_inside R (λ (y : ℕ). Cell y × IsInRange number end v y) (λ a b step k. (cell b a (turn a b step.near), in_stays a b step k.1)) v x (other_way Near (up v) v v x side) (in_v, below_in)

    pub below_has : (x : ℕ) → Cell x → IsInRange number end v x → IsOnSide Near (up v) v x
    below_has x in_x r =
        let under = (within Near Cell n count up number end top far order turn cell inside tree whole listed v x in_v in_x r.0 r.1).under in
        other_way Near v (up v) v x (joined_back R turn_r x v
        (from_under Near n up number end top turn near_inside tree v (inside v in_v) hung.child under.times x (inside x in_x) under.comes))

    -- the other side is what else the part has
    pub above_is : (x : ℕ) → IsOnSide Near v (up v) x → Cell x × (IsInRange number end v x → ⊥) × (top x ≡ top v)
    above_is x side = joined_inside R (λ (y : ℕ). Cell y × (IsInRange number end v y → ⊥) × (top y ≡ top v))
        (λ a b step k. (cell b a (turn a b step.near), λ r. k.1 (in_stays b a (turn_r a b step) r), sym ((tree a (inside a k.0)).same b step.near) ∙ k.2))
        (up v) x side (in_p, above_out, sym ((tree v (inside v in_v)).same (up v) hung_bridge.edge))

    pub above_has : (x : ℕ) → Cell x → (IsInRange number end v x → ⊥) → top x ≡ top v → IsOnSide Near v (up v) x
    above_has x in_x off one =
        let out : (y : ℕ) → Cell y → (IsInRange number end v y → ⊥) → AreJoined R y (top y) = λ y in_y off_y. (
        out_to_top Near n up number end top turn near_inside tree v (inside v in_v) hung.child y (inside y in_y)
        (λ u. off_y (under_within Near n up number end top turn near_inside tree v u.times y (inside y in_y) u.comes))) in
        let same : top x ≡ top (up v) = one ∙ (tree v (inside v in_v)).same (up v) hung_bridge.edge in
        joined_on R (up v) (top (up v)) x (out (up v) in_p above_out) (subst (λ (t : ℕ). AreJoined R t x) same (joined_back R turn_r x (top x) (out x in_x off)))

    size : ℕ
    size = subtree_size number end v

    -- a side of n cells
    pub few_below_it : (k : ℕ) → HasSide Near (up v) v k → k ≤ subtree_size number end v
    few_below_it k side =
        let few = few_in (λ x. Cell x × IsInRange number end v x) (λ x. number x - number v) (end v - number v)
        (λ x it. omega (arith, it.1))
        (λ x y it other e. one_number Near Cell n count up number end top far order turn cell inside tree whole listed x y it.0 other.0 (omega (arith, e, it.1, other.1)))
        side.cells side.apart (λ i less. below_is (slice_index side.cells i) (side.inside i less)) in
        omega (arith, few, side.many)

    pub many_below_it : (k : ℕ) → k ≤ subtree_size number end v → HasSide Near (up v) v k
    many_below_it k le =
        let s = end v - number v in
        let cells = map order (range_with_len (number v) s) in
        let length_is : length cells ≡ s = length-map-range_with_len order (number v) s in
        let at : (i : ℕ) → i < length cells → slice_index cells i ≡ order (number v + i) = λ i less. get_or-map-range_with_len order (number v) s i (number v + i) 0 (omega (arith, less, length_is)) refl in
        let last = (whole v in_v).last in
        let cell_at : (i : ℕ) → i < length cells → IsListed Cell number order (number v + i) = λ i less. listed (number v + i) (omega (arith, less, length_is, last)) in
        record {
          cells = cells;
          many = omega (arith, le, length_is);
          apart = λ i j less inner same. (
              let before : i < length cells = omega (arith, less, inner) in
              let e : number (order (number v + i)) ≡ number (order (number v + j)) = ap number (sym (at i before) ∙ (same ∙ at j inner)) in
              omega (arith, e, (cell_at i before).1, (cell_at j inner).1, less));
          inside = λ i less. (
              let it = cell_at i less in
              subst (IsOnSide Near (up v) v) (sym (at i less)) (below_has (order (number v + i)) it.0 (omega (arith, it.1), omega (arith, it.1, less, length_is))));
        }

    -- the part's range has the subtree's
    nested : (number (top v) ≤ number v) × (end v ≤ end (top v))
    nested =
        let up_there = top_is v in_v in
        (up_there.2, (within Near Cell n count up number end top far order turn cell inside tree whole listed (top v) v up_there.0 in_v up_there.2 up_there.3).ends)

    split : (x : ℕ) → (IsInRange number end v x → ⊥) → (number x < number v) ⊎ (end v ≤ number x)
    split x off = elim (cases_lt (number x) (number v)) [
      | inl before ↦ inl before
      | inr from ↦ elim (cases_lt (number x) (end v)) [ inl within ↦ absurd (off (from, within)) | inr after ↦ inr after ]
    ]

    -- what a number of the part is among those that the subtree does not have
    squeeze : ℕ → ℕ
    squeeze x = number x - number (top v) - ((end v - number v) - (end v - number x))

    IsAbove : ℕ → Type 0
    IsAbove x = Cell x × ((number x < number v) ⊎ (end v ≤ number x)) × (number (top v) ≤ number x) × (number x < end (top v))

    squeeze_less : (x : ℕ) → IsAbove x → squeeze x < (end (top v) - number (top v)) - (end v - number v)
    unfolding squeeze IsAbove
    squeeze_less x it = let around = nested in let some = (tree v (inside v in_v)).some in elim it.1 [ inl before ↦ omega (arith, before, around, some, it.2, it.3) | inr after ↦ omega (arith, after, around, some, it.2, it.3) ]

    squeeze_once : (x y : ℕ) → IsAbove x → IsAbove y → squeeze x ≡ squeeze y → number x ≡ number y
    unfolding squeeze IsAbove
    squeeze_once x y it other e = let around = nested in let some = (tree v (inside v in_v)).some in elim it.1 [
      | inl before ↦ elim other.1 [ inl too ↦ omega (arith, e, before, too, around, some, it.2, other.2) | inr after ↦ omega (arith, e, before, after, around, some, it.2, other.2) ]
      | inr after ↦ elim other.1 [ inl before ↦ omega (arith, e, before, after, around, some, it.2, other.2) | inr too ↦ omega (arith, e, after, too, around, some, it.2, other.2) ]
    ]

    pub few_above_it : (k : ℕ) → HasSide Near v (up v) k → k ≤ subtree_size number end (top v) - subtree_size number end v
    unfolding IsAbove
    few_above_it k side =
        let few = few_in IsAbove squeeze ((end (top v) - number (top v)) - (end v - number v)) squeeze_less
        (λ x y it other e. one_number Near Cell n count up number end top far order turn cell inside tree whole listed x y it.0 other.0 (squeeze_once x y it other e))
        side.cells side.apart (λ i less. (
        let x = slice_index side.cells i in
        let it = above_is x (side.inside i less) in
        let there = top_is x it.0 in
        let from : number (top x) ≡ number (top v) = ap number it.2 in
        let to : end (top x) ≡ end (top v) = ap end it.2 in
        (it.0, split x it.1, omega (arith, there.2, from), omega (arith, there.3, to)))) in
        omega (arith, few, side.many)

    before : ℕ
    before = number v - number (top v)

    after : ℕ
    after = end (top v) - end v

    outside : List ℕ
    outside = map order (range_with_len (number (top v)) before) ++ map order (range_with_len (end v) after)

    length-outside : length outside ≡ before + after
    unfolding outside
    length-outside =
        let a = length-append (map order (range_with_len (number (top v)) before)) (map order (range_with_len (end v) after)) in
        omega (arith, a, length-map-range_with_len order (number (top v)) before, length-map-range_with_len order (end v) after)

    -- its places, in numbers
    outside_at : (i : ℕ) → i < before + after → (k : ℕ) × (slice_index outside i ≡ order k) × (((i < before) × (k ≡ number (top v) + i)) ⊎ ((before ≤ i) × (k ≡ end v + (i - before))))
    unfolding outside
    outside_at i less =
        let xs = map order (range_with_len (number (top v)) before) in
        let ys = map order (range_with_len (end v) after) in
        let size_xs : length xs ≡ before = length-map-range_with_len order (number (top v)) before in
        elim (cases_lt i before) [
          | inl early ↦ (
            number (top v) + i,
            get_or-append xs ys 0 i (omega (arith, early, size_xs)) ∙ get_or-map-range_with_len order (number (top v)) before i (number (top v) + i) 0 early refl,
            inl (early, refl),
          )
          | inr late ↦ (
            end v + (i - before),
            get_or-append_right xs ys before i 0 size_xs late ∙ get_or-map-range_with_len order (end v) after (i - before) (end v + (i - before)) 0 (omega (arith, late, less)) refl,
            inr (late, refl),
          )
        ]

    -- these are numbers of the part, beside the subtree's
    outside_number : (i k : ℕ) → i < before + after → ((i < before) × (k ≡ number (top v) + i)) ⊎ ((before ≤ i) × (k ≡ end v + (i - before)))
        → (number (top v) ≤ k) × (k < end (top v)) × ((number v ≤ k) × (k < end v) → ⊥)
    unfolding before after
    outside_number i k less it = let around = nested in let some = (tree v (inside v in_v)).some in elim it [
      | inl early ↦ (omega (arith, early), omega (arith, early, around, some), λ r. omega (arith, early, r))
      | inr late ↦ (omega (arith, late, around, some), omega (arith, late, less, around, some), λ r. omega (arith, late, r))
    ]

    outside_rise : (i j k l : ℕ) → i < j → ((i < before) × (k ≡ number (top v) + i)) ⊎ ((before ≤ i) × (k ≡ end v + (i - before)))
        → ((j < before) × (l ≡ number (top v) + j)) ⊎ ((before ≤ j) × (l ≡ end v + (j - before))) → k < l
    unfolding before
    outside_rise i j k l less it other = let around = nested in let some = (tree v (inside v in_v)).some in elim it [
      | inl early ↦ elim other [ inl too ↦ omega (arith, early, too, less) | inr late ↦ omega (arith, early, late, less, around, some) ]
      | inr late ↦ elim other [ inl early ↦ absurd (omega (arith, early, late, less)) | inr too ↦ omega (arith, late, too, less) ]
    ]

    pub many_above_it : (k : ℕ) → k ≤ subtree_size number end (top v) - subtree_size number end v → HasSide Near v (up v) k
    unfolding before after
    many_above_it k le = record {
      cells = outside;
      many = (let room = outside_room in omega (arith, le, length-outside, room));
      apart = λ i j less inner same. (
          let to : j < before + after = omega (arith, inner, length-outside) in
          let from : i < before + after = omega (arith, less, to) in
          let a = outside_at i from in
          let b = outside_at j to in
          let rise = outside_rise i j a.0 b.0 less a.2 b.2 in
          let e : number (order a.0) ≡ number (order b.0) = ap number (sym a.1 ∙ (same ∙ b.1)) in
          omega (arith, rise, e, (listed_at i from).1.1, (listed_at j to).1.1));
      inside = λ i inner. (
          let to : i < before + after = omega (arith, inner, length-outside) in
          let it = listed_at i to in
          let e : slice_index outside i ≡ order it.0 = it.2 in
          subst (IsOnSide Near v (up v)) (sym e) it.3);
    }
      where
        outside_room : before + after ≡ (end (top v) - number (top v)) - (end v - number v)
        outside_room = let around = nested in let some = (tree v (inside v in_v)).some in omega (arith, around, some)

        listed_at : (i : ℕ) → i < before + after → (k : ℕ) × (Cell (order k) × (number (order k) ≡ k)) × (slice_index outside i ≡ order k) × IsOnSide Near v (up v) (order k)
        listed_at i to =
            let at = outside_at i to in
            let k = at.0 in
            let bounds = outside_number i k to at.2 in
            let root = top_is v in_v in
            let it = listed k (omega (arith, bounds.1, (whole (top v) root.0).last)) in
            let one : top (order k) ≡ top (top v) = (within Near Cell n count up number end top far order turn cell inside tree whole listed (top v) (order k) root.0 it.0 (omega (arith, it.1, bounds.0)) (omega (arith, it.1, bounds.1))).one_top in
            (k, it, at.1, above_has (order k) it.0 (λ r. bounds.2 (omega (arith, it.1, r.0), omega (arith, it.1, r.1))) (one ∙ root.4))
