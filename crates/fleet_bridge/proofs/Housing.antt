-- The roots of a tree that passed its check are in cores.
use Rattle.std.proofs.Common.{◌≡◌, ◌≢◌, ℕ, zero, suc, ◌+◌, ◌<◌, ◌≤◌, ◌⊎◌, inl, inr, refl, sym, ap, subst, ◌∙◌, arith}
use Rattle.std.specs.Prelude.{slice_index}
use Rattle.std.proofs.lemmas.Bool.{cases_eq, cases_lt}
use Rattle.fleet_grid.specs.Walk.{Besides, AreJoined, IsBridge, IsOnSide}
use Rattle.fleet_bridge.specs.Rooms.{HasPart, HasSideWithout, IsCore}
use Rattle.fleet_bridge.specs.inside.Tree.{IsTree}
use Rattle.fleet_bridge.specs.inside.Preorder.{IsWhole, IsListed, IsHung, subtree_size}
use Rattle.fleet_bridge.specs.inside.Housed.{IsHoused, side_size}
use Rattle.fleet_bridge.proofs.Certificate.{crossed, off_tree}
use Rattle.fleet_bridge.proofs.Joins.{joined_same, joined_on, joined_by, joined_back, joined_inside, besides_back}
use Rattle.fleet_bridge.proofs.Ranges.{IsInRange, one_number}
use Rattle.fleet_bridge.proofs.Beyond.{other_way, near_inside, top_is, hung_bridge, hung_back, below_is, below_has, above_is, above_has}
use Rattle.fleet_bridge.proofs.Gaps.{IsOff}
use Rattle.fleet_bridge.proofs.Doors.{IsInRoom, HasDoor, HasCellsOff, few_off, many_off, parent, own_range, root_off, range_on, top_in, door_of, rooms_apart}

module _ (Near : ℕ → ℕ → Type 0) (Cell : ℕ → Type 0) (n count : ℕ) (up number end top far order door first second most : ℕ → ℕ)
    (turn : (x y : ℕ) → Near x y → Near y x) (cell : (x y : ℕ) → Near x y → Cell x) (inside : (x : ℕ) → Cell x → x < n)
    (tree : IsTree Near n up number end top) (whole : (x : ℕ) → Cell x → IsWhole Near up number end far order count x)
    (listed : (k : ℕ) → k < count → IsListed Cell number order k)
    (housed : (x : ℕ) → Cell x → IsHoused Near Cell up number end far top door first second most x) where
  size : ℕ → ℕ
  size = subtree_size number end

  pub door_at : (x : ℕ) → Cell x → HasDoor Cell up number end far top door x
  door_at x in_x = door_of Near Cell n count up number end top far order turn cell inside tree whole listed door first second most housed x in_x

  pub above : (x : ℕ) → Cell x → up x ≢ x → Cell (up x)
  above = parent Near Cell n count up number end top far order turn cell inside tree whole listed

  pub root_is : (x : ℕ) → Cell x → Cell (top x) × (up (top x) ≡ top x) × (number (top x) ≤ number x) × (number x < end (top x)) × (top (top x) ≡ top x)
  root_is = top_is Near Cell n count up number end top far order turn cell inside tree whole listed

  -- the subtree of a cell that is no root hangs, or its edge is no bridge
  pub no_bridge : (x : ℕ) → Cell x → up x ≢ x → far x < number x → IsBridge Near x (up x) → ⊥
  no_bridge x in_x ne less bridge =
      bridge.alone (crossed Near n up number end top turn (near_inside Near Cell n count up number end top far order turn cell inside tree whole listed) tree x (inside x in_x) ne ((housed x in_x).crossed ne less))

  hung_of : (x : ℕ) → Cell x → up x ≢ x → IsBridge Near x (up x) → IsHung up number far x
  hung_of x in_x ne bridge = elim (cases_lt (far x) (number x)) [
    | inl less ↦ absurd (no_bridge x in_x ne less bridge)
    | inr held ↦ record { child = ne; held = held }
  ]

  pub bridge_turn : (a b : ℕ) → IsBridge Near a b → IsBridge Near b a
  bridge_turn a b bridge = record {
    edge = turn a b bridge.edge;
    alone = λ j. bridge.alone (joined_back (Besides Near a b) (besides_back Near turn a b) b a (other_way Near b a b a j));
  }

  no_loop : (a b : ℕ) → IsBridge Near a b → a ≡ b → ⊥
  no_loop a b bridge e = bridge.alone (joined_same (Besides Near a b) a b e)

  -- by each bridge one of its ends hangs
  hangs_by : (a b : ℕ) → IsBridge Near a b → ((up b ≡ a) × IsHung up number far b) ⊎ ((up a ≡ b) × IsHung up number far a)
  hangs_by a b bridge = elim (cases_eq (up b) a) [
    | inl is ↦ inl (
      is,
      hung_of b (cell b a (turn a b bridge.edge)) (λ own. no_loop a b bridge (sym is ∙ own)) (subst (IsBridge Near b) (sym is) (bridge_turn a b bridge)),
    )
    | inr not_down ↦ elim (cases_eq (up a) b) [
      | inl is ↦ inr (is, hung_of a (cell a b bridge.edge) (λ own. no_loop a b bridge (sym own ∙ is)) (subst (IsBridge Near a) (sym is) bridge))
      | inr not_up ↦ absurd (bridge.alone (off_tree Near n up number end top turn (near_inside Near Cell n count up number end top far order turn cell inside tree whole listed) tree a b bridge.edge not_up not_down))
    ]
  ]

  pub bridge_down : (v : ℕ) → Cell v → IsHung up number far v → IsBridge Near (up v) v
  bridge_down = hung_back Near Cell n count up number end top far order turn cell inside tree whole listed

  pub bridge_up : (v : ℕ) → Cell v → IsHung up number far v → IsBridge Near v (up v)
  bridge_up = hung_bridge Near Cell n count up number end top far order turn cell inside tree whole listed

  pub in_below : (v : ℕ) → Cell v → IsHung up number far v → (x : ℕ) → IsOnSide Near (up v) v x → Cell x × IsInRange number end v x
  in_below = below_is Near Cell n count up number end top far order turn cell inside tree whole listed

  pub below_in : (v : ℕ) → Cell v → IsHung up number far v → (x : ℕ) → Cell x → IsInRange number end v x → IsOnSide Near (up v) v x
  below_in = below_has Near Cell n count up number end top far order turn cell inside tree whole listed

  pub in_above : (v : ℕ) → Cell v → IsHung up number far v → (x : ℕ) → IsOnSide Near v (up v) x → Cell x × (IsInRange number end v x → ⊥) × (top x ≡ top v)
  in_above = above_is Near Cell n count up number end top far order turn cell inside tree whole listed

  pub above_in : (v : ℕ) → Cell v → IsHung up number far v → (x : ℕ) → Cell x → (IsInRange number end v x → ⊥) → top x ≡ top v → IsOnSide Near v (up v) x
  above_in = above_has Near Cell n count up number end top far order turn cell inside tree whole listed

  pub off_range : (v x : ℕ) → (IsInRange number end v x → ⊥) → IsOff (number v) (end v) (number x)
  off_range v x off = elim (cases_lt (number x) (number v)) [
    | inl before ↦ inl before
    | inr from ↦ elim (cases_lt (number x) (end v)) [ inl inner ↦ absurd (off (from, inner)) | inr after ↦ inr after ]
  ]

  range_off : (v x : ℕ) → IsOff (number v) (end v) (number x) → IsInRange number end v x → ⊥
  range_off v x off r = elim off [ inl before ↦ omega (arith, before, r.0) | inr after ↦ omega (arith, after, r.1) ]

  -- each cell is joined to the root of its part
  joined_top : (fuel x : ℕ) → Cell x → number x < fuel → AreJoined Near x (top x)
  joined_top zero x in_x less = absurd (omega (arith, less))
  joined_top (suc fuel) x in_x less = elim (cases_eq (up x) x) [
    | inl own ↦ joined_same Near x (top x) (sym ((tree x (inside x in_x)).root own))
    | inr ne ↦ (
        let fit = tree x (inside x in_x) in
        let rises = fit.rises ne in
        let rest = joined_top fuel (up x) (above x in_x ne) (omega (arith, rises, less)) in
        let same : top (up x) ≡ top x = sym (fit.same (up x) (fit.edge ne)) in
        joined_on Near x (up x) (top x) (joined_by Near x (up x) (fit.edge ne)) (subst (AreJoined Near (up x)) same rest))
  ]

  pub to_root : (x : ℕ) → Cell x → AreJoined Near x (top x)
  to_root x in_x = joined_top (suc (number x)) x in_x (omega arith)

  -- what is joined has one root
  one_part : (x y : ℕ) → Cell x → AreJoined Near x y → Cell y × (top y ≡ top x)
  one_part x y in_x j = joined_inside Near (λ (z : ℕ). Cell z × (top z ≡ top x)) (λ a b near k. (cell b a (turn a b near), sym ((tree a (inside a k.0)).same b near) ∙ k.1)) x y j (in_x, refl)

  -- a part has as many cells as the root's range
  pub part_few : (k x : ℕ) → Cell x → HasPart Near k x → k ≤ subtree_size number end (top x)
  part_few k x in_x part =
      let r = top x in
      let few = few_off Near Cell n count up number end top far order turn cell inside tree whole listed (number r) (end r) (end r) (end r) (end r) (end r)
      (omega (arith, (root_is x in_x).2, (root_is x in_x).3)) (omega arith) (omega arith) (omega arith) (omega arith) part.cells part.apart
      (λ i less. (
      let y = slice_index part.cells i in
      let it = one_part x y in_x (part.inside i less) in
      let there = root_is y it.0 in
      let from : number (top y) ≡ number r = ap number it.1 in
      let to : end (top y) ≡ end r = ap end it.1 in
      record {
        cell = it.0;
        from = omega (arith, there.2, from);
        to = omega (arith, there.3, to);
        one = inl (omega (arith, there.3, to));
        two = inl (omega (arith, there.3, to));
      })) in
      omega (arith, few, part.many)

  part_many : (k r : ℕ) → Cell r → up r ≡ r → k ≤ subtree_size number end r → HasPart Near k r
  part_many k r in_r own le =
      let some = (tree r (inside r in_r)).some in
      let all = many_off Near Cell n count up number end top far order turn cell inside tree whole listed (number r) (end r) (end r) (end r) (end r) (end r) k
      (omega arith) (omega arith) (omega arith) (whole r in_r).last (omega (arith, some)) (omega (arith, le)) in
      record {
        cells = all.cells;
        many = all.many;
        apart = all.apart;
        inside = λ i less. (
            let it = all.each i less in
            let x = slice_index all.cells i in
            let one : top x ≡ r = top_in Near Cell n count up number end top far order turn cell inside tree whole listed r x in_r own it.cell it.from it.to in
            joined_back Near turn x r (subst (AreJoined Near x) one (to_root x it.cell)));
      }

  -- cells of the part of a root apart from two rooms are a side without another
  spread : (r v w a b c d k : ℕ) → Cell r → up r ≡ r → (in_v : Cell v) → (hung_v : IsHung up number far v) → (in_w : Cell w) → (hung_w : IsHung up number far w) → top w ≡ r
      → ((x : ℕ) → IsOff a b (number x) → IsOff c d (number x) → (IsInRange number end v x → ⊥) × (IsInRange number end w x → ⊥))
      → HasCellsOff Cell number (number r) (end r) a b c d k → HasSideWithout Near (up v) v w (up w) k
  spread r v w a b c d k in_r own in_v hung_v in_w hung_w under off it = record {
    cells = it.cells;
    many = it.many;
    apart = it.apart;
    inside = λ i less. (
        let at = it.each i less in
        let x = slice_index it.cells i in
        above_in w in_w hung_w x at.cell (off x at.one at.two).1 (top_in Near Cell n count up number end top far order turn cell inside tree whole listed r x in_r own at.cell at.from at.to ∙ sym under));
    outside = λ i less side. (
        let at = it.each i less in
        let x = slice_index it.cells i in
        (off x at.one at.two).0 (in_below v in_v hung_v x side).1);
  }

  -- the gap of a room has all subtrees in it
  off_inner : (V v x : ℕ) → Cell V → Cell v → IsInRange number end V v → IsOff (number V) (end V) (number x) → IsInRange number end v x → ⊥
  off_inner V v x in_V in_v r off inner = range_off V x off (range_on Near Cell n count up number end top far order turn cell inside tree whole listed V v x in_V in_v r inner)

  in_room : (v : ℕ) → Cell v → IsHung up number far v → IsInRoom Cell up number end far top door v (door v)
  in_room v in_v hung = elim (door_at v in_v) [
    | inl free ↦ absurd (free.1 v in_v hung (own_range Near Cell n count up number end top far order turn cell inside tree whole listed v in_v))
    | inr room ↦ room
  ]

  -- a part has that many cells without any two sides that do not have its root
  two_sides : (k r v w : ℕ) → Cell r → up r ≡ r → k ≤ most r → Cell v → IsHung up number far v → top v ≡ r → Cell w → IsHung up number far w → top w ≡ r → HasSideWithout Near (up v) v w (up w) k
  two_sides k r v w in_r own le in_v hung_v top_v in_w hung_w top_w =
      let V = door v in
      let W = door w in
      let room_v = in_room v in_v hung_v in
      let room_w = in_room w in_w hung_w in
      let top_V : top V ≡ r = sym room_v.one_top ∙ top_v in
      let top_W : top W ≡ r = sym room_w.one_top ∙ top_w in
      let some_V = (tree V (inside V room_v.cell)).some in
      let some_W = (tree W (inside W room_w.cell)).some in
      let some_r = (tree r (inside r in_r)).some in
      let last = (whole r in_r).last in
      let fits = (housed r in_r).fits own in
      let one_V : subtree_size number end V ≤ side_size number end r (first r) = subst (λ (t : ℕ). subtree_size number end V ≤ side_size number end t (first t)) top_V ((housed V room_v.cell).one room_v.hung room_v.own) in
      let one_W : subtree_size number end W ≤ side_size number end r (first r) = subst (λ (t : ℕ). subtree_size number end W ≤ side_size number end t (first t)) top_W ((housed W room_w.cell).one room_w.hung room_w.own) in
      let off_V : (x : ℕ) → IsOff (number V) (end V) (number x) → IsInRange number end v x → ⊥ = λ x off. off_inner V v x room_v.cell in_v room_v.range off in
      let off_W : (x : ℕ) → IsOff (number W) (end W) (number x) → IsInRange number end w x → ⊥ = λ x off. off_inner W w x room_w.cell in_w room_w.range off in
      elim (cases_eq V W) [
        | inl same ↦ (
            let e : number V ≡ number W = ap number same in
            let f : end V ≡ end W = ap end same in
            spread r v w (number V) (end V) (end V) (end V) k in_r own in_v hung_v in_w hung_w top_w
            (λ x one two. (off_V x one, off_W x (subst (λ (z : ℕ). IsOff (number z) (end z) (number x)) same one)))
            (many_off Near Cell n count up number end top far order turn cell inside tree whole listed (number r) (end r) (number V) (end V) (end V) (end V) k
            (omega (arith, some_V)) (omega arith) (omega arith) last (omega (arith, some_r)) (omega (arith, fits, one_V, le, some_V))))
        | inr other ↦ (
            let both : most r + subtree_size number end V + subtree_size number end W ≤ subtree_size number end r = sum r V W in_r own room_v.cell room_v.hung room_v.own top_V room_w.cell room_w.hung room_w.own top_W other in
            let ne : number V ≢ number W = λ e. other (one_number Near Cell n count up number end top far order turn cell inside tree whole listed V W room_v.cell room_w.cell e) in
            elim (cases_lt (number V) (number W)) [
              | inl less ↦ (
                  let apart = rooms_apart Near Cell n count up number end top far order turn cell inside tree whole listed door first second most housed v V w W in_w room_v room_w less in
                  spread r v w (number V) (end V) (number W) (end W) k in_r own in_v hung_v in_w hung_w top_w
                  (λ x one two. (off_V x one, off_W x two))
                  (many_off Near Cell n count up number end top far order turn cell inside tree whole listed (number r) (end r) (number V) (end V) (number W) (end W) k
                  (omega (arith, some_V)) apart (omega (arith, some_W)) last (omega (arith, some_r)) (omega (arith, both, le, some_V, some_W))))
              | inr from ↦ (
                  let apart = rooms_apart Near Cell n count up number end top far order turn cell inside tree whole listed door first second most housed w W v V in_v room_w room_v (omega (arith, from, ne)) in
                  spread r v w (number W) (end W) (number V) (end V) k in_r own in_v hung_v in_w hung_w top_w
                  (λ x one two. (off_V x two, off_W x one))
                  (many_off Near Cell n count up number end top far order turn cell inside tree whole listed (number r) (end r) (number W) (end W) (number V) (end V) k
                  (omega (arith, some_W)) apart (omega (arith, some_V)) last (omega (arith, some_r)) (omega (arith, both, le, some_V, some_W))))
            ])
      ]
    where
      sum : (r V W : ℕ) → Cell r → up r ≡ r → (in_V : Cell V) → IsHung up number far V → door V ≡ V → top V ≡ r → (in_W : Cell W) → IsHung up number far W → door W ≡ W → top W ≡ r → V ≢ W
          → most r + subtree_size number end V + subtree_size number end W ≤ subtree_size number end r
      sum r V W in_r own in_V hung_V own_V top_V in_W hung_W own_W top_W other =
          let fits = (housed r in_r).fits own in
          let one_V : subtree_size number end V ≤ side_size number end r (first r) = subst (λ (t : ℕ). subtree_size number end V ≤ side_size number end t (first t)) top_V ((housed V in_V).one hung_V own_V) in
          let one_W : subtree_size number end W ≤ side_size number end r (first r) = subst (λ (t : ℕ). subtree_size number end W ≤ side_size number end t (first t)) top_W ((housed W in_W).one hung_W own_W) in
          let two_V : (V ≡ first r) ⊎ (subtree_size number end V ≤ side_size number end r (second r)) = subst (λ (t : ℕ). (V ≡ first t) ⊎ (subtree_size number end V ≤ side_size number end t (second t))) top_V ((housed V in_V).two hung_V own_V) in
          let two_W : (W ≡ first r) ⊎ (subtree_size number end W ≤ side_size number end r (second r)) = subst (λ (t : ℕ). (W ≡ first t) ⊎ (subtree_size number end W ≤ side_size number end t (second t))) top_W ((housed W in_W).two hung_W own_W) in
          elim two_V [
            | inl greatest ↦ elim two_W [ inl too ↦ absurd (other (greatest ∙ sym too)) | inr less ↦ omega (arith, fits, one_V, less) ]
            | inr less ↦ omega (arith, fits, one_W, less)
          ]

  -- the root of a part is in a core for its capacity
  pub root_core : (k r : ℕ) → Cell r → up r ≡ r → k ≤ most r → IsCore Near k r
  root_core k r in_r own le = record {
    part = (let fits = (housed r in_r).fits own in part_many k r in_r own (omega (arith, fits, le)));
    sides = λ m d bridge on a b bridge' on'. elim (hangs_by m d bridge) [
      | inr (is, hung) ↦ (
          let in_m = cell m d bridge.edge in
          absurd (root_off Near Cell n count up number end top far order turn cell inside tree whole listed m r in_m hung.child in_r own (in_below m in_m hung r (subst (λ (p : ℕ). IsOnSide Near p m r) (sym is) on)).1))
      | inl (is, hung) ↦ elim (hangs_by a b bridge') [
        | inl (is', hung') ↦ (
            let in_b = cell b a (turn a b bridge'.edge) in
            absurd (root_off Near Cell n count up number end top far order turn cell inside tree whole listed b r in_b hung'.child in_r own (in_below b in_b hung' r (subst (λ (p : ℕ). IsOnSide Near p b r) (sym is') on')).1))
        | inr (is', hung') ↦ (
            let in_d = cell d m (turn m d bridge.edge) in
            let in_a = cell a b bridge'.edge in
            let top_d : top d ≡ r = sym (in_above d in_d hung r (subst (λ (p : ℕ). IsOnSide Near d p r) (sym is) on)).2 ∙ (tree r (inside r in_r)).root own in
            let top_a : top a ≡ r = sym (in_above a in_a hung' r (subst (λ (p : ℕ). IsOnSide Near a p r) (sym is') on')).2 ∙ (tree r (inside r in_r)).root own in
            subst (λ (p : ℕ). HasSideWithout Near p d a b k) is (subst (λ (q : ℕ). HasSideWithout Near (up d) d a q k) is' (two_sides k r d a in_r own le in_d hung top_d in_a hung' top_a)))
      ]
    ];
  }
