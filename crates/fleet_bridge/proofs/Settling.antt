-- The numbers that passed the check are those of the definition.
use Rattle.std.proofs.Common.{◌≡◌, ◌≢◌, ℕ, zero, suc, ◌-◌, ◌<◌, ◌≤◌, inl, inr, refl, sym, ap, subst, ◌∙◌, arith}
use Rattle.std.specs.Prelude.{◌↔◌, List, length, slice_index}
use Rattle.std.proofs.lemmas.Bool.{cases_eq, cases_lt}
use Rattle.fleet_grid.specs.Walk.{Besides, AreJoined, IsBridge, IsOnSide, HasSide, IsRoomy}
use Rattle.fleet_grid.specs.Floor.{Floor, IsFloor, IsNeighbour}
use Rattle.fleet_grid.proofs.Forms.{floor_inside}
use Rattle.fleet_bridge.specs.Roominess.{AreRoomyFor}
use Rattle.fleet_bridge.specs.declared.tree.Tree.{Tree}
use Rattle.fleet_bridge.specs.inside.Spanning.{IsSpanning}
use Rattle.fleet_bridge.specs.inside.Tree.{IsTree}
use Rattle.fleet_bridge.specs.inside.Preorder.{IsWhole, IsListed, IsHung, IsSettled, IsSettledIn, IsWalk, subtree_size}
use Rattle.fleet_bridge.proofs.Certificate.{crossed, off_tree}
use Rattle.fleet_bridge.proofs.Joins.{joined_same, joined_on, joined_by, joined_back, besides_back}
use Rattle.fleet_bridge.proofs.Ranges.{IsInRange, cell_up, one_number, parent_within, within}
use Rattle.fleet_bridge.proofs.Rounds.{near_turn}
use Rattle.fleet_bridge.proofs.Beyond.{other_way, near_inside, top_is, hung_bridge, hung_back, below_is, above_is, above_has, few_below_it, many_below_it, few_above_it, many_above_it}

module _ (Near : ℕ → ℕ → Type 0) (Cell : ℕ → Type 0) (n count : ℕ) (up number end top far order most : ℕ → ℕ)
    (turn : (x y : ℕ) → Near x y → Near y x) (cell : (x y : ℕ) → Near x y → Cell x) (inside : (x : ℕ) → Cell x → x < n)
    (tree : IsTree Near n up number end top) (whole : (x : ℕ) → Cell x → IsWhole Near up number end far order count x)
    (listed : (k : ℕ) → k < count → IsListed Cell number order k)
    (settled : (x : ℕ) → Cell x → IsSettled Near Cell up number end far top most x) where
  size : ℕ → ℕ
  size = subtree_size number end

  parent : (x : ℕ) → Cell x → up x ≢ x → Cell (up x)
  parent = cell_up Near Cell n count up number end top far order turn cell inside tree whole listed

  same_top : (x : ℕ) → Cell x → up x ≢ x → top x ≡ top (up x)
  same_top x in_x ne = let fit = tree x (inside x in_x) in fit.same (up x) (fit.edge ne)

  -- the subtree of a cell that is no root hangs, or its edge is no bridge
  no_bridge : (x : ℕ) → Cell x → up x ≢ x → far x < number x → IsBridge Near x (up x) → ⊥
  no_bridge x in_x ne less bridge =
      bridge.alone (crossed Near n up number end top turn (near_inside Near Cell n count up number end top far order turn cell inside tree whole listed) tree x (inside x in_x) ne ((settled x in_x).crossed ne less))

  hung_of : (x : ℕ) → Cell x → up x ≢ x → IsBridge Near x (up x) → IsHung up number far x
  hung_of x in_x ne bridge = elim (cases_lt (far x) (number x)) [
    | inl less ↦ absurd (no_bridge x in_x ne less bridge)
    | inr held ↦ record { child = ne; held = held }
  ]

  -- a cell below a subtree that hangs has no more than its size
  most_below : (fuel v x : ℕ) → Cell v → IsHung up number far v → Cell x → IsInRange number end v x → number x < fuel → most x ≤ subtree_size number end v
  most_below zero v x in_v hung in_x r less = absurd (omega (arith, less))
  most_below (suc fuel) v x in_v hung in_x r less = elim (cases_eq (number x) (number v)) [
    | inl e ↦ (
        let same : x ≡ v = one_number Near Cell n count up number end top far order turn cell inside tree whole listed x v in_x in_v e in
        let own = (settled v in_v).hung hung in
        omega (arith, own, ap most same))
    | inr other ↦ (
        let above = parent_within Near Cell n count up number end top far order turn cell inside tree whole listed v x in_v in_x (omega (arith, other, r.0)) r.1 in
        let rises = (tree x (inside x in_x)).rises above.0 in
        elim (cases_lt (far x) (number x)) [
          | inl off ↦ (
              let same = (settled x in_x).same above.0 off in
              let rest = most_below fuel v (up x) in_v hung (parent x in_x above.0) (above.1, omega (arith, rises, r.1)) (omega (arith, rises, less)) in
              omega (arith, same, rest))
          | inr held ↦ (
              let own = (settled x in_x).hung (record { child = above.0; held = held }) in
              let ends = (within Near Cell n count up number end top far order turn cell inside tree whole listed v x in_v in_x r.0 r.1).ends in
              omega (arith, own, ends, r.0))
        ])
  ]

  -- a cell has no more than what a subtree of its part leaves
  most_above : (fuel v x : ℕ) → Cell v → IsHung up number far v → Cell x → top x ≡ top v → number x < fuel → most x ≤ subtree_size number end (top v) - subtree_size number end v
  most_above zero v x in_v hung in_x one less = absurd (omega (arith, less))
  most_above (suc fuel) v x in_v hung in_x one less =
      let half = (settled v in_v).half hung in
      elim (cases_eq (up x) x) [
        | inl own ↦ (
            let root : x ≡ top v = sym ((tree x (inside x in_x)).root own) ∙ one in
            let rest = (settled v in_v).rest hung in
            omega (arith, rest, ap most root))
        | inr ne ↦ elim (cases_lt (far x) (number x)) [
          | inl off ↦ (
              let rises = (tree x (inside x in_x)).rises ne in
              let same = (settled x in_x).same ne off in
              let rest = most_above fuel v (up x) in_v hung (parent x in_x ne) (sym (same_top x in_x ne) ∙ one) (omega (arith, rises, less)) in
              omega (arith, same, rest))
          | inr held ↦ (
              let hung_x : IsHung up number far x = record { child = ne; held = held } in
              let own = (settled x in_x).hung hung_x in
              let half_x = (settled x in_x).half hung_x in
              let e : subtree_size number end (top x) ≡ subtree_size number end (top v) = ap (subtree_size number end) one in
              omega (arith, own, half, half_x, e))
        ]
      ]

  -- so each side that has the cell has that many cells
  pub roomy_of : (k x : ℕ) → Cell x → k ≤ most x → IsRoomy Near k x
  roomy_of k x in_x le a b bridge side = elim (cases_eq (up b) a) [
    | inl is ↦ (
        let in_b : Cell b = cell b a (turn a b bridge.edge) in
        let ne : up b ≢ b = λ own. loop a b bridge (sym is ∙ own) in
        let back : IsBridge Near b (up b) = record { edge = (tree b (inside b in_b)).edge ne; alone = λ j. bridge.alone (subst (λ (p : ℕ). AreJoined (Besides Near p b) p b) is (over b j)) } in
        let hung = hung_of b in_b ne back in
        let r = (below_is Near Cell n count up number end top far order turn cell inside tree whole listed b in_b hung x (subst (λ (p : ℕ). IsOnSide Near p b x) (sym is) side)).1 in
        let few = most_below (suc (number x)) b x in_b hung in_x r (omega arith) in
        subst (λ (p : ℕ). HasSide Near p b k) is (many_below_it Near Cell n count up number end top far order turn cell inside tree whole listed b in_b hung k (omega (arith, few, le))))
    | inr not_down ↦ elim (cases_eq (up a) b) [
      | inl is ↦ (
          let in_a : Cell a = cell a b bridge.edge in
          let ne : up a ≢ a = λ own. loop a b bridge (sym own ∙ is) in
          let there : IsBridge Near a (up a) = subst (IsBridge Near a) (sym is) bridge in
          let hung = hung_of a in_a ne there in
          let it = above_is Near Cell n count up number end top far order turn cell inside tree whole listed a in_a hung x (subst (λ (p : ℕ). IsOnSide Near a p x) (sym is) side) in
          let few = most_above (suc (number x)) a x in_a hung in_x it.2 (omega arith) in
          subst (λ (p : ℕ). HasSide Near a p k) is (many_above_it Near Cell n count up number end top far order turn cell inside tree whole listed a in_a hung k (omega (arith, few, le))))
      | inr not_up ↦ absurd (bridge.alone (off_tree Near n up number end top turn (near_inside Near Cell n count up number end top far order turn cell inside tree whole listed) tree a b bridge.edge not_up not_down))
    ]
  ]
    where
      loop : (a b : ℕ) → IsBridge Near a b → a ≡ b → ⊥
      loop a b bridge e = bridge.alone (joined_same (Besides Near a b) a b e)

      over : (b : ℕ) → AreJoined (Besides Near b (up b)) b (up b) → AreJoined (Besides Near (up b) b) (up b) b
      over b j = other_way Near b (up b) (up b) b (joined_back (Besides Near b (up b)) (besides_back Near turn b (up b)) b (up b) j)

  -- both ends of an edge that is no bridge are on the same sides
  roomy_up : (k x : ℕ) → Cell x → up x ≢ x → far x < number x → IsRoomy Near k x → IsRoomy Near k (up x)
  roomy_up k x in_x ne off roomy a b bridge side =
      let edge = (tree x (inside x in_x)).edge ne in
      let step : Besides Near a b (up x) x = record {
        near = turn x (up x) edge;
        there = λ i j. no_bridge x in_x ne off (back a b bridge i j);
        back = λ i j. no_bridge x in_x ne off (subst (λ (p : ℕ). IsBridge Near x p) (sym i) (subst (λ (p : ℕ). IsBridge Near p b) (sym j) bridge));
      } in
      roomy a b bridge (joined_on (Besides Near a b) b (up x) x side (joined_by (Besides Near a b) (up x) x step))
    where
      back : (a b : ℕ) → IsBridge Near a b → up x ≡ a → x ≡ b → IsBridge Near x (up x)
      back a b bridge i j = record {
        edge = (tree x (inside x in_x)).edge ne;
        alone = λ joined. bridge.alone (subst (λ (p : ℕ). AreJoined (Besides Near p b) p b) i (subst (λ (q : ℕ). AreJoined (Besides Near (up x) q) (up x) q) j
            (other_way Near x (up x) (up x) x (joined_back (Besides Near x (up x)) (besides_back Near turn x (up x)) x (up x) joined))));
      }

  -- and some side has no more
  most_of : (fuel k x : ℕ) → Cell x → k ≤ 4294967295 → IsRoomy Near k x → number x < fuel → k ≤ most x
  most_of zero k x in_x small roomy less = absurd (omega (arith, less))
  most_of (suc fuel) k x in_x small roomy less = elim (cases_eq (up x) x) [
    | inl own ↦ elim ((settled x in_x).root own) [
      | inl free ↦ omega (arith, free, small)
      | inr (w, it) ↦ (
          let root : top x ≡ x = (tree x (inside x in_x)).root own in
          let off : IsInRange number end w x → ⊥ = λ r. at_root w it.cell it.hung.child it.under r in
          let side = above_has Near Cell n count up number end top far order turn cell inside tree whole listed w it.cell it.hung x in_x off (root ∙ sym it.under) in
          let few = few_above_it Near Cell n count up number end top far order turn cell inside tree whole listed w it.cell it.hung k (roomy w (up w) (hung_bridge Near Cell n count up number end top far order turn cell inside tree whole listed w it.cell it.hung) side) in
          let e : subtree_size number end (top w) ≡ subtree_size number end x = ap (subtree_size number end) it.under in
          omega (arith, few, it.rest, e))
    ]
    | inr ne ↦ elim (cases_lt (far x) (number x)) [
      | inl off ↦ (
          let rises = (tree x (inside x in_x)).rises ne in
          let same = (settled x in_x).same ne off in
          let rest = most_of fuel k (up x) (parent x in_x ne) small (roomy_up k x in_x ne off roomy) (omega (arith, rises, less)) in
          omega (arith, same, rest))
      | inr held ↦ (
          let hung : IsHung up number far x = record { child = ne; held = held } in
          let side = roomy (up x) x (hung_back Near Cell n count up number end top far order turn cell inside tree whole listed x in_x hung) (joined_same (Besides Near (up x) x) x x refl) in
          let few = few_below_it Near Cell n count up number end top far order turn cell inside tree whole listed x in_x hung k side in
          let own = (settled x in_x).hung hung in
          omega (arith, few, own))
    ]
  ]
    where
      at_root : (w : ℕ) → Cell w → up w ≢ w → top w ≡ x → IsInRange number end w x → ⊥
      at_root w in_w ne under r =
          let there = top_is Near Cell n count up number end top far order turn cell inside tree whole listed w in_w in
          let e : number (top w) ≡ number x = ap number under in
          let same : w ≡ x = one_number Near Cell n count up number end top far order turn cell inside tree whole listed w x in_w in_x (omega (arith, there.2, e, r.0)) in
          let root : top w ≡ w = under ∙ sym same in
          ne (subst (λ (t : ℕ). up t ≡ t) root there.1)

  pub settled_is : (x k : ℕ) → Cell x → k ≤ 4294967295 → (k ≤ most x) ↔ IsRoomy Near k x
  settled_is x k in_x small = (λ le. roomy_of k x in_x le, λ roomy. most_of (suc (number x)) k x in_x small roomy (omega arith))

-- of a map: what the checks of a tree show
pub shown : {A : Type 0} (m : Floor) (t : Tree A) (most : List ℕ) → IsSpanning m t → IsWalk m t → ((c : ℕ) → IsFloor m c → IsSettledIn m t (slice_index most) c) → length most ≡ length m.letters → AreRoomyFor m most
shown m t most span walk settled size = record {
  size = size;
  each = λ c k floor less.
      settled_is (IsNeighbour m) (IsFloor m) (length m.letters) (length t.order.items) (slice_index t.up.items) (slice_index t.number.items) (slice_index t.end.items) (slice_index t.top.items) (slice_index t.far.items) (slice_index t.order.items) (slice_index most)
      (near_turn m) (λ x y e. e.1.from) (floor_inside m) span.fits walk.whole walk.listed settled c k floor (omega (arith, less));
}
