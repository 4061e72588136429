-- The outermost and the innermost subtree that hangs and has a cell, by the numbers that passed the check.
use Rattle.std.proofs.Common.{◌≡◌, ◌≢◌, ℕ, zero, suc, ◌+◌, ◌-◌, ◌<◌, ◌≤◌, ◌⊎◌, inl, inr, List, length, map, refl, sym, ap, subst, ◌∙◌, arith}
use Rattle.std.specs.Prelude.{slice_index}
use Rattle.std.specs.List.{range_with_len}
use Rattle.std.proofs.lemmas.Bool.{cases_eq, cases_lt}
use Rattle.std.proofs.lemmas.List.FromFn.{length-map-range_with_len, get_or-map-range_with_len}
use Rattle.fleet_bridge.specs.inside.Tree.{IsTree}
use Rattle.fleet_bridge.specs.inside.Preorder.{IsWhole, IsListed, IsHung, subtree_size}
use Rattle.fleet_bridge.specs.inside.Housed.{IsHoused, IsCounted, side_size}
use Rattle.fleet_bridge.proofs.Beyond.{top_is}
use Rattle.fleet_bridge.proofs.Gaps.{IsOff, pick, pick_rise, pick_in, shut, shut_less, shut_once}
use Rattle.fleet_bridge.proofs.Marks.{AreApart, few_in}
use Rattle.fleet_bridge.proofs.Ranges.{IsInRange, cell_up, one_number, parent_within, within}

-- no subtree that hangs has the cell
abbrev pub IsFree : (Cell : ℕ → Type 0) → (up number end far : ℕ → ℕ) → ℕ → Type 0
IsFree Cell up number end far x = (y : ℕ) → Cell y → IsHung up number far y → IsInRange number end y x → ⊥

-- the outermost subtree that hangs and has the cell
pub record IsInRoom (Cell : ℕ → Type 0) (up number end far top door : ℕ → ℕ) (x v : ℕ) : Type 0 where
  pub cell : Cell v
  pub hung : IsHung up number far v
  pub own : door v ≡ v
  pub range : IsInRange number end v x
  pub one_top : top x ≡ top v
  pub outermost : (y : ℕ) → Cell y → IsHung up number far y → IsInRange number end y x → number v ≤ number y

-- the innermost one
pub record IsInmost (Cell : ℕ → Type 0) (up number end far top : ℕ → ℕ) (x v : ℕ) : Type 0 where
  pub cell : Cell v
  pub hung : IsHung up number far v
  pub range : IsInRange number end v x
  pub one_top : top x ≡ top v
  pub inmost : (y : ℕ) → Cell y → IsHung up number far y → IsInRange number end y x → number y ≤ number v

abbrev pub HasDoor : (Cell : ℕ → Type 0) → (up number end far top door : ℕ → ℕ) → ℕ → Type 0
HasDoor Cell up number end far top door x = ((door x ≡ top x) × IsFree Cell up number end far x) ⊎ IsInRoom Cell up number end far top door x (door x)

-- a root hangs from nothing, and has no parent
pub root_housed : (Near : ℕ → ℕ → Type 0) (Cell : ℕ → Type 0) (up number end far top door first second most : ℕ → ℕ) (c : ℕ) → up c ≡ c → door c ≡ c → IsCounted Cell up number end far top c (most c)
    → most c + side_size number end c (first c) + side_size number end c (second c) ≤ subtree_size number end c → IsHoused Near Cell up number end far top door first second most c
root_housed Near Cell up number end far top door first second most c own at counted fits = record {
  root = λ e. at;
  counted = λ e. counted;
  fits = λ e. fits;
  crossed = λ ne off. absurd (ne own);
  within = λ ne other. absurd (ne own);
  opens = λ hung e. at;
  core = λ ne off e. absurd (ne own);
  one = λ hung e. absurd (hung.child own);
  two = λ hung e. absurd (hung.child own);
  lesser = λ hung. absurd (hung.child own);
}

-- a cell with its number in a range, and in neither of two gaps
pub record IsCellOff (Cell : ℕ → Type 0) (number : ℕ → ℕ) (lo hi a b c d x : ℕ) : Type 0 where
  pub cell : Cell x
  pub from : lo ≤ number x
  pub to : number x < hi
  pub one : IsOff a b (number x)
  pub two : IsOff c d (number x)

-- k such cells
pub record HasCellsOff (Cell : ℕ → Type 0) (number : ℕ → ℕ) (lo hi a b c d k : ℕ) : Type 0 where
  pub cells : List ℕ
  pub many : k ≤ length cells
  pub apart : AreApart cells
  pub each : (i : ℕ) → i < length cells → IsCellOff Cell number lo hi a b c d (slice_index cells i)

module _ (Near : ℕ → ℕ → Type 0) (Cell : ℕ → Type 0) (n count : ℕ) (up number end top far order : ℕ → ℕ)
    (turn : (x y : ℕ) → Near x y → Near y x) (cell : (x y : ℕ) → Near x y → Cell x) (inside : (x : ℕ) → Cell x → x < n)
    (tree : IsTree Near n up number end top) (whole : (x : ℕ) → Cell x → IsWhole Near up number end far order count x)
    (listed : (k : ℕ) → k < count → IsListed Cell number order k) where
  pub few_off : (lo hi a b c d : ℕ) → lo ≤ a → a ≤ b → b ≤ c → c ≤ d → d ≤ hi → (cells : List ℕ) → AreApart cells
      → ((i : ℕ) → i < length cells → IsCellOff Cell number lo hi a b c d (slice_index cells i)) → length cells ≤ (hi - lo) - (b - a) - (d - c)
  few_off lo hi a b c d la ab bc cd dh cells apart each =
      few_in (IsCellOff Cell number lo hi a b c d) (λ x. shut a b c d lo (number x)) ((hi - lo) - (b - a) - (d - c))
      (λ x it. shut_less a b c d lo hi (number x) la ab bc cd dh it.from it.to it.one it.two)
      (λ x y it other e. one_number Near Cell n count up number end top far order turn cell inside tree whole listed x y it.cell other.cell
      (shut_once a b c d lo hi (number x) (number y) la ab bc cd dh it.from it.one it.two other.from other.one other.two e))
      cells apart each

  pub many_off : (lo hi a b c d k : ℕ) → a ≤ b → b ≤ c → c ≤ d → hi ≤ count → lo ≤ hi → k + (b - a) + (d - c) ≤ hi - lo → HasCellsOff Cell number lo hi a b c d k
  many_off lo hi a b c d k ab bc cd last low room =
      let f : ℕ → ℕ = λ i. order (pick a b c d lo i) in
      let cells = map f (range_with_len 0 k) in
      let length_is : length cells ≡ k = length-map-range_with_len f 0 k in
      let at : (i : ℕ) → i < length cells → slice_index cells i ≡ order (pick a b c d lo i) = λ i less. get_or-map-range_with_len f 0 k i i 0 (omega (arith, less, length_is)) (omega arith) in
      let in_it : (i : ℕ) → i < length cells → (lo ≤ pick a b c d lo i) × (pick a b c d lo i < hi) × IsOff a b (pick a b c d lo i) × IsOff c d (pick a b c d lo i) =
      λ i less. pick_in a b c d lo hi i ab bc cd (omega (arith, less, length_is, room, low)) in
      let here : (i : ℕ) → i < length cells → IsListed Cell number order (pick a b c d lo i) = λ i less. (let it = in_it i less in listed (pick a b c d lo i) (omega (arith, it.1, last))) in
      record {
        cells = cells;
        many = omega (arith, length_is);
        apart = λ i j less inner same. (
            let before : i < length cells = omega (arith, less, inner) in
            let rise = pick_rise a b c d lo i j less in
            let e : number (order (pick a b c d lo i)) ≡ number (order (pick a b c d lo j)) = ap number (sym (at i before) ∙ (same ∙ at j inner)) in
            omega (arith, e, (here i before).1, (here j inner).1, rise));
        each = λ i less. (
            let it = in_it i less in
            let back : pick a b c d lo i ≡ number (order (pick a b c d lo i)) = sym (here i less).1 in
            subst (IsCellOff Cell number lo hi a b c d) (sym (at i less)) (record {
              cell = (here i less).0;
              from = subst (λ (q : ℕ). lo ≤ q) back it.0;
              to = subst (λ (q : ℕ). q < hi) back it.1;
              one = subst (IsOff a b) back it.2;
              two = subst (IsOff c d) back it.3;
            }));
      }

  pub parent : (x : ℕ) → Cell x → up x ≢ x → Cell (up x)
  parent = cell_up Near Cell n count up number end top far order turn cell inside tree whole listed

  pub same_top : (x : ℕ) → Cell x → up x ≢ x → top x ≡ top (up x)
  same_top x in_x ne = let fit = tree x (inside x in_x) in fit.same (up x) (fit.edge ne)

  pub own_range : (x : ℕ) → Cell x → IsInRange number end x x
  own_range x in_x = (let some = (tree x (inside x in_x)).some in (omega arith, some))

  -- a subtree of a cell that is no root has no root
  pub root_off : (y r : ℕ) → Cell y → up y ≢ y → Cell r → up r ≡ r → IsInRange number end y r → ⊥
  root_off y r in_y child in_r own range = elim (cases_eq (number r) (number y)) [
    | inl e ↦ (
        let same : r ≡ y = one_number Near Cell n count up number end top far order turn cell inside tree whole listed r y in_r in_y e in
        child (subst (λ (z : ℕ). up z ≡ z) same own))
    | inr ne ↦ (parent_within Near Cell n count up number end top far order turn cell inside tree whole listed y r in_y in_r (omega (arith, ne, range.0)) range.1).0 own
  ]

  -- what has a cell and is not the cell's own has its parent
  pub range_up : (y x : ℕ) → Cell y → Cell x → IsInRange number end y x → x ≢ y → (up x ≢ x) × IsInRange number end y (up x)
  range_up y x in_y in_x range ne =
      let other : number x ≢ number y = λ e. ne (one_number Near Cell n count up number end top far order turn cell inside tree whole listed x y in_x in_y e) in
      let above = parent_within Near Cell n count up number end top far order turn cell inside tree whole listed y x in_y in_x (omega (arith, other, range.0)) range.1 in
      let rises = (tree x (inside x in_x)).rises above.0 in
      (above.0, (above.1, omega (arith, rises, range.1)))

  -- what has a parent has its children
  pub range_down : (y x : ℕ) → Cell y → Cell x → up x ≢ x → IsInRange number end y (up x) → IsInRange number end y x
  range_down y x in_y in_x ne range =
      let fit = tree x (inside x in_x) in
      let rises = fit.rises ne in
      let nests = fit.nests ne in
      let some = fit.some in
      let ends = (within Near Cell n count up number end top far order turn cell inside tree whole listed y (up x) in_y (parent x in_x ne) range.0 range.1).ends in
      (omega (arith, rises, range.0), omega (arith, some, nests, ends))

  -- a subtree has the subtrees of its cells
  pub range_on : (y x z : ℕ) → Cell y → Cell x → IsInRange number end y x → IsInRange number end x z → IsInRange number end y z
  range_on y x z in_y in_x outer inner =
      let ends = (within Near Cell n count up number end top far order turn cell inside tree whole listed y x in_y in_x outer.0 outer.1).ends in
      (omega (arith, outer.0, inner.0), omega (arith, inner.1, ends))

  -- the numbers of a part are those of its root's range
  pub top_in : (r x : ℕ) → Cell r → up r ≡ r → Cell x → number r ≤ number x → number x < end r → top x ≡ r
  top_in r x in_r own in_x from to = (within Near Cell n count up number end top far order turn cell inside tree whole listed r x in_r in_x from to).one_top ∙ (tree r (inside r in_r)).root own

  -- the innermost subtree that hangs and has the cell
  pub inmost_of : (fuel x : ℕ) → Cell x → number x < fuel → IsFree Cell up number end far x ⊎ ((v : ℕ) × IsInmost Cell up number end far top x v)
  inmost_of zero x in_x less = absurd (omega (arith, less))
  inmost_of (suc fuel) x in_x less = elim (cases_eq (up x) x) [
    | inl own ↦ inl (λ y in_y hung r. root_off y x in_y hung.child in_x own r)
    | inr ne ↦ elim (cases_lt (far x) (number x)) [
      | inl off ↦ (
          let rises = (tree x (inside x in_x)).rises ne in
          let other : (y : ℕ) → IsHung up number far y → x ≢ y = λ y hung e. (let held = (subst (IsHung up number far) (sym e) hung).held in omega (arith, held, off)) in
          elim (inmost_of fuel (up x) (parent x in_x ne) (omega (arith, rises, less))) [
            | inl free ↦ inl (λ y in_y hung r. free y in_y hung (range_up y x in_y in_x r (other y hung)).1)
            | inr (v, it) ↦ inr (
              v,
              record {
                cell = it.cell;
                hung = it.hung;
                range = range_down v x it.cell in_x ne it.range;
                one_top = same_top x in_x ne ∙ it.one_top;
                inmost = λ y in_y hung r. it.inmost y in_y hung (range_up y x in_y in_x r (other y hung)).1;
              },
            )
          ])
      | inr held ↦ inr (
        x,
        record {
          cell = in_x;
          hung = record { child = ne; held = held };
          range = own_range x in_x;
          one_top = refl;
          inmost = λ y in_y hung r. r.0;
        },
      )
    ]
  ]

  module _ (door first second most : ℕ → ℕ) (housed : (x : ℕ) → Cell x → IsHoused Near Cell up number end far top door first second most x) where
    -- a cell whose parent is in a room is in it
    deeper : (x : ℕ) → Cell x → up x ≢ x → IsInRoom Cell up number end far top door (up x) (door (up x)) → HasDoor Cell up number end far top door x
    deeper x in_x ne room =
        let root = top_is Near Cell n count up number end top far order turn cell inside tree whole listed x in_x in
        let below : door (up x) ≢ top x = λ e. room.hung.child (subst (λ (z : ℕ). up z ≡ z) (sym e) root.1) in
        let e : door x ≡ door (up x) = (housed x in_x).within ne below in
        let rises = (tree x (inside x in_x)).rises ne in
        inr (subst (IsInRoom Cell up number end far top door x) (sym e) (record {
          cell = room.cell;
          hung = room.hung;
          own = room.own;
          range = range_down (door (up x)) x room.cell in_x ne room.range;
          one_top = same_top x in_x ne ∙ room.one_top;
          outermost = λ y in_y hung r. elim (cases_eq x y) [
            | inl same ↦ (let f : number x ≡ number y = ap number same in omega (arith, f, rises, room.range.0))
            | inr other ↦ room.outermost y in_y hung (range_up y x in_y in_x r other).1
          ];
        }))

    pub doored : (fuel x : ℕ) → Cell x → number x < fuel → HasDoor Cell up number end far top door x
    doored zero x in_x less = absurd (omega (arith, less))
    doored (suc fuel) x in_x less = elim (cases_eq (up x) x) [
      | inl own ↦ inl ((housed x in_x).root own ∙ sym ((tree x (inside x in_x)).root own), λ y in_y hung r. root_off y x in_y hung.child in_x own r)
      | inr ne ↦ (
          let rises = (tree x (inside x in_x)).rises ne in
          elim (doored fuel (up x) (parent x in_x ne) (omega (arith, rises, less))) [
            | inr room ↦ deeper x in_x ne room
            | inl free ↦ (
                let above : door (up x) ≡ top x = free.0 ∙ sym (same_top x in_x ne) in
                let up_free : (y : ℕ) → Cell y → IsHung up number far y → IsInRange number end y x → x ≢ y → ⊥ = λ y in_y hung r other. free.1 y in_y hung (range_up y x in_y in_x r other).1 in
                elim (cases_lt (far x) (number x)) [
                  | inl off ↦ inl (
                    (housed x in_x).core ne off above,
                    λ y in_y hung r. up_free y in_y hung r (λ e. (let held = (subst (IsHung up number far) (sym e) hung).held in omega (arith, held, off))),
                  )
                  | inr held ↦ (
                      let hung_x : IsHung up number far x = record { child = ne; held = held } in
                      let e : door x ≡ x = (housed x in_x).opens hung_x above in
                      inr (subst (IsInRoom Cell up number end far top door x) (sym e) (record {
                        cell = in_x;
                        hung = hung_x;
                        own = e;
                        range = own_range x in_x;
                        one_top = refl;
                        outermost = λ y in_y hung r. elim (cases_eq x y) [
                          | inl same ↦ (let f : number x ≡ number y = ap number same in omega (arith, f))
                          | inr other ↦ absurd (up_free y in_y hung r other)
                        ];
                      })))
                ])
          ])
    ]

    pub door_of : (x : ℕ) → Cell x → HasDoor Cell up number end far top door x
    door_of x in_x = doored (suc (number x)) x in_x (omega arith)

    -- two rooms are apart
    pub rooms_apart : (x v y w : ℕ) → Cell y → IsInRoom Cell up number end far top door x v → IsInRoom Cell up number end far top door y w → number v < number w → end v ≤ number w
    rooms_apart x v y w in_y one two less = elim (cases_lt (number w) (end v)) [
      | inl inner ↦ (
          let r = range_on v w y one.cell two.cell (omega (arith, less), inner) two.range in
          let outer = two.outermost v one.cell one.hung r in
          absurd (omega (arith, outer, less)))
      | inr apart ↦ apart
    ]
