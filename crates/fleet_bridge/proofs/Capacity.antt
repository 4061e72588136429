-- No cell is in a core for more robots than the capacity of its part.
use Rattle.std.proofs.Common.{◌≡◌, ℕ, suc, ◌+◌, ◌-◌, ◌<◌, ◌≤◌, ◌⊎◌, inl, inr, length, sym, ap, ◌∙◌, arith}
use Rattle.std.specs.Prelude.{slice_index}
use Rattle.std.proofs.lemmas.Bool.{cases_lt}
use Rattle.fleet_grid.specs.Walk.{IsBridge, IsOnSide}
use Rattle.fleet_bridge.specs.Rooms.{HasPart, HasSideWithout, IsCore}
use Rattle.fleet_bridge.specs.inside.Tree.{IsTree}
use Rattle.fleet_bridge.specs.inside.Preorder.{IsWhole, IsListed, IsHung, subtree_size}
use Rattle.fleet_bridge.specs.inside.Housed.{IsHoused}
use Rattle.fleet_bridge.proofs.Ranges.{IsInRange, within}
use Rattle.fleet_bridge.proofs.Beyond.{few_below_it}
use Rattle.fleet_bridge.proofs.Gaps.{IsOff}
use Rattle.fleet_bridge.proofs.Doors.{few_off, inmost_of}
use Rattle.fleet_bridge.proofs.Housing as housing

module _ (Near : ℕ → ℕ → Type 0) (Cell : ℕ → Type 0) (n count : ℕ) (up number end top far order door first second most : ℕ → ℕ)
    (turn : (x y : ℕ) → Near x y → Near y x) (cell : (x y : ℕ) → Near x y → Cell x) (inside : (x : ℕ) → Cell x → x < n)
    (tree : IsTree Near n up number end top) (whole : (x : ℕ) → Cell x → IsWhole Near up number end far order count x)
    (listed : (k : ℕ) → k < count → IsListed Cell number order k)
    (housed : (x : ℕ) → Cell x → IsHoused Near Cell up number end far top door first second most x) where
  root_is : (x : ℕ) → Cell x → Cell (top x) × (up (top x) ≡ top x) × (number (top x) ≤ number x) × (number x < end (top x)) × (top (top x) ≡ top x)
  root_is = housing.root_is Near Cell n count up number end top far order door first second most turn cell inside tree whole listed housed

  bridge_down : (v : ℕ) → Cell v → IsHung up number far v → IsBridge Near (up v) v
  bridge_down = housing.bridge_down Near Cell n count up number end top far order door first second most turn cell inside tree whole listed housed

  bridge_up : (v : ℕ) → Cell v → IsHung up number far v → IsBridge Near v (up v)
  bridge_up = housing.bridge_up Near Cell n count up number end top far order door first second most turn cell inside tree whole listed housed

  below_in : (v : ℕ) → Cell v → IsHung up number far v → (x : ℕ) → Cell x → IsInRange number end v x → IsOnSide Near (up v) v x
  below_in = housing.below_in Near Cell n count up number end top far order door first second most turn cell inside tree whole listed housed

  in_above : (v : ℕ) → Cell v → IsHung up number far v → (x : ℕ) → IsOnSide Near v (up v) x → Cell x × (IsInRange number end v x → ⊥) × (top x ≡ top v)
  in_above = housing.in_above Near Cell n count up number end top far order door first second most turn cell inside tree whole listed housed

  above_in : (v : ℕ) → Cell v → IsHung up number far v → (x : ℕ) → Cell x → (IsInRange number end v x → ⊥) → top x ≡ top v → IsOnSide Near v (up v) x
  above_in = housing.above_in Near Cell n count up number end top far order door first second most turn cell inside tree whole listed housed

  off_range : (v x : ℕ) → (IsInRange number end v x → ⊥) → IsOff (number v) (end v) (number x)
  off_range = housing.off_range Near Cell n count up number end top far order door first second most turn cell inside tree whole listed housed

  part_few : (k x : ℕ) → Cell x → HasPart Near k x → k ≤ subtree_size number end (top x)
  part_few = housing.part_few Near Cell n count up number end top far order door first second most turn cell inside tree whole listed housed

  -- a part is around each of its cells
  nested_in : (r v : ℕ) → Cell v → top v ≡ r → (number r ≤ number v) × (end v ≤ end r)
  nested_in r v in_v under =
      let root = root_is v in_v in
      let ends = (within Near Cell n count up number end top far order turn cell inside tree whole listed (top v) v root.0 in_v root.2 root.3).ends in
      let from : number (top v) ≡ number r = ap number under in
      let to : end (top v) ≡ end r = ap end under in
      (omega (arith, root.2, from), omega (arith, ends, to))

  -- where a cell of a side without another lies
  record IsOuter (r v w y : ℕ) : Type 0 where
    cell_in : Cell y
    one : IsOff (number v) (end v) (number y)
    two : IsOff (number w) (end w) (number y)
    from : number r ≤ number y
    to : number y < end r

  outer_cell : (r v w k : ℕ) → Cell v → IsHung up number far v → Cell w → IsHung up number far w → top w ≡ r → (side : HasSideWithout Near (up v) v w (up w) k)
      → (i : ℕ) → i < length side.cells → IsOuter r v w (slice_index side.cells i)
  outer_cell r v w k in_v hung_v in_w hung_w under side i less =
      let y = slice_index side.cells i in
      let it = in_above w in_w hung_w y (side.inside i less) in
      let there = root_is y it.0 in
      let from : number (top y) ≡ number r = ap number (it.2 ∙ under) in
      let to : end (top y) ≡ end r = ap end (it.2 ∙ under) in
      record {
        cell_in = it.0;
        one = off_range v y (λ range. side.outside i less (below_in v in_v hung_v y it.0 range));
        two = off_range w y it.1;
        from = omega (arith, there.2, from);
        to = omega (arith, there.3, to);
      }

  -- so it has no more than the part without one subtree, or without two that are apart
  one_few : (k r v : ℕ) → Cell v → IsHung up number far v → top v ≡ r → HasSideWithout Near (up v) v v (up v) k → k ≤ (end r - number r) - (end v - number v)
  one_few k r v in_v hung under side =
      let around = nested_in r v in_v under in
      let some = (tree v (inside v in_v)).some in
      let few = few_off Near Cell n count up number end top far order turn cell inside tree whole listed (number r) (end r) (number v) (end v) (end r) (end r)
      around.0 (omega (arith, some)) around.1 (omega arith) (omega arith) side.cells side.apart
      (λ i less. (let it = outer_cell r v v k in_v hung in_v hung under side i less in record { cell = it.cell_in; from = it.from; to = it.to; one = it.one; two = inl it.to })) in
      omega (arith, few, side.many)

  two_few : (k r v w : ℕ) → Cell v → IsHung up number far v → top v ≡ r → Cell w → IsHung up number far w → top w ≡ r → (end v ≤ number w) ⊎ (end w ≤ number v)
      → HasSideWithout Near (up v) v w (up w) k → k + (end v - number v) + (end w - number w) ≤ end r - number r
  two_few k r v w in_v hung_v top_v in_w hung_w top_w apart side =
      let around_v = nested_in r v in_v top_v in
      let around_w = nested_in r w in_w top_w in
      let some_v = (tree v (inside v in_v)).some in
      let some_w = (tree w (inside w in_w)).some in
      elim apart [
        | inl before ↦ (
            let few = few_off Near Cell n count up number end top far order turn cell inside tree whole listed (number r) (end r) (number v) (end v) (number w) (end w)
            around_v.0 (omega (arith, some_v)) before (omega (arith, some_w)) around_w.1 side.cells side.apart
            (λ i less. (let it = outer_cell r v w k in_v hung_v in_w hung_w top_w side i less in record { cell = it.cell_in; from = it.from; to = it.to; one = it.one; two = it.two })) in
            omega (arith, few, side.many, around_v, around_w, some_v, some_w, before))
        | inr after ↦ (
            let few = few_off Near Cell n count up number end top far order turn cell inside tree whole listed (number r) (end r) (number w) (end w) (number v) (end v)
            around_w.0 (omega (arith, some_w)) after (omega (arith, some_v)) around_v.1 side.cells side.apart
            (λ i less. (let it = outer_cell r v w k in_v hung_v in_w hung_w top_w side i less in record { cell = it.cell_in; from = it.from; to = it.to; one = it.two; two = it.one })) in
            omega (arith, few, side.many, around_v, around_w, some_v, some_w, after))
      ]

  -- all of a subtree that hangs
  below_few : (k v : ℕ) → Cell v → IsHung up number far v → HasSideWithout Near v (up v) (up v) v k → k ≤ subtree_size number end v
  below_few k v in_v hung side =
      few_below_it Near Cell n count up number end top far order turn cell inside tree whole listed v in_v hung k (record { cells = side.cells; many = side.many; apart = side.apart; inside = side.inside })

  -- and all of it but for another one inside it
  between_few : (k v w : ℕ) → Cell v → IsHung up number far v → Cell w → IsHung up number far w → IsInRange number end v w → HasSideWithout Near v (up v) w (up w) k
      → k ≤ (end v - number v) - (end w - number w)
  between_few k v w in_v hung_v in_w hung_w range side =
      let inner = within Near Cell n count up number end top far order turn cell inside tree whole listed v w in_v in_w range.0 range.1 in
      let some = (tree w (inside w in_w)).some in
      let few = few_off Near Cell n count up number end top far order turn cell inside tree whole listed (number v) (end v) (number w) (end w) (end v) (end v)
      range.0 (omega (arith, some)) inner.ends (omega arith) (omega arith) side.cells side.apart
      (λ i less. (
      let y = slice_index side.cells i in
      let it = in_above w in_w hung_w y (side.inside i less) in
      let here : IsInRange number end v y = in_it v y (λ off. side.outside i less (above_in v in_v hung_v y it.0 off (it.2 ∙ inner.one_top))) in
      record { cell = it.0; from = here.0; to = here.1; one = off_range w y it.1; two = inl here.1 })) in
      omega (arith, few, side.many)
    where
      in_it : (v y : ℕ) → ((IsInRange number end v y → ⊥) → ⊥) → IsInRange number end v y
      in_it v y both = elim (cases_lt (number y) (number v)) [
        | inl before ↦ absurd (both (λ r. omega (arith, before, r.0)))
        | inr from ↦ elim (cases_lt (number y) (end v)) [ inl to ↦ (from, to) | inr after ↦ absurd (both (λ r. omega (arith, after, r.1))) ]
      ]

  -- no cell is in a core for more than the capacity of its part
  pub core_few : (k x : ℕ) → Cell x → IsCore Near k x → k ≤ most (top x)
  core_few k x in_x core = elim (inmost_of Near Cell n count up number end top far order turn cell inside tree whole listed (suc (number x)) x in_x (omega arith)) [
    | inl free ↦ elim ((housed (top x) (root_is x in_x).0).counted (root_is x in_x).1) [
      | inl all ↦ (let few = part_few k x in_x core.part in omega (arith, all, few))
      | inr some ↦ elim some [
        | inl (v, it) ↦ (
            let on = above_in v it.one.cell it.one.hung x in_x (free v it.one.cell it.one.hung) (sym it.one.under) in
            let few = one_few k (top x) v it.one.cell it.one.hung it.one.under (core.sides (up v) v (bridge_down v it.one.cell it.one.hung) on v (up v) (bridge_up v it.one.cell it.one.hung) on) in
            omega (arith, few, it.rest))
        | inr (v, w, it) ↦ (
            let on = above_in v it.one.cell it.one.hung x in_x (free v it.one.cell it.one.hung) (sym it.one.under) in
            let on' = above_in w it.two.cell it.two.hung x in_x (free w it.two.cell it.two.hung) (sym it.two.under) in
            let few = two_few k (top x) v w it.one.cell it.one.hung it.one.under it.two.cell it.two.hung it.two.under it.apart
            (core.sides (up v) v (bridge_down v it.one.cell it.one.hung) on w (up w) (bridge_up w it.two.cell it.two.hung) on') in
            omega (arith, few, it.rest))
      ]
    ]
    | inr (v, it) ↦ (
        let on = below_in v it.cell it.hung x in_x it.range in
        let same : most (top x) ≡ most (top v) = ap most it.one_top in
        elim ((housed v it.cell).lesser it.hung) [
          | inl all ↦ (
              let few = below_few k v it.cell it.hung (core.sides v (up v) (bridge_up v it.cell it.hung) on (up v) v (bridge_down v it.cell it.hung) on) in
              omega (arith, few, all, same))
          | inr (w, but) ↦ (
              let range : IsInRange number end v w = (omega (arith, but.after), but.before) in
              let one = (within Near Cell n count up number end top far order turn cell inside tree whole listed v w it.cell but.cell range.0 range.1).one_top in
              let on' = above_in w but.cell but.hung x in_x (λ r. (let le = it.inmost w but.cell but.hung r in omega (arith, le, but.after))) (it.one_top ∙ sym one) in
              let few = between_few k v w it.cell it.hung but.cell but.hung range (core.sides v (up v) (bridge_up v it.cell it.hung) on w (up w) (bridge_up w but.cell but.hung) on') in
              omega (arith, few, but.few, same))
        ])
  ]
