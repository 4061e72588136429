-- The numbers of a whole tree: a range of numbers is a subtree, and a subtree that hangs is left by one edge.
use Rattle.std.proofs.Common.{◌≡◌, ◌≢◌, ℕ, zero, suc, ◌+◌, ◌<◌, ◌≤◌, inl, inr, sym, ap, subst, ◌∙◌, arith}
use Rattle.std.proofs.lemmas.Bool.{cases_eq, cases_lt}
use Rattle.fleet_grid.specs.Walk.{Besides}
use Rattle.fleet_bridge.specs.inside.Tree.{IsUnder, IsTree}
use Rattle.fleet_bridge.specs.inside.Preorder.{IsWhole, IsListed, IsHung}
use Rattle.fleet_bridge.proofs.Certificate.{under_same, under_up}

-- the number of `x` is in the range of `v`'s subtree
abbrev pub IsInRange : (number end : ℕ → ℕ) → ℕ → ℕ → Type 0
IsInRange number end v x = (number v ≤ number x) × (number x < end v)

-- a cell of a subtree, as the numbers show it
pub record IsWithin (up number end far top : ℕ → ℕ) (v x : ℕ) : Type 0 where
  pub under : IsUnder up v x
  pub ends : end x ≤ end v
  pub far_no_less : far v ≤ far x
  pub one_top : top x ≡ top v

module _ (Near : ℕ → ℕ → Type 0) (Cell : ℕ → Type 0) (n count : ℕ) (up number end top far order : ℕ → ℕ)
    (turn : (x y : ℕ) → Near x y → Near y x) (cell : (x y : ℕ) → Near x y → Cell x) (inside : (x : ℕ) → Cell x → x < n)
    (tree : IsTree Near n up number end top) (whole : (x : ℕ) → Cell x → IsWhole Near up number end far order count x)
    (listed : (k : ℕ) → k < count → IsListed Cell number order k) where
  pub cell_up : (x : ℕ) → Cell x → up x ≢ x → Cell (up x)
  cell_up x in_x ne = cell (up x) x (turn x (up x) ((tree x (inside x in_x)).edge ne))

  pub one_number : (x y : ℕ) → Cell x → Cell y → number x ≡ number y → x ≡ y
  one_number x y in_x in_y e = sym (whole x in_x).here ∙ (ap order e ∙ (whole y in_y).here)

  -- from a child of `p` on, each cell of `p`'s range has its parent there
  child_on : (fuel p c x : ℕ) → Cell c → up c ≡ p → p ≢ c → Cell x → number c ≤ number x → number x < end p → number x < number c + fuel → (up x ≢ x) × (number p ≤ number (up x))
  child_on zero p c x in_c is ne in_x from to less = absurd (omega (arith, from, less))
  child_on (suc fuel) p c x in_c is ne in_x from to less =
      let child : up c ≢ c = λ e. ne (sym is ∙ e) in
      let rises : number p < number c = subst (λ (q : ℕ). number q < number c) is ((tree c (inside c in_c)).rises child) in
      elim (cases_eq (number x) (number c)) [
        | inl e ↦ (
            let same : x ≡ c = one_number x c in_x in_c e in
            let above : up x ≡ p = ap up same ∙ is in
            (λ own. ne (sym above ∙ (own ∙ same)), omega (arith, ap number above)))
        | inr other ↦ elim (cases_lt (number x) (end c)) [
          | inl before ↦ (
              let second : number c + 1 < end c = omega (arith, from, other, before) in
              let at = listed (number c + 1) (omega (arith, second, (whole c in_c).last)) in
              let d = order (number c + 1) in
              let parent : up d ≡ c = (whole c in_c).child second in
              let apart : c ≢ d = λ e. (let same : number c ≡ number d = ap number e in omega (arith, same, at.1)) in
              let rest = child_on fuel c d x at.0 parent apart in_x (omega (arith, at.1, from, other)) before (omega (arith, at.1, less)) in
              (rest.0, omega (arith, rest.1, rises)))
          | inr after ↦ (
              let within : end c < end p = omega (arith, after, to) in
              let at = listed (end c) (omega (arith, after, (tree x (inside x in_x)).some, (whole x in_x).last)) in
              let d = order (end c) in
              let some : number c < end c = (tree c (inside c in_c)).some in
              let parent : up d ≡ p = (whole c in_c).next child (subst (λ (q : ℕ). end c < end q) (sym is) within) ∙ is in
              let apart : p ≢ d = λ e. (let same : number p ≡ number d = ap number e in omega (arith, same, at.1, rises, some)) in
              child_on fuel p d x at.0 parent apart in_x (omega (arith, at.1, after)) to (omega (arith, at.1, less, some)))
        ]
      ]

  -- a cell after `v` in its range has its parent there
  pub parent_within : (v x : ℕ) → Cell v → Cell x → number v < number x → number x < end v → (up x ≢ x) × (number v ≤ number (up x))
  parent_within v x in_v in_x from to =
      let second : number v + 1 < end v = omega (arith, from, to) in
      let at = listed (number v + 1) (omega (arith, second, (whole v in_v).last)) in
      let d = order (number v + 1) in
      let apart : v ≢ d = λ e. (let same : number v ≡ number d = ap number e in omega (arith, same, at.1)) in
      child_on (number x) v d x at.0 ((whole v in_v).child second) apart in_x (omega (arith, at.1, from)) to (omega (arith, at.1))

  -- the range is the subtree
  climb_within : (fuel v x : ℕ) → Cell v → Cell x → number v ≤ number x → number x < end v → number x < number v + fuel → IsWithin up number end far top v x
  climb_within zero v x in_v in_x from to less = absurd (omega (arith, from, less))
  climb_within (suc fuel) v x in_v in_x from to less =
      elim (cases_eq (number x) (number v)) [
        | inl e ↦ (
            let same : x ≡ v = one_number x v in_x in_v e in
            record { under = under_same up v x same; ends = omega (arith, ap end same); far_no_less = omega (arith, ap far same); one_top = ap top same })
        | inr other ↦ (
            let above = parent_within v x in_v in_x (omega (arith, from, other)) to in
            let fit = tree x (inside x in_x) in
            let rises : number (up x) < number x = fit.rises above.0 in
            let rest = climb_within fuel v (up x) in_v (cell_up x in_x above.0) above.1 (omega (arith, rises, to)) (omega (arith, rises, less)) in
            record {
              under = under_up up v x rest.under;
              ends = omega (arith, rest.ends, fit.nests above.0);
              far_no_less = omega (arith, rest.far_no_less, (whole x in_x).hands);
              one_top = fit.same (up x) (fit.edge above.0) ∙ rest.one_top;
            })
      ]

  pub within : (v x : ℕ) → Cell v → Cell x → number v ≤ number x → number x < end v → IsWithin up number end far top v x
  within v x in_v in_x from to = climb_within (suc (number x)) v x in_v in_x from to (omega arith)

  -- a step that is not over the edge to the parent stays in the range of a subtree that hangs
  pub stays : (v x y : ℕ) → Cell v → IsHung up number far v → number v ≤ number x → number x < end v → Besides Near v (up v) x y → (number v ≤ number y) × (number y < end v)
  stays v x y in_v hung from to step =
      let in_x = cell x y step.near in
      let in_y = cell y x (turn x y step.near) in
      let at = within v x in_v in_x from to in
      let ends = at.ends in
      elim (cases_eq (up x) y) [
        | inl is ↦ elim (cases_eq (number x) (number v)) [
          | inl e ↦ (let same : x ≡ v = one_number x v in_x in_v e in absurd (step.there same (sym is ∙ ap up same)))
          | inr other ↦ (
              let above = parent_within v x in_v in_x (omega (arith, from, other)) to in
              let rises = (tree x (inside x in_x)).rises above.0 in
              let e : number (up x) ≡ number y = ap number is in
              (omega (arith, above.1, e), omega (arith, rises, e, to)))
        ]
        | inr not_up ↦ elim (cases_eq (up y) x) [
          | inl is ↦ elim (cases_eq x y) [
            | inl same ↦ (let e : number x ≡ number y = ap number same in (omega (arith, e, from), omega (arith, e, to)))
            | inr ne ↦ (
                let fit = tree y (inside y in_y) in
                let child : up y ≢ y = λ own. ne (sym is ∙ own) in
                let rises = fit.rises child in
                let nests = fit.nests child in
                let e : number (up y) ≡ number x = ap number is in
                let f : end (up y) ≡ end x = ap end is in
                let some = fit.some in
                (omega (arith, rises, e, from), omega (arith, some, nests, f, ends)))
          ]
          | inr not_down ↦ (
              let held = (whole x in_x).held y step.near not_up not_down in
              (omega (arith, held.0, at.far_no_less, hung.held), omega (arith, held.1, ends)))
        ]
      ]
