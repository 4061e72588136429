-- An edge that leaves a subtree gives the walk around the edge to the parent; an edge off the tree has the tree's walk around it.
use Rattle.std.proofs.Common.{◌≡◌, ◌≢◌, ℕ, zero, suc, ◌<◌, ◌≤◌, inl, inr, refl, sym, ap, subst, ◌∙◌, arith}
use Rattle.std.proofs.lemmas.Bool.{cases_eq}
use Rattle.fleet_grid.specs.Walk.{Besides, AreJoined}
use Rattle.fleet_bridge.specs.inside.Tree.{climb, IsUnder, IsTree, IsCrossed}
use Rattle.fleet_bridge.proofs.Joins.{joined_same, joined_on, joined_by, joined_back, besides_back}

pub under_same : (up : ℕ → ℕ) (v x : ℕ) → x ≡ v → IsUnder up v x
under_same up v x e = record { times = zero; comes = e }

pub under_up : (up : ℕ → ℕ) (v x : ℕ) → IsUnder up v (up x) → IsUnder up v x
under_up up v x u = record { times = suc u.times; comes = u.comes }

climb_on : (up : ℕ → ℕ) (k : ℕ) (x : ℕ) → climb up (suc k) x ≡ up (climb up k x)
climb_on up zero x = refl
climb_on up (suc k) x = climb_on up k (up x)

-- what is under a child is under its parent
pub under_parent : (up : ℕ → ℕ) (c x : ℕ) → IsUnder up c x → IsUnder up (up c) x
under_parent up c x u = record { times = suc u.times; comes = climb_on up u.times x ∙ ap up u.comes }

module _ (Near : ℕ → ℕ → Type 0) (n : ℕ) (up number end top : ℕ → ℕ)
    (turn : (x y : ℕ) → Near x y → Near y x) (bound : (x y : ℕ) → Near x y → (x < n) × (y < n))
    (tree : IsTree Near n up number end top) where
  same_top : (a b : ℕ) → Near a b → top a ≡ top b
  same_top a b near = (tree a (bound a b near).0).same b near

  -- going up from `c` by steps of R one comes to the top, where `P` is kept
  to_top : (R : ℕ → ℕ → Type 0) (P : ℕ → Type 0) → ((z : ℕ) → z < n → P z → up z ≢ z → R z (up z) × P (up z))
      → (m c : ℕ) → number c < m → c < n → P c → AreJoined R c (top c)
  to_top R P step zero c less small p = absurd (omega arith)
  to_top R P step (suc m) c less small p =
      elim (cases_eq (up c) c) [
        | inl is ↦ joined_same R c (top c) (sym ((tree c small).root is))
        | inr ne ↦ (
            let next = step c small p ne in
            let edge = (tree c small).edge ne in
            let low : number (up c) < m = omega (arith, (tree c small).rises ne) in
            let rest = to_top R P step m (up c) low (bound c (up c) edge).1 next.1 in
            let same : top (up c) ≡ top c = sym (same_top c (up c) edge) in
            joined_on R c (up c) (top c) (joined_by R c (up c) next.0) (subst (AreJoined R (up c)) same rest))
      ]

  -- the numbers of a subtree
  pub under_within : (v : ℕ) (k x : ℕ) → x < n → climb up k x ≡ v → (number v ≤ number x) × (number x < end v)
  under_within v zero x small e =
      let low : number x ≡ number v = ap number e in
      let high : end x ≡ end v = ap end e in
      (omega arith, omega (arith, (tree x small).some))
  under_within v (suc k) x small e =
      elim (cases_eq (up x) x) [
        | inl is ↦ under_within v k x small (subst (λ (y : ℕ). climb up k y ≡ v) is e)
        | inr ne ↦ (
            let edge = (tree x small).edge ne in
            let h = above v k (up x) (bound x (up x) edge).1 e in
            let some = (tree x small).some in
            let rises = (tree x small).rises ne in
            let nests = (tree x small).nests ne in
            (omega arith, omega arith))
      ]
    where
      above : (v : ℕ) (k x : ℕ) → x < n → climb up k x ≡ v → (number v ≤ number x) × (end x ≤ end v)
      above v zero x small e = (let low : number x ≡ number v = ap number e in omega arith, let high : end x ≡ end v = ap end e in omega arith)
      above v (suc k) x small e =
          elim (cases_eq (up x) x) [
            | inl is ↦ above v k x small (subst (λ (y : ℕ). climb up k y ≡ v) is e)
            | inr ne ↦ (
                let edge = (tree x small).edge ne in
                let h = above v k (up x) (bound x (up x) edge).1 e in
                let rises = (tree x small).rises ne in
                let nests = (tree x small).nests ne in
                (omega arith, omega arith))
          ]

  -- an edge off the tree is no bridge
  pub off_tree : (a b : ℕ) → Near a b → up a ≢ b → up b ≢ a → AreJoined (Besides Near a b) a b
  off_tree a b near away back =
      let R = Besides Near a b in
      let turn_r = besides_back Near turn a b in
      let step : (z : ℕ) → z < n → Unit {0} → up z ≢ z → R z (up z) × Unit {0} =
      λ z small p ne. (record { near = (tree z small).edge ne; there = λ i j. away (ap up (sym i) ∙ j); back = λ i j. back (ap up (sym i) ∙ j) }, tt) in
      let from = to_top R (λ (z : ℕ). Unit {0}) step (suc (number a)) a (omega arith) (bound a b near).0 tt in
      let to = to_top R (λ (z : ℕ). Unit {0}) step (suc (number b)) b (omega arith) (bound a b near).1 tt in
      joined_on R a (top a) b from (subst (λ (t : ℕ). AreJoined R t b) (sym (same_top a b near)) (joined_back R turn_r b (top b) to))

  -- an edge whose crossing the numbers show is no bridge
  module _ (v : ℕ) (small : v < n) (child : up v ≢ v) where
    -- no step up but that of `v` crosses the edge
    step_up : (z : ℕ) → z < n → z ≢ v → up z ≢ z → Besides Near v (up v) z (up z)
    step_up z small_z other ne = record {
      near = (tree z small_z).edge ne;
      there = λ i j. other i;
      back = λ i j.
          (let one : number (up z) < number z = (tree z small_z).rises ne in
          let two : number (up v) < number v = (tree v small).rises child in
          let e : number z ≡ number (up v) = ap number i in
          let f : number (up z) ≡ number v = ap number j in
          omega arith);
    }

    pub from_under : (k x : ℕ) → x < n → climb up k x ≡ v → AreJoined (Besides Near v (up v)) x v
    from_under zero x small_x e = joined_same _ x v e
    from_under (suc k) x small_x e =
        elim (cases_eq x v) [
          | inl is ↦ joined_same _ x v is
          | inr other ↦ elim (cases_eq (up x) x) [
            | inl is ↦ from_under k x small_x (subst (λ (y : ℕ). climb up k y ≡ v) is e)
            | inr ne ↦ joined_on _ x (up x) v (joined_by _ x (up x) (step_up x small_x other ne)) (from_under k (up x) (bound x (up x) ((tree x small_x).edge ne)).1 e)
          ]
        ]

    pub out_to_top : (y : ℕ) → y < n → (IsUnder up v y → ⊥) → AreJoined (Besides Near v (up v)) y (top y)
    out_to_top y small_y out =
        to_top (Besides Near v (up v)) (λ (z : ℕ). IsUnder up v z → ⊥)
        (λ z small_z p ne. (step_up z small_z (λ e. p (under_same up v z e)) ne, λ u. p (under_up up v z u)))
        (suc (number y)) y (omega arith) small_y out

    pub crossed : IsCrossed Near up number end v → AreJoined (Besides Near v (up v)) v (up v)
    crossed it =
        let R = Besides Near v (up v) in
        let turn_r = besides_back Near turn v (up v) in
        let x = it.inner in
        let y = it.outer in
        let p = up v in
        let edge = (tree v small).edge child in
        let ends = bound x y it.near in
        let out_y : IsUnder up v y → ⊥ = λ u. (
        let w = under_within v u.times y ends.1 u.comes in
        elim it.out [ inl low ↦ omega arith | inr high ↦ omega arith ]) in
        let two : number p < number v = (tree v small).rises child in
        let out_p : IsUnder up v p → ⊥ = λ u. (
        let w = under_within v u.times p (bound v p edge).1 u.comes in
        omega arith) in
        let cross : R x y = record {
          near = it.near;
          there = it.other;
          back = λ i j. out_p (subst (IsUnder up v) i it.under);
        } in
        let around = joined_on R v x y (joined_back R turn_r x v (from_under it.under.times x ends.0 it.under.comes)) (joined_by R x y cross) in
        let same : top y ≡ top p = sym (same_top x y it.near) ∙ (top_under x it.under.times ends.0 it.under.comes ∙ same_top v p edge) in
        let home = joined_back R turn_r p (top p) (out_to_top p (bound v p edge).1 out_p) in
        joined_on R v y p around (joined_on R y (top y) p (out_to_top y ends.1 out_y) (subst (λ (t : ℕ). AreJoined R t p) (sym same) home))
      where
        top_under : (x k : ℕ) → x < n → climb up k x ≡ v → top x ≡ top v
        top_under x zero small_x e = ap top e
        top_under x (suc k) small_x e =
            elim (cases_eq (up x) x) [
              | inl is ↦ top_under x k small_x (subst (λ (y : ℕ). climb up k y ≡ v) is e)
              | inr ne ↦ (let edge = (tree x small_x).edge ne in same_top x (up x) edge ∙ top_under (up x) k (bound x (up x) edge).1 e)
            ]
