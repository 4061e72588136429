-- Robots that all stay: if each goes to a cell of one of them, no step without conflicts brings another robot there.
use Rattle.std.proofs.Common.{◌≡◌, ◌≢◌, ℕ, zero, suc, ◌+◌, ◌-◌, ◌<◌, ◌≤◌, inl, inr, List, slice_index, sym, ap, subst, ◌∙◌, arith}
use Rattle.fleet_shield.specs.Wishes.{Wishes, robots, cell_of}
use Rattle.fleet_shield.proofs.Pigeon.{pigeon}

module _ (w : Wishes) (to : List ℕ) (e f : ℕ) (Stuck : ℕ → Type 0)
    (apart : (r q : ℕ) → r < robots w → q < robots w → slice_index to r ≡ slice_index to q → r ≡ q)
    (known : (r : ℕ) → Stuck r → r < robots w)
    (goes : (r : ℕ) → Stuck r → (k : ℕ) × Stuck k × (slice_index to r ≡ cell_of w k))
    (distinct : (r q : ℕ) → r < robots w → q < robots w → cell_of w r ≡ cell_of w q → r ≡ q)
    (first : e < robots w) (not : Stuck e → ⊥) (there : slice_index to e ≡ cell_of w f) (stuck : Stuck f) where
  -- f, the robot whose cell f goes to, and so on
  walk : ℕ → (r : ℕ) × Stuck r
  walk zero = (f, stuck)
  walk (suc i) = let at = goes (walk i).0 (walk i).1 in (at.0, at.1)

  walk_next : (i : ℕ) → slice_index to (walk i).0 ≡ cell_of w (walk (suc i)).0
  unfolding walk
  walk_next i = (goes (walk i).0 (walk i).1).2

  walk_known : (i : ℕ) → (walk i).0 < robots w
  walk_known i = known (walk i).0 (walk i).1

  back : (i j : ℕ) → (walk (suc i)).0 ≡ (walk (suc j)).0 → (walk i).0 ≡ (walk j).0
  back i j same = apart (walk i).0 (walk j).0 (walk_known i) (walk_known j) (walk_next i ∙ (ap (cell_of w) same ∙ sym (walk_next j)))

  -- it does not come back to f, since only the other robot goes there
  never : (j : ℕ) → (walk (suc j)).0 ≢ f
  never j same =
      let one : (walk j).0 ≡ e = apart (walk j).0 e (walk_known j) first (walk_next j ∙ (ap (cell_of w) same ∙ sym there)) in
      not (subst Stuck one (walk j).1)

  once : (i j : ℕ) → i < j → (walk i).0 ≢ (walk j).0
  unfolding walk
  once zero zero less same = absurd (omega arith)
  once zero (suc j) less same = never j (sym same)
  once (suc i) zero less same = absurd (omega arith)
  once (suc i) (suc j) less same = once i j (omega arith) (back i j same)

  pub closed : ⊥
  closed = pigeon (robots w) (λ k. (walk k).0) (λ k le. walk_known k) (λ i j less le. once i j less)
