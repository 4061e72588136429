-- Robots on distinct cells are at most as many as there are cells.
use Rattle.std.proofs.Common.{◌≡◌, ℕ, ◌<◌, ◌≤◌, inl, inr, List, length, get_or, true, false, ltb, cond, refl, sym, ◌∙◌, arith, rules}
use Rattle.std.proofs.lemmas.Bool.{cases_lt}
use Rattle.fleet_execution.proofs.Chains.{crowded}

cell_of : List ℕ → ℕ → ℕ
cell_of cells k = cond (ltb k (length cells)) (get_or cells k 0) (get_or cells 0 0)

cell_in : (cells : List ℕ) (k : ℕ) → k < length cells → cell_of cells k ≡ get_or cells k 0
unfolding cell_of
cell_in cells k inside = let b : ltb k (length cells) ≡ true = search rules in rw b refl

cell_past : (cells : List ℕ) (k : ℕ) → length cells ≤ k → cell_of cells k ≡ get_or cells 0 0
unfolding cell_of
cell_past cells k past = let b : ltb k (length cells) ≡ false = search rules in rw b refl

pub few_robots : (cells : List ℕ) (n : ℕ) → ((r : ℕ) → r < length cells → get_or cells r 0 < n)
    → ((r q : ℕ) → r < length cells → q < length cells → get_or cells r 0 ≡ get_or cells q 0 → r ≡ q) → length cells ≤ n
few_robots cells n inside distinct = elim (cases_lt n (length cells)) [
  | inr enough ↦ enough
  | inl many ↦ absurd (crowded (cell_of cells) n
      (λ k. elim (cases_lt k (length cells)) [
        | inl small ↦ omega (arith, cell_in cells k small, inside k small)
        | inr large ↦ omega (arith, cell_past cells k large, inside 0 (omega (arith, many)))
      ])
      (λ i j less small e. omega (
        arith,
        less,
        distinct i j (omega (arith, less, small, many)) (omega (arith, small, many))
            (sym (cell_in cells i (omega (arith, less, small, many))) ∙ (e ∙ cell_in cells j (omega (arith, small, many)))),
      )))
]
