-- The five cells that a robot tries, in their order.
use Rattle.std.proofs.Common.{◌≡◌, ◌≢◌, ℕ, zero, suc, ◌+◌, ◌-◌, ◌<◌, ◌≤◌, ◌⊎◌, inl, inr, Some, List, [], ◌∷◌, map, length, get_or, slice_index, slice_get, sym, subst, refl, ap, ◌∙◌, arith, IsPermutation}
use Rattle.std.specs.List.{All, Contains}
use Rattle.std.proofs.lemmas.Bool.{cases_eq, cases_lt}
use Rattle.std.proofs.lemmas.List.Sorted.{All-permutation, Contains-permutation, length_permutation}
use Rattle.std.proofs.lemmas.List.Elements.{All-get_or}
use Rattle.std.proofs.lemmas.List.{get_or-map, get_or_default, length-map}
use Rattle.fleet_grid.specs.Direction.{dir_number}
use Rattle.fleet_grid.specs.Floor.{IsBeside, IsNeighbourIn}
use Rattle.fleet_pibt.specs.Door.{IsOpen}
use Rattle.fleet_pibt.specs.inside.Setting.{Setting, cell_of, near, cost, IsChoices}
use Rattle.fleet_pibt.specs.Ties.{Undercuts}
use Rattle.fleet_pibt.specs.inside.Candidate.{IsCandidate, IsAside, IsSmall, key_of, cell_in_key}
use Rattle.fleet_grid.specs.declared.dir.Dir.{Dir}
use Rattle.fleet_grid.specs.declared.dir.Dir.TheVariants.{North, East, South, West}
use Rattle.fleet_hooks.specs.declared.law.TieLaw.{TieLaw}
use Rattle.fleet_pibt.specs.declared.choice.Candidate.{Candidate}
use Rattle.fleet_pibt.proofs.Distances.{beside-apart}
use Rattle.fleet_pibt.proofs.Keys.{Upto, Upto-from_keys, key-cell, unmapped}

Upto-trans : (a b c : Candidate) → Upto a b → Upto b c → Upto a c
Upto-trans a b c (inl p) (inl q) = inl (omega arith)
Upto-trans a b c (inl p) (inr q) = inl (omega arith)
Upto-trans a b c (inr p) (inl q) = inl (omega arith)
Upto-trans a b c (inr (e, inl p)) (inr (f, inl q)) = inr (omega arith, inl (omega arith))
Upto-trans a b c (inr (e, inl p)) (inr (f, inr q)) = inr (omega arith, inl (omega arith))
Upto-trans a b c (inr (e, inr p)) (inr (f, inl q)) = inr (omega arith, inl (omega arith))
Upto-trans a b c (inr (e, inr p)) (inr (f, inr q)) = inr (omega arith, inr (omega arith, omega arith))

-- in ascending order, from each to the next
Upto-far : (xs : List Candidate) (d : Candidate) → ((k : ℕ) → k + 1 < length xs → Upto (get_or xs k d) (get_or xs (k + 1) d)) → (j n : ℕ) → j + suc n < length xs → Upto (get_or xs j d) (get_or xs (j + suc n) d)
Upto-far xs d up j zero l = up j l
Upto-far xs d up j (suc n) l =
    let e : j + suc (suc n) ≡ (j + suc n) + 1 = omega arith in
    subst (λ (x : ℕ). Upto (get_or xs j d) (get_or xs x d)) (sym e) (Upto-trans (get_or xs j d) (get_or xs (j + suc n) d) (get_or xs ((j + suc n) + 1) d) (Upto-far xs d up j n (omega arith)) (up (j + suc n) (omega arith)))

get_or-map_cell : (xs : List Candidate) (k : ℕ) (d : Candidate) → k < length xs → get_or (map (λ c. c.cell) xs) k 0 ≡ (get_or xs k d).cell
get_or-map_cell [] k d l = absurd (omega arith)
get_or-map_cell (x ∷ xs) zero d l = refl
get_or-map_cell (x ∷ xs) (suc k) d l = get_or-map_cell xs k d (omega arith)

beside-unique : (w a b : ℕ) → 0 < w → (d e : Dir) → IsBeside w d a b → IsBeside w e a b → dir_number d ≡ dir_number e
beside-unique w a b l North North p q = refl
beside-unique w a b l North East p q = absurd (omega arith)
beside-unique w a b l North South p q = absurd (omega arith)
beside-unique w a b l North West p q = absurd (omega arith)
beside-unique w a b l East North p q = absurd (omega arith)
beside-unique w a b l East East p q = refl
beside-unique w a b l East South p q = absurd (omega arith)
beside-unique w a b l East West p q = absurd (omega arith)
beside-unique w a b l South North p q = absurd (omega arith)
beside-unique w a b l South East p q = absurd (omega arith)
beside-unique w a b l South South p q = refl
beside-unique w a b l South West p q = absurd (omega arith)
beside-unique w a b l West North p q = absurd (omega arith)
beside-unique w a b l West East p q = absurd (omega arith)
beside-unique w a b l West South p q = absurd (omega arith)
beside-unique w a b l West West p q = refl

tied-end : {s : Setting} {robot : ℕ} (law : TieLaw) (d e : Dir) (x y : Candidate) (p : IsAside s robot x) (q : IsAside s robot y) → slice_get s.laws robot ≡ Some law → dir_number p.dir ≡ dir_number d → dir_number q.dir ≡ dir_number e →
    Upto x y → y.cost ≤ x.cost → Undercuts law e d → ⊥
tied-end law d e x y p q is pd qe upto le under =
    let low : slice_index law.low (dir_number d) < x.rank = subst (λ (n : ℕ). slice_index law.low n < x.rank) pd (p.within law is).0 in
    let high : y.rank ≤ slice_index law.high (dir_number e) + 1 = subst (λ (n : ℕ). y.rank ≤ slice_index law.high n + 1) qe (q.within law is).1 in
    let sx : x.side ≡ dir_number d = p.side ∙ pd in
    let sy : y.side ≡ dir_number e = q.side ∙ qe in
    elim upto [
      | inl less ↦ omega arith
      | inr same ↦ elim same.1 [
        | inl less ↦ elim under [ inl u ↦ omega arith | inr u ↦ omega (arith, u.0) ]
        | inr equal ↦ elim under [ inl u ↦ omega (arith, equal.0) | inr u ↦ omega (arith, u.1, equal.1, sx, sy) ]
      ]
    ]

module _ (s : Setting) (wide : 0 < s.floor.width) (robot : ℕ) (old new : List Candidate) (own : Candidate)
    (five : length new ≡ 5) (perm : IsPermutation old new) (up : (k : ℕ) (d : Candidate) → k + 1 < length new → Upto (get_or new k d) (get_or new (k + 1) d))
    (all : All (IsCandidate s robot) old) (own-in : Contains old own) (own-cell : own.cell ≡ cell_of s robot) (own-rank : own.rank ≡ 0)
    (covers : (w : ℕ) → near s (cell_of s robot) w → (c : Candidate) × Contains old c × (c.cell ≡ w)) where
  at : ℕ → Candidate
  at k = get_or new k own

  abbrev pub tries : List ℕ
  tries = map (λ c. c.cell) new

  at-is : (k : ℕ) → k < length new → IsCandidate s robot (at k)
  unfolding at
  at-is k l = All-get_or (IsCandidate s robot) new k own l (All-permutation (IsCandidate s robot) old new perm all)

  at-cell : (k : ℕ) → k < length new → slice_index tries k ≡ (at k).cell
  unfolding at
  at-cell k l = get_or-map_cell new k own l

  at-length : length tries ≡ length new
  at-length = length-map new (λ (c : Candidate). c.cell)

  at-of : (c : Candidate) → Contains old c → (k : ℕ) × (k < length new) × (at k ≡ c)
  unfolding at
  at-of c h = let q = Contains-permutation old new c perm h in (q.0, q.1, get_or_default new q.0 own c q.1 ∙ q.2)

  at-upto : (j k : ℕ) → j < k → k < length new → Upto (at j) (at k)
  unfolding at
  at-upto j k l m =
      let n : ℕ = k - (j + 1) in
      let e : j + suc n ≡ k = omega arith in
      subst (λ (x : ℕ). Upto (get_or new j own) (get_or new x own)) e (Upto-far new own (λ i. up i own) j n (omega arith))

  abbrev base : ℕ
  base = cost s robot (cell_of s robot)

  at-cost : (k : ℕ) → k < length new → (at k).cost + base ≡ cost s robot (slice_index tries k) + 1
  at-cost k l = (at-is k l).cost_is ∙ ap (λ (x : ℕ). cost s robot x + 1) (sym (at-cell k l))

  tries-each : (k : ℕ) → k < length tries → (slice_index tries k ≡ cell_of s robot) ⊎ near s (cell_of s robot) (slice_index tries k)
  tries-each k l =
      let m : k < length new = omega (arith, at-length) in
      elim ((at-is k m).kind) [
        | inl it ↦ inl (at-cell k m ∙ it.0)
        | inr it ↦ inr (subst (λ (x : ℕ). near s (cell_of s robot) x) (sym (at-cell k m)) ((it.dir, it.step), it.passes))
      ]

  tries-all : (w : ℕ) → near s (cell_of s robot) w → (k : ℕ) × (k < length tries) × (slice_index tries k ≡ w)
  tries-all w beside =
      let c = covers w beside in
      let q = at-of c.0 c.1 in
      (q.0, omega (arith, at-length, q.1), at-cell q.0 q.1 ∙ (ap (λ (x : Candidate). x.cell) q.2 ∙ c.2))

  tries-own : (k : ℕ) × (k < length tries) × (slice_index tries k ≡ cell_of s robot)
  tries-own = let q = at-of own own-in in (q.0, omega (arith, at-length, q.1), at-cell q.0 q.1 ∙ (ap (λ (x : Candidate). x.cell) q.2 ∙ own-cell))

  tries-sorted : (j k : ℕ) → j < k → k < length tries → cost s robot (slice_index tries j) ≤ cost s robot (slice_index tries k)
  tries-sorted j k l m =
      let lk : k < length new = omega (arith, at-length) in
      let lj : j < length new = omega arith in
      elim (at-upto j k l lk) [
        | inl less ↦ omega (arith, at-cost j lj, at-cost k lk)
        | inr same ↦ omega (arith, at-cost j lj, at-cost k lk, same.0)
      ]

  tries-own_first : (k : ℕ) → k < length tries → slice_index tries k ≢ cell_of s robot → cost s robot (cell_of s robot) ≤ cost s robot (slice_index tries k) → (j : ℕ) × (j < k) × (slice_index tries j ≡ cell_of s robot)
  unfolding tries-own at-of
  tries-own_first k l ne le =
      let lk : k < length new = omega (arith, at-length) in
      let q = tries-own in
      let lq : q.0 < length new = omega (arith, at-length, q.1) in
      let m = at-of own own-in in
      elim (cases_lt q.0 k) [
        | inl below ↦ (q.0, below, q.2)
        | inr above ↦ elim (cases_eq q.0 k) [
          | inl same ↦ absurd (ne (cc (q.2, ap (slice_index tries) same)))
          | inr apart ↦ (
              let cost_q : (at q.0).cost + base ≡ base + 1 = at-cost q.0 lq ∙ ap (λ (x : ℕ). cost s robot x + 1) q.2 in
              let rank_q : (at q.0).rank ≡ 0 = ap (λ (x : Candidate). x.rank) m.2 ∙ own-rank in
              elim (at-upto k q.0 (omega arith) lq) [
                | inl less ↦ absurd (omega (arith, less, at-cost k lk, cost_q))
                | inr same ↦ elim same.1 [
                  | inl less ↦ absurd (omega (arith, less, rank_q))
                  | inr equal ↦ elim ((at-is k lk).kind) [
                    | inl it ↦ absurd (ne (at-cell k lk ∙ it.0))
                    | inr it ↦ absurd (omega (arith, it.ranked, equal.0, rank_q))
                  ]
                ]
              ])
        ]
      ]

  at-first : (k : ℕ) → k < length new → Upto (at 0) (at k)
  at-first zero l = inr (refl, inr (refl, omega arith))
  at-first (suc k) l = at-upto 0 (suc k) (omega arith) l

  tries-tied : (law : TieLaw) → slice_get s.laws robot ≡ Some law → (d e : Dir) (b : ℕ) → IsNeighbourIn s.floor d (cell_of s robot) (slice_index tries 0) → IsNeighbourIn s.floor e (cell_of s robot) b →
      IsOpen s.door (cell_of s robot) b → cost s robot b ≤ cost s robot (slice_index tries 0) → Undercuts law e d → ⊥
  tries-tied law is d e b step other opens le under =
      let l0 : 0 < length new = omega arith in
      let c = covers b ((e, other), opens) in
      let m = at-of c.0 c.1 in
      let step' : IsNeighbourIn s.floor d (cell_of s robot) (at 0).cell = subst (λ (x : ℕ). IsNeighbourIn s.floor d (cell_of s robot) x) (at-cell 0 l0) step in
      let cell_m : (at m.0).cell ≡ b = ap (λ (x : Candidate). x.cell) m.2 ∙ c.2 in
      let other' : IsNeighbourIn s.floor e (cell_of s robot) (at m.0).cell = subst (λ (x : ℕ). IsNeighbourIn s.floor e (cell_of s robot) x) (sym cell_m) other in
      let cost_m : (at m.0).cost + base ≡ cost s robot b + 1 = (at-is m.0 m.1).cost_is ∙ ap (λ (x : ℕ). cost s robot x + 1) cell_m in
      let upto = at-first m.0 m.1 in
      elim ((at-is 0 l0).kind) [
        | inl it ↦ beside-apart s.floor.width (cell_of s robot) wide d (subst (λ (x : ℕ). IsBeside s.floor.width d (cell_of s robot) x) it.0 step'.beside)
        | inr it ↦ elim ((at-is m.0 m.1).kind) [
          | inl at_m ↦ beside-apart s.floor.width (cell_of s robot) wide e (subst (λ (x : ℕ). IsBeside s.floor.width e (cell_of s robot) x) at_m.0 other'.beside)
          | inr at_m ↦ tied-end law d e (at 0) (at m.0) it at_m is
              (beside-unique s.floor.width (cell_of s robot) (at 0).cell wide it.dir d it.step.beside step'.beside)
              (beside-unique s.floor.width (cell_of s robot) (at m.0).cell wide at_m.dir e at_m.step.beside other'.beside)
              upto (omega (arith, cost_m, at-cost 0 l0)) under
        ]
      ]

  pub choices-of : IsChoices s robot tries
  choices-of = record { five = at-length ∙ five; each = tries-each; own = tries-own; all = tries-all; sorted = tries-sorted; own_first = tries-own_first; tied = tries-tied }

key-cells : (cs : List Candidate) → All IsSmall cs → map cell_in_key (map key_of cs) ≡ map (λ c. c.cell) cs
key-cells [] small = refl
key-cells (c ∷ cs) small =
    ap (λ (x : ℕ). x ∷ map cell_in_key (map key_of cs)) (key-cell c (small 0 c (omega arith))) ∙ ap (λ (xs : List ℕ). c.cell ∷ xs) (key-cells cs (λ k d l. small (suc k) d (omega arith)))

Upto-steps : (cs : List Candidate) → All IsSmall cs → ((k : ℕ) → k + 1 < length (map key_of cs) → slice_index (map key_of cs) k ≤ slice_index (map key_of cs) (k + 1)) →
    (k : ℕ) (d : Candidate) → k + 1 < length cs → Upto (get_or cs k d) (get_or cs (k + 1) d)
Upto-steps cs small steps k d l =
    let le = steps k (omega (arith, length-map cs key_of)) in
    let here : slice_index (map key_of cs) k ≡ key_of (get_or cs k d) = get_or-map key_of cs k d 0 (omega arith) in
    let next : slice_index (map key_of cs) (k + 1) ≡ key_of (get_or cs (k + 1) d) = get_or-map key_of cs (k + 1) d 0 l in
    Upto-from_keys (get_or cs k d) (get_or cs (k + 1) d) (small k d (omega arith)) (small (k + 1) d l) (subst (λ (x : ℕ). x ≤ key_of (get_or cs (k + 1) d)) here (subst (λ (x : ℕ). slice_index (map key_of cs) k ≤ x) next le))

-- from candidates whose keys are put in order
pub choices-from : (s : Setting) → 0 < s.floor.width → (robot : ℕ) (old : List Candidate) (keys : List ℕ) (own : Candidate) → length old ≡ 5 → IsPermutation (map key_of old) keys → ((k : ℕ) → k + 1 < length keys → slice_index keys k ≤ slice_index keys (k + 1)) →
    All IsSmall old → All (IsCandidate s robot) old → Contains old own → own.cell ≡ cell_of s robot → own.rank ≡ 0 → ((w : ℕ) → near s (cell_of s robot) w → (c : Candidate) × Contains old c × (c.cell ≡ w)) → IsChoices s robot (map cell_in_key keys)
choices-from s wide robot old keys own five perm steps small all own-in own-cell own-rank covers =
    let u = unmapped key_of old keys perm in
    let small' = All-permutation IsSmall old u.0 u.1 small in
    let up = Upto-steps u.0 small' (subst (λ (ks : List ℕ). (k : ℕ) → k + 1 < length ks → slice_index ks k ≤ slice_index ks (k + 1)) u.2 steps) in
    let it = choices-of s wide robot old u.0 own (length_permutation old u.0 u.1 ∙ five) u.1 up all own-in own-cell own-rank covers in
    subst (λ (cells : List ℕ). IsChoices s robot cells) (sym (ap (map cell_in_key) u.2 ∙ key-cells u.0 small')) it
