-- Numbers to which a function leads, one after the other.
use Rattle.std.proofs.Common.{◌≡◌, ◌≢◌, ℕ, zero, suc, ◌+◌, ◌-◌, ◌<◌, ◌≤◌, ◌⊎◌, inl, inr, Bool, true, false, ◌||◌, eqb, List, [], ◌∷◌, ◌++◌, length, length-append, refl, sym, ◌∙◌, ap, subst, arith}
use Rattle.std.specs.List.{list_any, IsDistinct}
use Rattle.std.proofs.lemmas.Bool.{cases_lt, cases_Bool}
use Rattle.std.proofs.lemmas.Cmp.{nat_eq_equiv}
use Rattle.std.proofs.lemmas.Map.Keys.{IsDistinct-push, IsDistinct-from_apart}
use Rattle.std.proofs.lemmas.Map.Steps.{length-le_from_distinct_below}
use borrow.Author.Tests.{eqb-true}
use Rattle.fleet_execution.specs.Desk.{chain}

pub or_parts : (a b : Bool) → (a || b) ≡ true → (a ≡ true) ⊎ (b ≡ true)
or_parts true b e = inl refl
or_parts false b e = inr e

pub or_right : (a b : Bool) → b ≡ true → (a || b) ≡ true
or_right true b e = refl
or_right false b e = e

-- an element of a list with one more at the end
pub any_push : (x q : ℕ) (xs : List ℕ) → list_any (eqb x) (xs ++ q ∷ []) ≡ true → (list_any (eqb x) xs ≡ true) ⊎ (x ≡ q)
any_push x q [] e = elim (or_parts (eqb x q) false e) [ inl same ↦ inr (eqb-true x q same) | inr none ↦ cc ]
any_push x q (y ∷ ys) e = elim (or_parts (eqb x y) (list_any (eqb x) (ys ++ q ∷ [])) e) [
  | inl same ↦ inl (rw same refl)
  | inr rest ↦ elim (any_push x q ys rest) [
    | inl old ↦ inl (or_right (eqb x y) (list_any (eqb x) ys) old)
    | inr new ↦ inr new
  ]
]

pub empty_distinct : IsDistinct eqb []
empty_distinct = IsDistinct-from_apart eqb [] (λ i j d less small. absurd (omega arith))

-- the first n values
unfoldable pub first : (ℕ → ℕ) → ℕ → List ℕ
first g zero = []
first g (suc n) = first g n ++ g n ∷ []

pub record Place (g : ℕ → ℕ) (n x : ℕ) : Type 0 where
  pub at : ℕ
  pub below : at < n
  pub is : x ≡ g at

pub placed : (g : ℕ → ℕ) (n x : ℕ) → list_any (eqb x) (first g n) ≡ true → Place g n x
unfolding first
placed g zero x e = cc
placed g (suc n) x e = elim (any_push x (g n) (first g n) e) [
  | inl old ↦ (let p = placed g n x old in record { at = p.at; below = omega (arith, p.below); is = p.is })
  | inr new ↦ record { at = n; below = omega arith; is = new }
]

first_length : (g : ℕ → ℕ) (n : ℕ) → length (first g n) ≡ n
unfolding first
first_length g zero = refl
first_length g (suc n) = omega (arith, first_length g n, length-append (first g n) (g n ∷ []))

first_distinct : (g : ℕ → ℕ) (n : ℕ) → ((i j : ℕ) → i < j → j < n → g i ≡ g j → ⊥) → IsDistinct eqb (first g n)
unfolding first
first_distinct g zero apart = empty_distinct
first_distinct g (suc n) apart = IsDistinct-push nat_eq_equiv (first g n) (g n) (first_distinct g n (λ i j less below. apart i j less (omega arith)))
    (elim (cases_Bool (list_any (eqb (g n)) (first g n))) [
      | inl old ↦ (let p = placed g n (g n) old in absurd (apart p.at n p.below (omega arith) (sym p.is)))
      | inr new ↦ new
    ])

-- n + 1 numbers below n are not all different
pub crowded : (g : ℕ → ℕ) (n : ℕ) → ((k : ℕ) → g k < n) → ((i j : ℕ) → i < j → j ≤ n → g i ≡ g j → ⊥) → ⊥
crowded g n below apart =
    let long = length-le_from_distinct_below (first g (suc n)) n (first_distinct g (suc n) (λ i j less small. apart i j less (omega arith)))
    (λ q is. let p = placed g (suc n) q is in subst (λ (x : ℕ). x < n) (sym p.is) (below p.at)) in
    omega (arith, long, first_length g (suc n))

-- one step further
pub next_is : (f : ℕ → ℕ) (r p at now : ℕ) → now ≡ f at → at ≡ chain f r p → now ≡ chain f r (p + 1)
next_is f r p at now is was = let z : suc p ≡ p + 1 = omega arith in is ∙ (ap f was ∙ ap (chain f r) z)

-- what holds up to p, and now
pub up_to : (p : ℕ) (P : ℕ → Type 0) → ((j : ℕ) → 0 < j → j ≤ p → P j) → P (p + 1) → (j : ℕ) → 0 < j → j ≤ p + 1 → P j
up_to p P old new j some small = elim (cases_lt p j) [
  | inr early ↦ old j some early
  | inl late ↦ (let z : p + 1 ≡ j = omega arith in subst P z new)
]

pub all_to : (p : ℕ) (P : ℕ → Type 0) → ((j : ℕ) → j < p → P j) → P p → (j : ℕ) → j < p + 1 → P j
all_to p P old new j small = elim (cases_lt j p) [
  | inl early ↦ old j early
  | inr late ↦ (let z : p ≡ j = omega arith in subst P z new)
]

module _ (f : ℕ → ℕ) (r : ℕ) where
  -- two places with one number lead back to the beginning
  pub back : ((i j : ℕ) → chain f r (suc i) ≡ chain f r (suc j) → chain f r i ≡ chain f r j) → (i j : ℕ) → chain f r i ≡ chain f r (i + j) → chain f r j ≡ r
  back apart zero j e = let z : 0 + j ≡ j = omega arith in ap (chain f r) (sym z) ∙ sym e
  back apart (suc i) j e =
      let z : suc i + j ≡ suc (i + j) = omega arith in
      back apart i j (apart i (i + j) (e ∙ ap (chain f r) z))

  -- a chain of different numbers below n comes back within n steps
  pub comes_back : (n : ℕ) → ((k : ℕ) → chain f r k < n) → ((i j : ℕ) → chain f r (suc i) ≡ chain f r (suc j) → chain f r i ≡ chain f r j)
      → ((k : ℕ) → 0 < k → k ≤ n → chain f r k ≢ r) → ⊥
  comes_back n inside apart never = crowded (chain f r) n inside (λ i j less small e.
      let z : j ≡ i + (j - i) = omega arith in
      never (j - i) (omega arith) (omega arith) (back apart i (j - i) (e ∙ ap (chain f r) z)))

  -- a chain that has come back leads to nothing new
  pub record At (size k : ℕ) : Type 0 where
    pub place : ℕ
    pub below : place < size
    pub same : chain f r k ≡ chain f r place

  pub round : (size : ℕ) → 0 < size → chain f r size ≡ r → (k : ℕ) → At size k
  round size some again zero = record { place = 0; below = some; same = refl }
  round size some again (suc k) =
      let at = round size some again k in
      elim (cases_lt (suc at.place) size) [
        | inl less ↦ record { place = suc at.place; below = less; same = ap f at.same }
        | inr last ↦ (
            let z : suc at.place ≡ size = omega (arith, at.below) in
            record { place = 0; below = some; same = ap f at.same ∙ (ap (chain f r) z ∙ again) })
      ]
