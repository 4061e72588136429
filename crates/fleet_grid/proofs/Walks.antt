-- Walks go on, and back.
use Rattle.std.proofs.Common.{◌≡◌, ℕ, ◌+◌, ◌≤◌, List, [], ◌∷◌, ◌++◌, length, refl, sym, ap, subst, ◌∙◌, arith}
use Rattle.std.proofs.lemmas.List.{length-append}
use Rattle.fleet_grid.specs.Walk.{Walks, AreJoined, IsDistance, Besides}

pub walk_on : (Near : ℕ → ℕ → Type 0) (a b c : ℕ) (xs ys : List ℕ) → Walks Near a xs b → Walks Near b ys c → Walks Near a (xs ++ ys) c
walk_on Near a b c [] ys p q = subst (λ (x : ℕ). Walks Near x ys c) (sym p) q
walk_on Near a b c (x ∷ xs) ys p q = (p.0, walk_on Near x b c xs ys p.1 q)

-- a walk turns round, where each edge leads both ways
pub walk_back : (Near : ℕ → ℕ → Type 0) → ((a b : ℕ) → Near a b → Near b a) → (a b : ℕ) (xs : List ℕ) → Walks Near a xs b
    → (ys : List ℕ) × Walks Near b ys a × (length ys ≡ length xs)
walk_back Near back a b [] p = ([], sym p, refl)
walk_back Near back a b (x ∷ xs) p =
    let rest = walk_back Near back x b xs p.1 in
    (rest.0 ++ a ∷ [], walk_on Near b x a rest.0 (a ∷ []) rest.1 (back a x p.0, refl), length_push rest.0 a ∙ ap (λ (n : ℕ). n + 1) rest.2 ∙ more xs)
  where
    length_push : (ys : List ℕ) (y : ℕ) → length (ys ++ y ∷ []) ≡ length ys + 1
    length_push ys y = length-append ys (y ∷ [])

    more : (ys : List ℕ) → length ys + 1 ≡ length (x ∷ ys)
    more ys = grind arith

pub besides_back : (Near : ℕ → ℕ → Type 0) → ((x y : ℕ) → Near x y → Near y x) → (a b x y : ℕ) → Besides Near a b x y → Besides Near a b y x
besides_back Near turn a b x y r = record { near = turn x y r.near; there = λ p q. r.back q p; back = λ p q. r.there q p }

pub joined_same : (Near : ℕ → ℕ → Type 0) (a : ℕ) → AreJoined Near a a
joined_same Near a = record { steps = []; walk = refl }

pub joined_by_edge : (Near : ℕ → ℕ → Type 0) (a b c : ℕ) → Near a b → AreJoined Near b c → AreJoined Near a c
joined_by_edge Near a b c e j = record { steps = b ∷ j.steps; walk = (e, j.walk) }

pub joined_on : (Near : ℕ → ℕ → Type 0) (a b c : ℕ) → AreJoined Near a b → AreJoined Near b c → AreJoined Near a c
joined_on Near a b c j k = record { steps = j.steps ++ k.steps; walk = walk_on Near a b c j.steps k.steps j.walk k.walk }

pub joined_back : (Near : ℕ → ℕ → Type 0) → ((a b : ℕ) → Near a b → Near b a) → (a b : ℕ) → AreJoined Near a b → AreJoined Near b a
joined_back Near back a b j = let w = walk_back Near back a b j.steps j.walk in record { steps = w.0; walk = w.1 }

-- what is the same at both ends of each edge is the same along a walk
pub same_along : {A : Type 0} (Near : ℕ → ℕ → Type 0) (f : ℕ → A) → ((a b : ℕ) → Near a b → f a ≡ f b) → (a b : ℕ) (xs : List ℕ) → Walks Near a xs b → f a ≡ f b
same_along Near f same a b [] p = ap f p
same_along Near f same a b (x ∷ xs) p = same a x p.0 ∙ same_along Near f same x b xs p.1

-- two distances of the same cells are one
pub distance_once : (Near : ℕ → ℕ → Type 0) (a b d e : ℕ) → IsDistance Near a b d → IsDistance Near a b e → d ≡ e
distance_once Near a b d e p q =
    let x : d ≤ length q.walk.0 = p.least q.walk.0 q.walk.1 in
    let y : e ≤ length p.walk.0 = q.least p.walk.0 p.walk.1 in
    omega (arith, x, y, p.walk.2, q.walk.2)

-- across an edge a distance differs by one at most
pub distance_across : (Near : ℕ → ℕ → Type 0) (a b g d e : ℕ) → Near a b → IsDistance Near a g d → IsDistance Near b g e → d ≤ e + 1
distance_across Near a b g d e near p q = let x = p.least (b ∷ q.walk.0) (near, q.walk.1) in omega (arith, x, q.walk.2, more q.walk.0)
  where
    more : (ys : List ℕ) → length (b ∷ ys) ≡ length ys + 1
    more ys = grind arith
