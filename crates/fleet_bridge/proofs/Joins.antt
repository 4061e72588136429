-- Walks go on, and back, as those of the floor graph do, and stay in a set that no step leaves.
use Rattle.std.proofs.Common.{◌≡◌, ℕ, List, [], ◌∷◌, subst}
use Rattle.fleet_grid.specs.Walk.{Walks, AreJoined}
use Rattle.fleet_grid.proofs.Walks.{joined_by_edge}
use Rattle.fleet_grid.proofs.Walks as walks
pub use Rattle.fleet_grid.proofs.Walks.{joined_on, joined_back, besides_back}

pub joined_same : (R : ℕ → ℕ → Type 0) (a b : ℕ) → a ≡ b → AreJoined R a b
joined_same R a b e = subst (AreJoined R a) e (walks.joined_same R a)

pub joined_by : (R : ℕ → ℕ → Type 0) (a b : ℕ) → R a b → AreJoined R a b
joined_by R a b r = joined_by_edge R a b b r (walks.joined_same R b)

-- a set that the relation does not leave has the end of each walk that begins in it
walks_inside : (R : ℕ → ℕ → Type 0) (K : ℕ → Type 0) → ((x y : ℕ) → R x y → K x → K y) → (a b : ℕ) (xs : List ℕ) → Walks R a xs b → K a → K b
walks_inside R K on a b [] p k = subst K p k
walks_inside R K on a b (x ∷ xs) p k = walks_inside R K on x b xs p.1 (on a x p.0 k)

pub joined_inside : (R : ℕ → ℕ → Type 0) (K : ℕ → Type 0) → ((x y : ℕ) → R x y → K x → K y) → (a b : ℕ) → AreJoined R a b → K a → K b
joined_inside R K on a b j k = walks_inside R K on a b j.steps j.walk k
