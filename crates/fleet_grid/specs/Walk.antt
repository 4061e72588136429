-- Walks along a relation of cells, their least length, and bridges.
use Rattle.std.specs.Prelude.{◌≡◌, ◌≢◌, ℕ, ◌<◌, ◌≤◌, List, [], ◌∷◌, length, slice_index}

-- a walk from `a` to `b`, by the cells after `a`
abbrev pub Walks : (ℕ → ℕ → Type 0) → ℕ → List ℕ → ℕ → Type 0
Walks Near a [] b = a ≡ b
Walks Near a (c ∷ cs) b = Near a c × Walks Near c cs b

-- some walk joins the two cells
pub record AreJoined (Near : ℕ → ℕ → Type 0) (a b : ℕ) : Type 0 where
  pub steps : List ℕ
  pub walk : Walks Near a steps b

-- no walk joins the two cells
abbrev pub AreApart : (ℕ → ℕ → Type 0) → ℕ → ℕ → Type 0
AreApart Near a b = (cs : List ℕ) → Walks Near a cs b → ⊥

-- there is a walk of that many edges, and none has fewer
pub record IsDistance (Near : ℕ → ℕ → Type 0) (a b d : ℕ) : Type 0 where
  pub walk : (cs : List ℕ) × Walks Near a cs b × (length cs ≡ d)
  pub least : (cs : List ℕ) → Walks Near a cs b → d ≤ length cs

-- the edges without the one of `a` and `b`, in either direction
pub record Besides (Near : ℕ → ℕ → Type 0) (a b x y : ℕ) : Type 0 where
  pub near : Near x y
  pub there : x ≡ a → y ≡ b → ⊥
  pub back : x ≡ b → y ≡ a → ⊥

-- an edge whose ends no walk joins without crossing it
pub record IsBridge (Near : ℕ → ℕ → Type 0) (a b : ℕ) : Type 0 where
  pub edge : Near a b
  pub alone : AreJoined (Besides Near a b) a b → ⊥

-- no edge is a bridge
abbrev pub IsBridgeless : (ℕ → ℕ → Type 0) → Type 0
IsBridgeless Near = (a b : ℕ) → IsBridge Near a b → ⊥

-- the cell `c` is on the side of `b` of the edge of `a` and `b`: a walk joins it to `b` without crossing that edge
abbrev pub IsOnSide : (ℕ → ℕ → Type 0) → (a b c : ℕ) → Type 0
IsOnSide Near a b c = AreJoined (Besides Near a b) b c

-- that side has n cells or more
pub record HasSide (Near : ℕ → ℕ → Type 0) (a b n : ℕ) : Type 0 where
  pub cells : List ℕ
  pub many : n ≤ length cells
  pub apart : (i j : ℕ) → i < j → j < length cells → slice_index cells i ≢ slice_index cells j
  pub inside : (i : ℕ) → i < length cells → IsOnSide Near a b (slice_index cells i)

-- each side of each bridge that has the cell has n cells or more
abbrev pub IsRoomy : (ℕ → ℕ → Type 0) → (n c : ℕ) → Type 0
IsRoomy Near n c = (a b : ℕ) → IsBridge Near a b → IsOnSide Near a b c → HasSide Near a b n
