-- What a call does to a handle, and what it sees of one.
use Rattle.std.specs.Prelude.{ℕ, ◌≡◌, Option, None, Some, IsSomeAnd}
use Rattle.fleet_c.specs.Owns.{HeldCore, HeldValue}
use Rattle.fleet_c.specs.declared.codes.TheConstants.{NOT_OPEN}

-- a closed handle is refused and stays closed; an open one's world goes on so, seen with the cells that the fleet refuses, which stay
abbrev pub OnWhole : Option HeldValue → Option HeldValue → ℕ → (HeldValue → HeldCore → Type 0) → Type 0
OnWhole None new code Goes = (code ≡ NOT_OPEN) × (new ≡ None)
OnWhole (Some f) new code Goes = IsSomeAnd new (λ n. Goes f n.core × (n.refused ≡ f.refused))

-- a closed handle is refused and stays closed; an open one's world goes on so, and its refused cells stay
abbrev pub OnFleet : Option HeldValue → Option HeldValue → ℕ → (HeldCore → HeldCore → Type 0) → Type 0
OnFleet None new code Goes = (code ≡ NOT_OPEN) × (new ≡ None)
OnFleet (Some f) new code Goes = IsSomeAnd new (λ n. Goes f.core n.core × (n.refused ≡ f.refused))

-- a closed handle is refused and stays closed; this is said of the world of an open one, which stays as it is
abbrev pub OfFleet : Option HeldValue → Option HeldValue → ℕ → (HeldCore → Type 0) → Type 0
OfFleet None new code Says = (code ≡ NOT_OPEN) × (new ≡ None)
OfFleet (Some f) new code Says = (new ≡ Some f) × Says f.core
