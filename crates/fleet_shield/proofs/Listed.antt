-- Numbers below a bound, and where a robot's preferences lie in the list of all.
use Rattle.std.proofs.Common.{◌≡◌, ◌≢◌, ℕ, suc, ◌+◌, ◌*◌, ◌<◌, ◌≤◌, inl, inr, Bool, true, false, not, nat_eq, MatchBool, subst, sym, arith}
use Rattle.std.proofs.lemmas.Bool.{cases_eq}
use Rattle.std.proofs.lemmas.Bool.Decides.{eqb_tells}
use Rattle.std.proofs.lemmas.Nat.{mul-le}

pub listed_below : (robot each place robots size : ℕ) → robot < robots → place < each → size ≡ robots * each → robot * each + place < size
listed_below robot each place robots size known within all =
    let most : (robot + 1) * each ≤ robots * each = mul-le (robot + 1) each robots each (omega (arith, known)) (omega arith) in
    omega (arith, most, within, all)

-- what holds from a number on below another, and of this
pub up_more : (P : ℕ → Type 0) (s n : ℕ) → ((j : ℕ) → s ≤ j → j < n → P j) → P n → (j : ℕ) → s ≤ j → j < n + 1 → P j
up_more P s n below now j low less = elim (cases_eq j n) [
  | inl same ↦ subst P (sym same) now
  | inr ne ↦ below j low (omega (arith, less, ne))
]

pub all_more : (P : ℕ → Type 0) (n : ℕ) → ((j : ℕ) → j < n → P j) → P n → (j : ℕ) → j < n + 1 → P j
all_more P n below now j less = up_more P 0 n (λ k low small. below k small) now j (omega arith) less

-- by whether two numbers differ
pub told : (x y : ℕ) (P Q : Type 0) → (x ≢ y → P) → (x ≡ y → Q) → MatchBool (not (nat_eq x y)) P Q
told x y P Q apart same = elim (eqb_tells x y) [
  | inl p ↦ rw p.0 (same p.1)
  | inr p ↦ rw p.0 (apart p.1)
]
