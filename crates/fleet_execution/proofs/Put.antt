-- A function with another value at one number.
use Rattle.std.proofs.Common.{◌≡◌, ◌≢◌, ℕ, refl, inl, inr}
use Rattle.std.proofs.lemmas.Bool.{ne_eqb}
use Rattle.std.proofs.lemmas.Bool.Decides.{eqb_tells}
use Rattle.fleet_execution.specs.Course.{put}

pub put_same : (f : ℕ → ℕ) (r v q : ℕ) → q ≡ r → put f r v q ≡ v
put_same f r v q same = elim (eqb_tells q r) [ inl yes_is ↦ rw yes_is.0 refl | inr not_is ↦ absurd (not_is.1 same) ]

pub put_other : (f : ℕ → ℕ) (r v q : ℕ) → q ≢ r → put f r v q ≡ f q
put_other f r v q other = rw (ne_eqb q r other) refl
