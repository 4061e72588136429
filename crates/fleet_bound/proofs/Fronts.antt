-- A robot waits exactly while it has a front.
use Rattle.std.proofs.Common.{◌≡◌, ℕ, inl, inr, Some, None, ap}
use Rattle.fleet_grid.proofs.Least.{none_or_some}
use Rattle.fleet_queue.specs.declared.errand.Errand.{Errand}
use Rattle.fleet_history.specs.History.{History, front}
use Rattle.fleet_history.specs.Waits.{wait, wait_for, wait_at, marks, ticks_since}

pub wait-none : {A : Type 0} (h : History A) (r : ℕ) → front h r ≡ None → wait h r ≡ None
wait-none h r e = ap (wait_for h r) e

pub wait-some : {A : Type 0} (h : History A) (r : ℕ) (f : Errand) → front h r ≡ Some f → (w : ℕ) × (wait h r ≡ Some w)
wait-some h r f e = (ticks_since (marks r f) (wait_at h r) h.entries, ap (wait_for h r) e)

pub front-waits : {A : Type 0} (h : History A) (r w : ℕ) → wait h r ≡ Some w → (f : Errand) × (front h r ≡ Some f)
front-waits h r w e = elim (none_or_some (front h r)) [
  | inl none ↦ (let gone : wait h r ≡ None = wait-none h r none in absurd (cc (gone, e)))
  | inr some ↦ (some.0, some.1)
]

pub front-idle : {A : Type 0} (h : History A) (r : ℕ) → wait h r ≡ None → front h r ≡ None
front-idle h r e = elim (none_or_some (front h r)) [
  | inl none ↦ none
  | inr some ↦ (let is = wait-some h r some.0 some.1 in absurd (cc (is.1, e)))
]
