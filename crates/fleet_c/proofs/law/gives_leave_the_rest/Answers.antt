use Rattle.std.proofs.Common.{◌≡◌, ℕ, zero, suc, ◌≤◌, List, [], ◌∷◌, length, drop, set, refl, ap, ◌∙◌, arith, inl, inr, get_or-set_same}
use Rattle.std.proofs.lemmas.Bool.{cases_lt}
use Rattle.std.proofs.lemmas.List.{get_or_past}
use Rattle.fleet_core.specs.Core.{World, pending, without_first}
use Rattle.fleet_core.specs.Pending.{Pending, no_pending}
use Rattle.fleet_c.specs.Batches.{without_many}
use Rattle.fleet_c.proofs.law.gives_leave_the_rest.Goals as goal

set-past : {X : Type 0} (xs : List X) (k : ℕ) (x : X) → length xs ≤ k → set xs k x ≡ xs
set-past [] k x l = refl
set-past (y ∷ ys) zero x l = absurd (omega arith)
set-past (y ∷ ys) (suc k) x l = ap (λ l. y ∷ l) (set-past ys k x (omega arith))

drop-more : {X : Type 0} (xs : List X) (k : ℕ) → drop 1 (drop k xs) ≡ drop (suc k) xs
drop-more [] zero = refl
drop-more [] (suc k) = refl
drop-more (x ∷ xs) zero = refl
drop-more (x ∷ xs) (suc k) = drop-more xs k

first : {A : Type 0} (w : World A) (c : ℕ) → (pending (without_first w c) c).notices ≡ drop 1 (pending w c).notices
first w c =
    elim (cases_lt c (length w.mailboxes)) [
      | inl l ↦ ap (λ (p : Pending). p.notices) (get_or-set_same w.mailboxes c (record (pending w c) { notices = drop 1 (pending w c).notices }) no_pending l)
      | inr g ↦ rw (set-past w.mailboxes c (record (pending w c) { notices = drop 1 (pending w c).notices }) g, get_or_past w.mailboxes c no_pending g) refl
    ]

left : {A : Type 0} (w : World A) (c k : ℕ) → (pending (without_many w c k) c).notices ≡ drop k (pending w c).notices
left w c zero = refl
left w c (suc k) = first (without_many w c k) c ∙ ap (drop 1) (left w c k) ∙ drop-more (pending w c).notices k

pub returns : goal.returns
returns g c = left
