-- The orders that are left go into the world one after another.
use Rattle.std.proofs.Common.{◌≡◌, ℕ, zero, suc, ◌+◌, ◌*◌, ◌<◌, ◌≤◌, ◌∷◌, [], List, length, set, get_or, refl, ap, sym, subst, arith, inl, inr, eq-eqb}
use Rattle.std.specs.Prelude.{Ok, Err, Result, OnOk, OnErr}
use Rattle.std.proofs.lemmas.List.{get_or-set_same}
use Rattle.fleet_book.specs.declared.order.Order.{Order}
use Rattle.fleet_book.specs.declared.order.Order.TheVariants as order
use Rattle.fleet_book.specs.declared.verdict.Verdict.{Verdict}
use Rattle.fleet_book.specs.declared.verdict.Verdict.TheVariants as verdict
use Rattle.fleet_history.proofs.Owed.{owed_more}
use Rattle.fleet_core.specs.Pending.{Pending, no_pending}
use Rattle.fleet_core.specs.Core.{World, pending, widened, HasRoom}
use Rattle.fleet_office.specs.Draining.{used, with_limit, Widens}
use Rattle.fleet_office.proofs.GiveSteps.{set_own, with_boxes}

pub at_most_one : (c : ℕ) (o : Order) (v : Verdict) → owed_more c c o v ≤ 1
at_most_one c (order.Go robot cell) (verdict.Accepted number) = rw (eq-eqb c c refl) (omega arith)
at_most_one c o v = omega arith

pub notices_set : (xs : List Pending) (c k limit : ℕ) → (get_or (set xs c (record { notices = (get_or xs c no_pending).notices; limit = limit })) k no_pending).notices ≡ (get_or xs k no_pending).notices
notices_set [] c k limit = refl
notices_set (x ∷ xs) zero zero limit = refl
notices_set (x ∷ xs) zero (suc k) limit = refl
notices_set (x ∷ xs) (suc c) zero limit = refl
notices_set (x ∷ xs) (suc c) (suc k) limit = notices_set xs c k limit

module _ {A : Type 0} where
  -- a mailbox that keeps its limit
  pub widens_none : (w : World A) (c n : ℕ) → c < length w.mailboxes → Widens w c n w
  widens_none w c n inside = record {
    limit = (pending w c).limit;
    world = ap (with_boxes w) (sym (set_own w.mailboxes c no_pending inside));
    at_least = omega arith;
    at_most = inl refl;
  }

  pub pending_wide : (w : World A) (c limit : ℕ) → c < length w.mailboxes → pending (with_limit w c limit) c ≡ record { notices = (pending w c).notices; limit = limit }
  pending_wide w c limit inside = get_or-set_same w.mailboxes c (record { notices = (pending w c).notices; limit = limit }) no_pending inside

  pub room_wide : (w : World A) (c limit : ℕ) → c < length w.mailboxes → used w c + 2 ≤ limit → HasRoom (with_limit w c limit) c
  room_wide w c limit inside l = omega (
    arith,
    ap (λ (b : Pending). length b.notices) (pending_wide w c limit inside),
    ap (λ (b : Pending). b.limit) (pending_wide w c limit inside),
  )

  pub widens_by : {X E : Type 0} (w u : World A) (c n extra : ℕ) (r : Result X E) → c < length w.mailboxes → OnOk r (u ≡ widened w c extra) → OnErr r (u ≡ w) →
      (pending w c).limit + extra ≤ used w c + 2 * n → Widens w c n u
  widens_by w u c n extra (Ok x) inside ok err few = record {
    limit = (pending w c).limit + extra;
    world = ok;
    at_least = omega arith;
    at_most = inr few;
  }
  widens_by w u c n extra (Err e) inside ok err few = subst (Widens w c n) (sym err) (widens_none w c n inside)
