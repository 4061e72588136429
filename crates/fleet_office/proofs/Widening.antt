-- What a mailbox that is widened, and a take into it, keep.
use Rattle.std.proofs.Common.{◌≡◌, ℕ, ◌+◌, ◌^◌, ◌<◌, ◌≤◌, ◌++◌, List, length, set, Some, refl, ap, sym, ◌∙◌, subst, arith, length-append, eq-eqb}
use Rattle.std.specs.Prelude.{Ok, Err, Result, OnOk, slice_get}
use Rattle.std.proofs.Math.ListN.{length-set}
use Rattle.fleet_book.specs.declared.order.Order.{Order}
use Rattle.fleet_book.specs.declared.verdict.Verdict.{Verdict}
use Rattle.fleet_history.specs.declared.history.Entry.{Entry}
use Rattle.fleet_history.specs.declared.history.Entry.TheVariants as entry
use Rattle.fleet_history.specs.History.{owed}
use Rattle.fleet_history.specs.Legal.{IsLegal}
use Rattle.fleet_history.specs.Notices.{noticed_count, told}
use Rattle.fleet_history.proofs.Owed.{owed-after_take}
use Rattle.fleet_core.specs.Pending.{Pending}
use Rattle.fleet_core.specs.Core.{World, pending, grown, Takes}
use Rattle.fleet_core.proofs.CoreKept.{told_to}
use Rattle.fleet_core.proofs.CoreKept.{box_at-delivered}
use Rattle.fleet_lanes.specs.Names.{LaneName}
use Rattle.fleet_lanes.specs.Ends.{EndView}
use Rattle.fleet_office.specs.Hall.{IsLawful, took}
use Rattle.fleet_office.specs.Since.{GoesOn}
use Rattle.fleet_office.specs.Draining.{used, with_limit, Widens, TakesNext}
use Rattle.fleet_office.proofs.Drains.{notices_set, at_most_one}
use Rattle.fleet_office.proofs.Laws.{lawful_take}
use Rattle.fleet_office.proofs.Sinces.{since-same}

module _ {A : Type 0} (rings : List (LaneName A)) (began : World A) where
  -- a wider mailbox
  pub lawful_wide : (w v : World A) (ends : List (EndView A)) (t c n : ℕ) → Widens w c n v → IsLawful rings began w ends t → IsLawful rings began v ends t
  lawful_wide w v ends t c n wide h = subst (λ x. IsLawful rings began x ends t) (sym wide.world) record {
    laws = λ k e at.
        let l = h.laws k e at in
        record { lane = l.lane; keeps = subst (λ ns. GoesOn began.history w.history k e.taken (e.given ++ ns)) (sym (notices_set w.mailboxes c k wide.limit)) l.keeps };
    legal = h.legal;
    clock = h.clock;
    box_count = length-set w.mailboxes c (record { notices = (pending w c).notices; limit = wide.limit }) ∙ h.box_count;
    end_count = h.end_count;
    ring_count = h.ring_count;
    few = h.few;
    valid = h.valid;
    since = since-same began w (with_limit w c wide.limit) refl refl refl refl refl refl h.since;
  }

  -- an order that was left was taken
  pub lawful_next : (w v : World A) (ends : List (EndView A)) (t c n : ℕ) (e d : EndView A) → slice_get ends c ≡ Some e → (next : TakesNext w c n v) → d ≡ took e next.order d.known →
      IsLawful rings began w ends t → IsLawful rings began v (set ends c d) t
  lawful_next w v ends t c n e d at next step h =
      subst (λ x. IsLawful rings began x (set ends c d) t) (sym next.takes.world)
      (subst (λ x. IsLawful rings began (grown {A = A} next.wide (entry.Take c next.order next.verdict)) (set ends c x) t) (sym step)
      (lawful_take rings began next.wide ends t c e next.order next.verdict d.known next.takes.verdict at (lawful_wide w next.wide ends t c n next.widens h)))

  -- a client's notices and unfinished errands are few
  pub few_used : (w : World A) (ends : List (EndView A)) (t c : ℕ) (e : EndView A) → slice_get ends c ≡ Some e → IsLawful rings began w ends t → noticed_count w.history c + owed w.history c ≤ 2 ^ 57 → used w c ≤ 2 ^ 57
  few_used w ends t c e at h small =
      let l = h.laws c e at in
      omega (arith, small, l.keeps.told_length, length-append e.given (pending w c).notices)

module _ {A : Type 0} where
  same_history : (w v : World A) (c n : ℕ) → Widens w c n v → v.history ≡ w.history
  same_history w v c n wide = ap (λ x. x.history) wide.world

  used_wide : (w v : World A) (c n : ℕ) → Widens w c n v → used v c ≡ used w c
  used_wide w v c n wide = ap (λ x. used x c) wide.world ∙ ap (λ ns. length ns + owed w.history c) (notices_set w.mailboxes c c wide.limit)

  -- a take makes one notice, and at most one unfinished errand
  used_take : (w v : World A) (c : ℕ) (o : Order) (vd : Verdict) → c < length w.mailboxes → IsLegal w.floor w.history → Takes w c o vd v → used v c ≤ used w c + 2
  used_take w v c o vd inside legal takes =
      let en : Entry A = entry.Take c o vd in
      let box : pending (grown w en) c ≡ told_to w.history en c (pending w c) = box_at-delivered w.history en 0 c c w.mailboxes (omega arith) inside in
      let one : length (told w.history c en) ≡ 1 = rw (eq-eqb c c refl) refl in
      omega (
        arith,
        ap (λ x. used x c) takes.world,
        ap (λ (b : Pending). length b.notices) box,
        length-append (pending w c).notices (told w.history c en),
        one,
        owed-after_take w.floor w.history c c o vd legal takes.verdict,
        at_most_one c o vd,
      )

  pub used_next : (w v : World A) (c n : ℕ) → c < length w.mailboxes → IsLegal w.floor w.history → TakesNext w c n v → used v c ≤ used w c + 2
  used_next w v c n inside legal next =
      let wide = next.widens in
      let b : Pending = record { notices = (pending w c).notices; limit = wide.limit } in
      let many : length next.wide.mailboxes ≡ length w.mailboxes = ap (λ x. length x.mailboxes) wide.world ∙ length-set w.mailboxes c b in
      let kept : IsLegal next.wide.floor next.wide.history = subst (λ (x : World A). IsLegal x.floor x.history) (sym wide.world) legal in
      omega (arith, used_take next.wide v c next.order next.verdict (omega (arith, many)) kept next.takes, used_wide w next.wide c n wide)

  pub used_after : {X E : Type 0} (w v : World A) (c n : ℕ) (r : Result X E) → c < length w.mailboxes → IsLegal w.floor w.history → OnOk r (TakesNext w c n v) → OnOk r (used v c ≤ used w c + 2)
  used_after w v c n (Ok x) inside legal next = used_next w v c n inside legal next
  used_after w v c n (Err e) inside legal next = tt
