-- What keeps the law of the lock.
use Rattle.std.proofs.Common.{◌≡◌, ◌≢◌, ℕ, ◌+◌, ◌<◌, cond, List, [], ◌∷◌, ◌++◌, length, set, Some, Option, refl, ap, sym, ◌∙◌, arith, ⊎_elim, subst, append_assoc, eq-eqb}
use Rattle.std.specs.List.{slice_get}
use Rattle.std.proofs.lemmas.List.{append-nil, get_or-set_other, get_or-set_same}
use Rattle.std.proofs.Math.ListN.{length-set}
use Rattle.std.proofs.lemmas.Bool.{ne_eqb}
use Rattle.fleet_book.specs.declared.order.Order.{Order}
use Rattle.fleet_book.specs.declared.verdict.Verdict.{Verdict}
use Rattle.fleet_book.specs.declared.notice.Notice.{Notice}
use Rattle.fleet_history.specs.declared.history.Arrival.{Arrival}
use Rattle.fleet_history.specs.declared.history.Bye.{Bye}
use Rattle.fleet_history.specs.declared.history.Entry.{Entry}
use Rattle.fleet_history.specs.declared.history.Entry.TheVariants as entry
use Rattle.fleet_history.specs.History.{after, is_tick}
use Rattle.fleet_history.specs.Verdicts.{IsVerdict}
use Rattle.fleet_history.specs.Laws.{order_by}
use Rattle.fleet_history.specs.Legal as legal
use Rattle.fleet_history.specs.Legal.{IsLegal, Fits}
use Rattle.fleet_history.specs.Notices.{told}
use Rattle.fleet_history.proofs.After.{clock-after}
use Rattle.fleet_core.specs.Pending.{Pending, no_pending}
use Rattle.fleet_core.specs.Core.{World, pending, grown}
use Rattle.fleet_core.proofs.CoreKept.{length-delivered, box_at-delivered}
use Rattle.fleet_lanes.specs.Names.{LaneName}
use Rattle.fleet_lanes.specs.Ends.{EndView}
use Rattle.fleet_office.specs.Hall.{RingLaw, RingLaws, IsLawful, Gives, handed, took}
use Rattle.fleet_office.specs.Since.{GoesOn}
use Rattle.fleet_office.proofs.Places.{at_set, within}
use Rattle.fleet_office.proofs.Sinces.{since-same, goes-after}

module _ {A : Type 0} (rings : List (LaneName A)) (began : World A) where
  pub laws_set : (w v : World A) (ends : List (EndView A)) (c : ℕ) (e : EndView A)
      → RingLaws rings began w ends
      → ((k : ℕ) (d : EndView A) → slice_get ends k ≡ Some d → k ≢ c → RingLaw rings began w k d → RingLaw rings began v k d)
      → RingLaw rings began v c e
      → RingLaws rings began v (set ends c e)
  laws_set w v ends c e laws other mine k d at =
      ⊎_elim
      (λ (h : (k ≡ c) × (e ≡ d)). subst (λ x. RingLaw rings began v k x) h.1 (subst (λ n. RingLaw rings began v n e) (sym h.0) mine))
      (λ (h : (k ≢ c) × (slice_get ends k ≡ Some d)). other k d h.1 h.0 (laws k d h.1))
      (at_set ends c k e d at)

  -- a client of the hall has a mailbox
  pub boxed : (w : World A) (ends : List (EndView A)) (t k : ℕ) (d : EndView A) → IsLawful rings began w ends t → slice_get ends k ≡ Some d → k < length w.mailboxes
  boxed w ends t k d h at = omega (arith, within ends k d at, h.end_count, h.box_count)

  -- an end that looked, or otherwise kept its lists
  pub lawful_same : (w : World A) (ends : List (EndView A)) (t c : ℕ) (e d : EndView A) → slice_get ends c ≡ Some e → d.lane ≡ e.lane → d.taken ≡ e.taken → d.given ≡ e.given → IsLawful rings began w ends t → IsLawful rings began w (set ends c d) t
  lawful_same w ends t c e d at lane taken given h =
      let law = h.laws c e at in
      record {
        laws = laws_set w w ends c d h.laws (λ k x there n l. l)
            (record { lane = law.lane ∙ ap Some (sym lane); keeps = subst (λ t. GoesOn began.history w.history c t (d.given ++ (pending w c).notices)) (sym taken) (subst (λ g. GoesOn began.history w.history c e.taken (g ++ (pending w c).notices)) (sym given) law.keeps) });
        legal = h.legal;
        clock = h.clock;
        box_count = h.box_count;
        end_count = length-set ends c d ∙ h.end_count;
        ring_count = length-set ends c d ∙ h.ring_count;
        few = omega (arith, length-set ends c d, h.few);
        valid = h.valid;
        since = h.since;
      }

  -- what was given and then the mailbox grows by what the entry tells
  more_told : (w : World A) (e : Entry A) (k : ℕ) (given : List Notice) → k < length w.mailboxes →
      given ++ (pending (grown w e) k).notices ≡ (given ++ (pending w k).notices) ++ told w.history k e
  more_told w e k given inside =
      ap (λ (b : Pending). given ++ b.notices) (box_at-delivered w.history e 0 k k w.mailboxes (omega arith) inside)
      ∙ sym (append_assoc given (pending w k).notices (told w.history k e))

  keeps_entry : (w : World A) (e : Entry A) (k : ℕ) (x : EndView A) (taken : List Order) → k < length w.mailboxes → IsLegal w.floor w.history → Fits w.floor w.history e →
      taken ≡ x.taken ++ order_by k e → RingLaw rings began w k x → GoesOn began.history (after w.history e) k taken (x.given ++ (pending (grown w e) k).notices)
  keeps_entry w e k x taken inside legal fits same l =
      subst (λ t. GoesOn began.history (after w.history e) k t (x.given ++ (pending (grown w e) k).notices)) (sym same)
      (subst (GoesOn began.history (after w.history e) k (x.taken ++ order_by k e)) (sym (more_told w e k x.given inside))
      (goes-after began.history w.floor w.history k x.taken (x.given ++ (pending w k).notices) legal l.keeps e fits))

  law_entry : (w : World A) (e : Entry A) (k : ℕ) (x : EndView A) → k < length w.mailboxes → IsLegal w.floor w.history → Fits w.floor w.history e → order_by k e ≡ [] →
      RingLaw rings began w k x → RingLaw rings began (grown w e) k x
  law_entry w e k x inside legal fits none l = record {
    lane = l.lane;
    keeps = keeps_entry w e k x x.taken inside legal fits (sym (append-nil x.taken) ∙ ap (λ y. x.taken ++ y) (sym none)) l;
  }

  -- an entry that takes no order
  pub lawful_entry : (w : World A) (ends : List (EndView A)) (t u : ℕ) (e : Entry A) → Fits w.floor w.history e → ((k : ℕ) → order_by k e ≡ []) → u ≡ t + cond (is_tick e) 1 0 →
      IsLawful rings began w ends t → IsLawful rings began (grown w e) ends u
  lawful_entry w ends t u e fits none more h = record {
    laws = λ k x at. law_entry w e k x (boxed w ends t k x h at) h.legal fits (none k) (h.laws k x at);
    legal = legal.grown e h.legal fits refl;
    clock = more ∙ ap (λ n. n + cond (is_tick e) 1 0) h.clock ∙ sym (clock-after w.history e);
    box_count = length-delivered w.history e 0 w.mailboxes ∙ h.box_count;
    end_count = h.end_count;
    ring_count = h.ring_count;
    few = h.few;
    valid = h.valid;
    since = since-same began w (grown w e) refl refl refl refl refl refl h.since;
  }

  -- a tick that the ledger counted
  pub lawful_tick : (w : World A) (ends : List (EndView A)) (t u : ℕ) (to : List ℕ) (arrived : List Arrival) (farewells : List Bye) →
      Fits {A = A} w.floor w.history (entry.Tick to arrived farewells) → u ≡ t + 1 → IsLawful rings began w ends t → IsLawful rings began (grown {A = A} w (entry.Tick to arrived farewells)) ends u
  lawful_tick w ends t u to arrived farewells fits one h = lawful_entry w ends t u (entry.Tick to arrived farewells) fits (λ k. refl) one h

  -- an order was taken
  pub lawful_take : (w : World A) (ends : List (EndView A)) (t c : ℕ) (e : EndView A) (o : Order) (v : Verdict) (known : List Order) → IsVerdict w.floor w.history c o v →
      slice_get ends c ≡ Some e → IsLawful rings began w ends t → IsLawful rings began (grown {A = A} w (entry.Take c o v)) (set ends c (took e o known)) t
  lawful_take w ends t c e o v known verdict at h =
      let law = h.laws c e at in
      let en : Entry A = entry.Take c o v in
      let fits : Fits w.floor w.history en = (omega (arith, within ends c e at, h.end_count), verdict) in
      record {
        laws = laws_set w (grown w en) ends c (took e o known) h.laws
            (λ k x there n l. law_entry w en k x (boxed w ends t k x h there) h.legal fits (rw (ne_eqb c k (λ s. n (sym s))) refl) l)
            (record {
              lane = law.lane;
              keeps = keeps_entry w en c e (e.taken ++ o ∷ []) (boxed w ends t c e h at) h.legal fits (rw (eq-eqb c c refl) refl) law;
            });
        legal = legal.grown en h.legal fits refl;
        clock = h.clock ∙ sym (clock-after w.history en ∙ omega arith);
        box_count = length-delivered w.history en 0 w.mailboxes ∙ h.box_count;
        end_count = length-set ends c (took e o known) ∙ h.end_count;
        ring_count = length-set ends c (took e o known) ∙ h.ring_count;
        few = omega (arith, length-set ends c (took e o known), h.few);
        valid = h.valid;
        since = since-same began w (grown w en) refl refl refl refl refl refl h.since;
      }

  lawful_handed : (w : World A) (ends : List (EndView A)) (t c : ℕ) (e d : EndView A) (moved left : List Notice) → slice_get ends c ≡ Some e →
      (pending w c).notices ≡ moved ++ left → d.lane ≡ e.lane → d.taken ≡ e.taken → d.given ≡ e.given ++ moved → IsLawful rings began w ends t → IsLawful rings began (handed w c left) (set ends c d) t
  lawful_handed w ends t c e d moved left at box lane taken given h =
      let law = h.laws c e at in
      let there = boxed w ends t c e h at in
      let b : Pending = record { notices = left; limit = (pending w c).limit } in
      record {
        laws = laws_set w (handed w c left) ends c d h.laws
            (λ k x kept n l. record { lane = l.lane; keeps = subst (λ (y : Pending). GoesOn began.history w.history k x.taken (x.given ++ y.notices)) (sym (get_or-set_other w.mailboxes c k b no_pending n)) l.keeps })
            (record {
              lane = law.lane ∙ ap Some (sym lane);
              keeps = subst (λ t. GoesOn began.history w.history c t (d.given ++ (pending (handed w c left) c).notices)) (sym taken)
                  (subst (GoesOn began.history w.history c e.taken)
                  (sym (ap (λ (y : Pending). d.given ++ y.notices) (get_or-set_same w.mailboxes c b no_pending there)
                  ∙ ap (λ g. g ++ left) given ∙ append_assoc e.given moved left ∙ ap (λ y. e.given ++ y) (sym box)))
                  law.keeps);
            });
        legal = h.legal;
        clock = h.clock;
        box_count = length-set w.mailboxes c b ∙ h.box_count;
        end_count = length-set ends c d ∙ h.end_count;
        ring_count = length-set ends c d ∙ h.ring_count;
        few = omega (arith, length-set ends c d, h.few);
        valid = h.valid;
        since = since-same began w (handed w c left) refl refl refl refl refl refl h.since;
      }

  -- notices went from the mailbox to the outlet
  pub lawful_give : (w v : World A) (ends : List (EndView A)) (t c n : ℕ) (e d : EndView A) → slice_get ends c ≡ Some e → Gives w v e d c n → IsLawful rings began w ends t → IsLawful rings began v (set ends c d) t
  lawful_give w v ends t c n e d at gives h =
      subst (λ x. IsLawful rings began x (set ends c d) t) (sym gives.world)
      (lawful_handed w ends t c e d gives.moved (pending v c).notices at gives.box (ap (λ x. x.lane) gives.end) (ap (λ x. x.taken) gives.end) (ap (λ x. x.given) gives.end) h)

  -- a robot was shut
  pub lawful_shut : (w : World A) (ends : List (EndView A)) (t robot : ℕ) (farewell : Option ℕ) → Fits {A = A} w.floor w.history (entry.Shut robot farewell) →
      IsLawful rings began w ends t → IsLawful rings began (grown {A = A} w (entry.Shut robot farewell)) ends t
  lawful_shut w ends t robot farewell fits h = lawful_entry w ends t t (entry.Shut robot farewell) fits (λ k. refl) (omega arith) h
