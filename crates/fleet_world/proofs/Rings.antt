-- Each step of the core keeps the law of the rings.
use Rattle.std.proofs.Common.{◌≡◌, ℕ, ◌<◌, ◌≤◌, List, [], ◌∷◌, ◌++◌, length, drop, sym, refl, ap, ◌∙◌, subst, arith, inl, inr, Some, length-append}
use Rattle.std.specs.Prelude.{slice_get, slice_set, slice_index_or}
use Rattle.std.proofs.lemmas.List.{append-nil, append_assoc, length-set, get_or-set_same, get_or-set_other, drop-append-le, drop-drop}
use Rattle.std.proofs.lemmas.Bool.{cases_eq, eq-eqb, ne_eqb}
use Rattle.fleet_book.specs.declared.order.Order.{Order}
use Rattle.fleet_book.specs.declared.verdict.Verdict.{Verdict}
use Rattle.fleet_book.specs.declared.notice.Notice.{Notice}
use Rattle.fleet_history.specs.declared.history.Entry.{Entry}
use Rattle.fleet_history.specs.declared.history.Entry.TheVariants as entry
use Rattle.fleet_history.specs.History.{History, after, clients}
use Rattle.fleet_history.specs.Notices.{told}
use Rattle.fleet_history.specs.Laws.{orders, order_by}
use Rattle.fleet_history.proofs.Told.{notices-after, orders-after}
use Rattle.fleet_core.specs.declared.faults.TakeFault.TheVariants as take_fault
use Rattle.fleet_core.specs.declared.faults.TickFault.TheVariants as tick_fault
use Rattle.fleet_core.specs.declared.faults.ShutFault.TheVariants as shut_fault
use Rattle.fleet_book.specs.declared.event.Event.{Event}
use Rattle.fleet_book.specs.declared.event.Event.TheVariants.{Post, Take, Tick, Give, Collect, Shut}
use Rattle.fleet_world.specs.declared.reply.Reply.{Reply}
use Rattle.fleet_world.specs.declared.reply.Reply.TheVariants.{Posted, LaneFull, Took, LaneEmpty, TakeRefused, Ticked, TickRefused, Gave, NothingPending, OutletFull, Collected, NothingThere, ShutDone, ShutRefused, NoClient}
use Rattle.fleet_core.specs.Pending.{Pending, no_pending}
use Rattle.fleet_core.specs.Core as core
use Rattle.fleet_core.specs.Core.{World, pending, delivered}
use Rattle.fleet_world.specs.Run.{State, Lists, lists, lane, outlet, mailbox, with_lists, with_sent, with_taken, with_given, with_collected, no_lists, Step, Run, state_of}
use Rattle.fleet_world.specs.Laws.{RingLaw, KeepsRings}
use Rattle.fleet_core.proofs.CoreKept.{length-delivered, box_at-delivered}

-- ---- one client

prefix_sent : (l : Lists) (o : Order) → l.taken ++ lane l ≡ l.sent → l.taken ++ lane (with_sent l o) ≡ l.sent ++ o ∷ []
prefix_sent l o p =
    let le : length l.taken ≤ length l.sent = omega (arith, ap length p, length-append l.taken (lane l)) in
    rw (drop-append-le (length l.taken) l.sent (o ∷ []) le, ← append_assoc l.taken (lane l) (o ∷ [])) (ap (λ x. x ++ o ∷ []) p)

prefix_given : (l : Lists) (n : Notice) → l.collected ++ outlet l ≡ l.given → l.collected ++ outlet (with_given l n) ≡ l.given ++ n ∷ []
prefix_given l n p =
    let le : length l.collected ≤ length l.given = omega (arith, ap length p, length-append l.collected (outlet l)) in
    rw (drop-append-le (length l.collected) l.given (n ∷ []) le, ← append_assoc l.collected (outlet l) (n ∷ [])) (ap (λ x. x ++ n ∷ []) p)

head_split : {X : Type 0} (xs : List X) (x : X) → slice_get xs 0 ≡ Some x → x ∷ drop 1 xs ≡ xs
head_split [] x e = cc
head_split (y ∷ xs) x e = let s : y ≡ x = cc in rw s refl

-- a list goes over from what is left to what was taken
moved : {X : Type 0} (xs ys : List X) (x : X) → xs ++ drop (length xs) ys ≡ ys → slice_get (drop (length xs) ys) 0 ≡ Some x →
    (xs ++ x ∷ []) ++ drop (length (xs ++ x ∷ [])) ys ≡ ys
moved xs ys x p e =
    rw (length-append xs (x ∷ []), ← drop-drop 1 (length xs) ys, append_assoc xs (x ∷ []) (drop 1 (drop (length xs) ys)), head_split (drop (length xs) ys) x e) p

abbrev popped : Pending → Pending
popped b = record { notices = drop 1 b.notices; limit = b.limit }

module _ {A : Type 0} where
  law_sent : (h : History A) (c : ℕ) (box : List Notice) (l : Lists) (o : Order) → RingLaw h c box l → RingLaw h c box (with_sent l o)
  law_sent h c box l o r = record { taken_prefix = prefix_sent l o r.taken_prefix; collected_prefix = r.collected_prefix; taken = r.taken; told = r.told }

  law_given : (h : History A) (c : ℕ) (box : List Notice) (l : Lists) (n : Notice) → slice_get box 0 ≡ Some n → RingLaw h c box l → RingLaw h c (drop 1 box) (with_given l n)
  law_given h c box l n e r = record {
    taken_prefix = r.taken_prefix;
    collected_prefix = prefix_given l n r.collected_prefix;
    taken = r.taken;
    told = append_assoc l.given (n ∷ []) (drop 1 box) ∙ ap (λ x. l.given ++ x) (head_split box n e) ∙ r.told;
  }

  law_collected : (h : History A) (c : ℕ) (box : List Notice) (l : Lists) (n : Notice) → slice_get (outlet l) 0 ≡ Some n → RingLaw h c box l → RingLaw h c box (with_collected l n)
  law_collected h c box l n e r = record { taken_prefix = r.taken_prefix; collected_prefix = moved l.collected l.given n r.collected_prefix e; taken = r.taken; told = r.told }

  law_told : (h : History A) (c : ℕ) (box : List Notice) (l : Lists) (e : Entry A) → order_by c e ≡ [] → RingLaw h c box l → RingLaw (after h e) c (box ++ told h c e) l
  law_told h c box l e none r = record {
    taken_prefix = r.taken_prefix;
    collected_prefix = r.collected_prefix;
    taken = orders-after h c e ∙ rw none (append-nil (orders h c)) ∙ r.taken;
    told = sym (append_assoc l.given box (told h c e)) ∙ ap (λ x. x ++ told h c e) r.told ∙ sym (notices-after h c e);
  }

  law_taken : (h : History A) (c : ℕ) (box : List Notice) (l : Lists) (o : Order) (v : Verdict) → slice_get (lane l) 0 ≡ Some o → RingLaw h c box l →
      RingLaw (after h (entry.Take c o v)) c (box ++ told {A = A} h c (entry.Take c o v)) (with_taken l o)
  law_taken h c box l o v e r =
      let en : Entry A = entry.Take c o v in
      record {
        taken_prefix = moved l.taken l.sent o r.taken_prefix e;
        collected_prefix = r.collected_prefix;
        taken = orders-after h c en ∙ rw (eq-eqb c c refl) (ap (λ x. x ++ o ∷ []) r.taken);
        told = sym (append_assoc l.given box (told h c en)) ∙ ap (λ x. x ++ told h c en) r.told ∙ sym (notices-after h c en);
      }

  -- ---- all clients

  -- other lists of one client, and the same mailbox
  keeps_lists : (s : State A) (c : ℕ) (l : Lists) → KeepsRings s → c < clients s.world.history → RingLaw s.world.history c (mailbox s c) l → KeepsRings (with_lists s.world s c l)
  keeps_lists s c l k inside law = record {
    list_count = length-set s.clients c l ∙ k.list_count;
    box_count = k.box_count;
    each = λ j h. elim (cases_eq c j) [
      | inl e ↦ subst (λ j. RingLaw s.world.history j (mailbox s j) (slice_index_or (slice_set s.clients c l) j no_lists)) e
          (rw (get_or-set_same s.clients c l no_lists (omega (arith, k.list_count))) law)
      | inr ne ↦ rw (get_or-set_other s.clients c j l no_lists (λ e. ne (sym e))) (k.each j h)
    ];
  }

  keeps_given : (s : State A) (c : ℕ) (l : Lists) → KeepsRings s → c < clients s.world.history → RingLaw s.world.history c (drop 1 (mailbox s c)) l → KeepsRings (with_lists (core.without_first s.world c) s c l)
  keeps_given s c l k inside law = record {
    list_count = length-set s.clients c l ∙ k.list_count;
    box_count = length-set s.world.mailboxes c (popped (pending s.world c)) ∙ k.box_count;
    each = λ j h. elim (cases_eq c j) [
      | inl e ↦ subst (λ j. RingLaw s.world.history j (slice_index_or (slice_set s.world.mailboxes c (popped (pending s.world c))) j no_pending).notices (slice_index_or (slice_set s.clients c l) j no_lists)) e
          (rw (get_or-set_same s.clients c l no_lists (omega (arith, k.list_count)), get_or-set_same s.world.mailboxes c (popped (pending s.world c)) no_pending (omega (arith, k.box_count))) law)
      | inr ne ↦ subst (λ (b : Pending). RingLaw s.world.history j b.notices (slice_index_or (slice_set s.clients c l) j no_lists)) (sym (get_or-set_other s.world.mailboxes c j (popped (pending s.world c)) no_pending (λ e. ne (sym e))))
          (subst (λ (x : Lists). RingLaw s.world.history j (mailbox s j) x) (sym (get_or-set_other s.clients c j l no_lists (λ e. ne (sym e)))) (k.each j h))
    ];
  }

  -- an entry that takes no order
  keeps_entry : (s : State A) (e : Entry A) → ((c : ℕ) → order_by c e ≡ []) → KeepsRings s → KeepsRings (state_of (core.grown s.world e) s.clients)
  keeps_entry s e none k = record {
    list_count = k.list_count;
    box_count = length-delivered s.world.history e 0 s.world.mailboxes ∙ k.box_count;
    each = λ j h. subst (λ (b : Pending). RingLaw (after s.world.history e) j b.notices (lists s j)) (sym (box_at-delivered s.world.history e 0 j j s.world.mailboxes (omega arith) (omega (arith, k.box_count))))
        (law_told s.world.history j (mailbox s j) (lists s j) e (none j) (k.each j h));
  }

  keeps_take : (s : State A) (c : ℕ) (o : Order) (v : Verdict) → KeepsRings s → c < clients s.world.history → slice_get (lane (lists s c)) 0 ≡ Some o →
      KeepsRings (with_lists (core.grown s.world (entry.Take c o v)) s c (with_taken (lists s c) o))
  keeps_take s c o v k inside next =
      let e : Entry A = entry.Take c o v in
      let l = with_taken (lists s c) o in
      record {
        list_count = length-set s.clients c l ∙ k.list_count;
        box_count = length-delivered s.world.history e 0 s.world.mailboxes ∙ k.box_count;
        each = λ j h. subst (λ (b : Pending). RingLaw (after s.world.history e) j b.notices (slice_index_or (slice_set s.clients c l) j no_lists)) (sym (box_at-delivered s.world.history e 0 j j s.world.mailboxes (omega arith) (omega (arith, k.box_count))))
            (elim (cases_eq c j) [
              | inl same ↦ subst (λ j. RingLaw (after s.world.history e) j (mailbox s j ++ told s.world.history j e) (slice_index_or (slice_set s.clients c l) j no_lists)) same
                  (rw (get_or-set_same s.clients c l no_lists (omega (arith, k.list_count))) (law_taken s.world.history c (mailbox s c) (lists s c) o v next (k.each c inside)))
              | inr ne ↦ rw (get_or-set_other s.clients c j l no_lists (λ e. ne (sym e)))
                  (law_told s.world.history j (mailbox s j) (lists s j) e (rw (ne_eqb c j ne) refl) (k.each j h))
            ]);
      }

  keeps_same : (s t : State A) → t ≡ s → KeepsRings s → KeepsRings t
  keeps_same s t e k = subst KeepsRings (sym e) k

  -- a state is known by its parts
  state_parts : (t : State A) (w : World A) (l : List Lists) → t.world ≡ w → t.clients ≡ l → t ≡ state_of w l
  state_parts t w l a b = ap (λ w. state_of w t.clients) a ∙ ap (λ l. state_of w l) b

  -- each step keeps the law
  pub KeepsRings-step : (s t : State A) (event : Event) (reply : Reply) → Step s event reply t → KeepsRings s → KeepsRings t
  KeepsRings-step s t (Post c o) NoClient st k = keeps_same s t st.1 k
  KeepsRings-step s t (Post c o) LaneFull st k = keeps_same s t st.2 k
  KeepsRings-step s t (Post c o) (Posted n) st k =
      subst KeepsRings (sym st.3) (keeps_lists s c (with_sent (lists s c) o) k st.0 (law_sent s.world.history c (mailbox s c) (lists s c) o (k.each c st.0)))
  KeepsRings-step s t (Take c) NoClient st k = keeps_same s t st.1 k
  KeepsRings-step s t (Take c) LaneEmpty st k = keeps_same s t st.2 k
  KeepsRings-step s t (Take c) (TakeRefused take_fault.MailboxFull) st k = keeps_same s t st.3 k
  KeepsRings-step s t (Take c) (TakeRefused take_fault.ChapterFull) st k = keeps_same s t st.4 k
  KeepsRings-step s t (Take c) (Took order_no v) (inside, room, entries, order, next, takes, number, same) k =
      subst KeepsRings (sym (state_parts t (core.grown s.world (entry.Take c order v)) (slice_set s.clients c (with_taken (lists s c) order)) takes.world same)) (keeps_take s c order v k inside next)
  KeepsRings-step s t Tick (TickRefused tick_fault.ClockSpent) st k = keeps_same s t st.1 k
  KeepsRings-step s t Tick (TickRefused tick_fault.ChapterFull) st k = keeps_same s t st.2 k
  KeepsRings-step s t Tick (Ticked report) (early, room, ticks, same) k =
      let e : Entry A = entry.Tick ticks.to ticks.arrived ticks.farewells in
      subst KeepsRings (sym (state_parts t (core.grown s.world e) s.clients ticks.world same)) (keeps_entry s e (λ c. refl) k)
  KeepsRings-step s t (Shut r) (ShutRefused shut_fault.NoRobot) st k = keeps_same s t st.1 k
  KeepsRings-step s t (Shut r) (ShutRefused shut_fault.Already) st k = keeps_same s t st.2 k
  KeepsRings-step s t (Shut r) (ShutRefused shut_fault.ChapterFull) st k = keeps_same s t st.3 k
  KeepsRings-step s t (Shut r) (ShutDone farewell) (room, shuts, same) k =
      let e : Entry A = entry.Shut r farewell in
      subst KeepsRings (sym (state_parts t (core.grown s.world e) s.clients shuts.world same)) (keeps_entry s e (λ c. refl) k)
  KeepsRings-step s t (Give c) NoClient st k = keeps_same s t st.1 k
  KeepsRings-step s t (Give c) NothingPending st k = keeps_same s t st.2 k
  KeepsRings-step s t (Give c) OutletFull st k = keeps_same s t st.3 k
  KeepsRings-step s t (Give c) (Gave seq) (inside, room, notice, next, number, same) k =
      subst KeepsRings (sym same) (keeps_given s c (with_given (lists s c) notice) k inside (law_given s.world.history c (mailbox s c) (lists s c) notice next (k.each c inside)))
  KeepsRings-step s t (Collect c) NoClient st k = keeps_same s t st.1 k
  KeepsRings-step s t (Collect c) NothingThere st k = keeps_same s t st.2 k
  KeepsRings-step s t (Collect c) (Collected n) st k =
      subst KeepsRings (sym st.2) (keeps_lists s c (with_collected (lists s c) n) k st.0 (law_collected s.world.history c (mailbox s c) (lists s c) n st.1 (k.each c st.0)))
  KeepsRings-step s t _ _ st k = absurd st

  pub KeepsRings-run : (s t : State A) (events : List Event) (replies : List Reply) → Run s events replies t → KeepsRings s → KeepsRings t
  KeepsRings-run s t [] [] r k = keeps_same s t r k
  KeepsRings-run s t (e ∷ events) (p ∷ replies) (mid, first, rest) k = KeepsRings-run mid t events replies rest (KeepsRings-step s mid e p first k)
  KeepsRings-run s t [] (p ∷ replies) r k = absurd r
  KeepsRings-run s t (e ∷ events) [] r k = absurd r
