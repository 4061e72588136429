-- What a core keeps stays true after each entry, and when a mailbox or the chapter changes.
use Rattle.std.proofs.Common.{Result, Ok, Err, ◌≡◌, ℕ, zero, suc, ◌+◌, ◌^◌, ◌<◌, ◌≤◌, List, [], ◌∷◌, ◌++◌, length, map, filter, Option, sym, refl, ap, ◌∙◌, subst, arith, inl, inr, cond, eqb, length-append, add-zero}
use Rattle.std.specs.Prelude.{slice_set, slice_index, count_by, ◌==◌, OnOk, OnErr}
use Rattle.std.specs.List.{range_with_len}
use Rattle.std.proofs.lemmas.List.{append-nil, length_push, length-set, get_or-set_same, get_or-set_other, ext_get_or}
use Rattle.std.proofs.lemmas.List.Sums.{length-filter}
use Rattle.std.proofs.lemmas.Bool.{eq-eqb, ne_eqb, cases_eq, cases_Bool}
use Rattle.fleet_grid.specs.Floor.{Floor}
use Rattle.fleet_book.specs.declared.limits.Limits.{Limits}
use Rattle.fleet_book.specs.declared.notice.Notice.TheVariants as notice
use Rattle.fleet_book.specs.declared.order.Order.{Order}
use Rattle.fleet_book.specs.declared.order.Order.TheVariants.{Go, Close, Withdraw}
use Rattle.fleet_book.specs.declared.verdict.Verdict.{Verdict}
use Rattle.fleet_book.specs.declared.verdict.Verdict.TheVariants.{Accepted}
use Rattle.fleet_history.specs.declared.history.Arrival.{Arrival}
use Rattle.fleet_history.specs.declared.history.Bye.{Bye}
use Rattle.fleet_history.specs.declared.history.Entry.{Entry}
use Rattle.fleet_history.specs.declared.history.Entry.TheVariants as entry
use Rattle.fleet_history.specs.History.{History, start, after, clients, clock, owed, taken_count}
use Rattle.fleet_history.specs.Legal.{IsLegal, due_of, due}
use Rattle.fleet_history.specs.Next.{next_opening, HasRoomForCounts}
use Rattle.fleet_history.specs.Notices.{told, told_count, noticed_count, arrival_notices}
use Rattle.fleet_history.specs.Verdicts.{IsVerdict}
use Rattle.fleet_history.proofs.After.{clock-after, noticed_count-after, taken_count-after}
use Rattle.fleet_history.proofs.Chapters.{chapters-next, chapters-room}
use Rattle.fleet_history.proofs.Counts.{legal-counts, taken-few}
use Rattle.fleet_history.proofs.Next.{next-clients, start-clock, start-noticed, start-owed}
use Rattle.fleet_history.proofs.Owed.{owed_more, owed-after_take, owed-after_tick, owed-after_shut}
use Rattle.fleet_state.specs.State.{State, IsStateOf, by_client, HasFullRooms}
use Rattle.fleet_state.proofs.Entered.{set-by}
use Rattle.fleet_state.proofs.Parts.{listed, item-by, same-by, length-by, queue-limit, queue-count}
use Rattle.fleet_core.specs.Core.{delivered}
use Rattle.fleet_core.specs.inside.Kept.{AreBoxes, IsWithin}
use Rattle.fleet_core.specs.inside.Mailboxes.{Mailboxes, box_at, with_notice, with_box, AreDelivered}
use Rattle.fleet_core.specs.Pending.{Pending, no_pending}
use Rattle.fleet_core.proofs.Deliveries.{length-arrival_notices}

-- ---- the mailboxes after an entry

-- a mailbox after an entry
abbrev pub told_to : {A : Type 0} → History A → Entry A → ℕ → Pending → Pending
told_to h e c b = record { notices = b.notices ++ told h c e; limit = b.limit }

told_none : {A : Type 0} (h : History A) (e : Entry A) (c : ℕ) (b : Pending) → told h c e ≡ [] → told_to h e c b ≡ b
told_none h e c b none = ap (λ ns. record { notices = ns; limit = b.limit }) (ap (λ t. b.notices ++ t) none ∙ append-nil b.notices)

delivered_none : {A : Type 0} (h : History A) (e : Entry A) (k : ℕ) (boxes : List Pending) → ((c : ℕ) → k ≤ c → told h c e ≡ []) → delivered h e k boxes ≡ boxes
delivered_none h e k [] none = refl
delivered_none h e k (box ∷ boxes) none =
    ap (λ b. b ∷ delivered h e (k + 1) boxes) (told_none h e k box (none k (omega arith)))
    ∙ ap (λ bs. box ∷ bs) (delivered_none h e (k + 1) boxes (λ c l. none c (omega arith)))

delivered_at : {A : Type 0} (h : History A) (e : Entry A) (c k i : ℕ) (boxes : List Pending) → c ≡ k + i → i < length boxes → ((j : ℕ) → (c ≡ j → ⊥) → told h j e ≡ []) →
    delivered h e k boxes ≡ slice_set boxes i (told_to h e c (box_at boxes i))
delivered_at h e c k i [] s l others = absurd (omega arith)
delivered_at h e c k zero (box ∷ boxes) s l others =
    let s' : c ≡ k = omega arith in
    rw (← s') (ap (λ bs. told_to h e c box ∷ bs) (delivered_none h e (c + 1) boxes (λ j m. others j (λ q. omega arith))))
delivered_at h e c k (suc i) (box ∷ boxes) s l others =
    ap (λ b. b ∷ delivered h e (k + 1) boxes) (told_none h e k box (others k (λ q. omega arith)))
    ∙ ap (λ bs. box ∷ bs) (delivered_at h e c (k + 1) i boxes (omega arith) (omega arith) others)

told_take : {A : Type 0} (h : History A) (c : ℕ) (order : Order) (v : Verdict) → told {A = A} h c (entry.Take c order v) ≡ notice.Verdict (noticed_count h c + 1) (taken_count h c + 1) v ∷ []
told_take h c order v = rw (eq-eqb c c refl) refl

told_take_other : {A : Type 0} (h : History A) (c j : ℕ) (order : Order) (v : Verdict) → (c ≡ j → ⊥) → told {A = A} h j (entry.Take c order v) ≡ []
told_take_other h c j order v ne = rw (ne_eqb c j ne) refl

-- as many notices as are counted
length_told : {A : Type 0} (h : History A) (c : ℕ) (e : Entry A) → length (told h c e) ≡ told_count c e
length_told h c (entry.Take client order v) = elim (cases_Bool (eqb client c)) [
  | inl same ↦ rw same refl
  | inr other ↦ rw other refl
]
length_told h c (entry.Tick to arrived farewells) =
    length-arrival_notices to (clock h + 1) (noticed_count h c) (filter (λ a. a.client == c) arrived) ∙ length-filter (λ (a : Arrival). a.client == c) arrived
length_told h c (entry.Shut robot farewell) = refl

pub delivered-take : {A : Type 0} (h : History A) (c : ℕ) (order : Order) (v : Verdict) (boxes : List Pending) → c < length boxes →
    delivered {A = A} h (entry.Take c order v) 0 boxes
    ≡ slice_set boxes c (record { notices = (box_at boxes c).notices ++ notice.Verdict (noticed_count h c + 1) (taken_count h c + 1) v ∷ []; limit = (box_at boxes c).limit })
delivered-take h c order v boxes l =
    delivered_at h (entry.Take c order v) c 0 c boxes (omega arith) l (λ j ne. told_take_other h c j order v ne)
    ∙ ap (λ t. slice_set boxes c (record { notices = (box_at boxes c).notices ++ t; limit = (box_at boxes c).limit })) (told_take h c order v)

pub delivered-shut : {A : Type 0} (h : History A) (robot : ℕ) (farewell : Option ℕ) (boxes : List Pending) → delivered {A = A} h (entry.Shut robot farewell) 0 boxes ≡ boxes
delivered-shut h robot farewell boxes = delivered_none h (entry.Shut robot farewell) 0 boxes (λ c l. refl)

pub length-delivered : {A : Type 0} (h : History A) (e : Entry A) (k : ℕ) (boxes : List Pending) → length (delivered h e k boxes) ≡ length boxes
length-delivered h e k [] = refl
length-delivered h e k (box ∷ boxes) = ap suc (length-delivered h e (k + 1) boxes)

pub box_at-delivered : {A : Type 0} (h : History A) (e : Entry A) (k c i : ℕ) (boxes : List Pending) → c ≡ k + i → i < length boxes →
    box_at (delivered h e k boxes) i ≡ told_to h e c (box_at boxes i)
box_at-delivered h e k c i [] s l = absurd (omega arith)
box_at-delivered h e k c zero (box ∷ boxes) s l = let s' : c ≡ k = omega arith in rw s' refl
box_at-delivered h e k c (suc i) (box ∷ boxes) s l = box_at-delivered h e (k + 1) c i boxes (omega arith) (omega arith)

-- mailboxes that grew each by what the entry tells
pub delivered-from : {A : Type 0} (h : History A) (e : Entry A) (boxes boxes' : List Pending) → length boxes' ≡ length boxes →
    ((c : ℕ) → c < length boxes → box_at boxes' c ≡ told_to h e c (box_at boxes c)) → boxes' ≡ delivered h e 0 boxes
delivered-from h e boxes boxes' same each =
    ext_get_or no_pending boxes' (delivered h e 0 boxes) (same ∙ sym (length-delivered h e 0 boxes))
    (λ c l. each c (omega arith) ∙ sym (box_at-delivered h e 0 c c boxes (omega arith) (omega arith)))

-- ---- the mailboxes

-- what is counted is what was told
pub noticed-of : {A : Type 0} {h : History A} {x : Mailboxes} → AreBoxes h x → (c : ℕ) → c < clients h → slice_index x.noticed c ≡ noticed_count h c
noticed-of {h = h} k c l = ap (λ xs. slice_index xs c) k.noticed ∙ item-by (noticed_count h) (clients h) c 0 l

owed_more-le : (c client : ℕ) (order : Order) (v : Verdict) → owed_more c client order v ≤ cond (eqb client c) 1 0
owed_more-le c client (Go robot cell) (Accepted n) = omega arith
owed_more-le c client (Go robot cell) v = omega arith
owed_more-le c client Close v = omega arith
owed_more-le c client (Withdraw k) v = omega arith

module _ {A : Type 0} {m : Floor} {h : History A} {x : Mailboxes} (legal : IsLegal m h) (k : AreBoxes h x) where
  boxes-grow : {y : Mailboxes} (e : Entry A) → y.boxes ≡ delivered h e 0 x.boxes → y.noticed ≡ by_client (after h e) (noticed_count (after h e)) →
      ((c : ℕ) → c < clients h → length (box_at x.boxes c).notices + length (told h c e) + owed (after h e) c ≤ (box_at x.boxes c).limit) → AreBoxes (after h e) y
  boxes-grow e grown numbers each = record {
    told = λ c l.
        rw (grown, box_at-delivered h e 0 c c x.boxes (omega arith) (omega (arith, k.count)))
        (omega (arith, length-append (box_at x.boxes c).notices (told h c e), k.told c l, noticed_count-after h c e, length_told h c e));
    count = ap length grown ∙ length-delivered h e 0 x.boxes ∙ k.count;
    room = λ c l.
        rw (grown, box_at-delivered h e 0 c c x.boxes (omega arith) (omega (arith, k.count)))
        (omega (arith, length-append (box_at x.boxes c).notices (told h c e), each c l));
    noticed = numbers;
  }

  module _ (c : ℕ) (order : Order) (v : Verdict) (known : c < clients h) (is : IsVerdict m h c order v) where
    -- the notice of the verdict is what the take tells
    pub taken-boxes : (seq number : ℕ) → seq ≡ slice_index x.noticed c + 1 → number ≡ taken_count (after h (entry.Take c order v)) c →
        (with_notice x c (notice.Verdict seq number v)).boxes ≡ delivered {A = A} h (entry.Take c order v) 0 x.boxes
    taken-boxes seq number one two =
        let e : Entry A = entry.Take c order v in
        let more : seq ≡ noticed_count h c + 1 = one ∙ ap (λ n. n + 1) (noticed-of k c known) in
        let next : number ≡ taken_count h c + 1 = two ∙ taken_count-after h c e ∙ rw (eq-eqb c c refl) refl in
        rw (more, next) (sym (delivered-take h c order v x.boxes (omega (arith, k.count))))

    pub boxes-take : (seq number : ℕ) → seq ≡ slice_index x.noticed c + 1 → number ≡ taken_count (after h (entry.Take c order v)) c →
        length (box_at x.boxes c).notices + owed h c + 2 ≤ (box_at x.boxes c).limit → AreBoxes (after h (entry.Take c order v)) (with_notice x c (notice.Verdict seq number v))
    boxes-take seq number one two room =
        let e : Entry A = entry.Take c order v in
        boxes-grow e (taken-boxes seq number one two)
        (set-by 0 (clients h) c (slice_index x.noticed c + 1) (noticed_count (after h e)) x.noticed (ap length k.noticed ∙ length-by (noticed_count h) (clients h)) known
        (ap (λ n. n + 1) (noticed-of k c known) ∙ sym (noticed_count-after h c e ∙ rw (eq-eqb c c refl) refl))
        (λ j i ne. noticed-of k j i ∙ sym (noticed_count-after h j e ∙ rw (ne_eqb c j ne) (add-zero (noticed_count h j)))))
        (λ j l. elim (cases_eq c j) [
          | inl q ↦
              subst (λ j. length (box_at x.boxes j).notices + length (told h j e) + owed (after h e) j ≤ (box_at x.boxes j).limit) q
              (omega (arith, room, ap length (told_take h c order v), owed-after_take m h c c order v legal is, owed_more-le c c order v, eq_one c))
          | inr ne ↦ omega (arith, k.room j l, ap length (told_take_other h c j order v ne), owed-after_take m h j c order v legal is, owed_more-le j c order v, no_one c j ne)
        ])
      where
        eq_one : (c : ℕ) → ◌≡◌ {A = ℕ} (cond (eqb c c) 1 0) 1
        eq_one c = rw (eq-eqb c c refl) refl

        no_one : (c j : ℕ) → (c ≡ j → ⊥) → ◌≡◌ {A = ℕ} (cond (eqb c j) 1 0) 0
        no_one c j ne = rw (ne_eqb c j ne) refl

  pub boxes-shut : (robot : ℕ) (farewell : Option ℕ) → AreBoxes (after h (entry.Shut robot farewell)) x
  boxes-shut robot farewell =
      let e : Entry A = entry.Shut robot farewell in
      boxes-grow e (sym (delivered-shut h robot farewell x.boxes))
      (k.noticed ∙ same-by 0 (clients h) (noticed_count h) (noticed_count (after h e)) (λ c l. sym (noticed_count-after h c e ∙ add-zero (noticed_count h c))))
      (λ c l. omega (arith, k.room c l, owed-after_shut h c robot farewell))

  module _ {y : Mailboxes} (to : List ℕ) (arrived : List Arrival) (farewells : List Bye) (tick : ℕ) (at : tick ≡ clock h + 1) (d : AreDelivered arrived to tick x y) where
    -- what was delivered is what the tick tells
    pub ticked-boxes : y.boxes ≡ delivered {A = A} h (entry.Tick to arrived farewells) 0 x.boxes
    ticked-boxes =
        delivered-from h (entry.Tick to arrived farewells) x.boxes y.boxes d.count
        (λ c l. d.boxes c l ∙ ap (λ n. record { notices = (box_at x.boxes c).notices ++ arrival_notices to tick n (filter (λ a. a.client == c) arrived); limit = (box_at x.boxes c).limit }) (noticed-of k c (omega (arith, k.count)))
        ∙ ap (λ t. record { notices = (box_at x.boxes c).notices ++ arrival_notices to t (noticed_count h c) (filter (λ a. a.client == c) arrived); limit = (box_at x.boxes c).limit }) at)

    pub boxes-tick : map due_of arrived ≡ due h to → AreBoxes (after h (entry.Tick to arrived farewells)) y
    boxes-tick shows =
        let e : Entry A = entry.Tick to arrived farewells in
        boxes-grow e ticked-boxes
        (listed 0 (clients h) (noticed_count (after h e)) y.noticed (d.noticed_count ∙ ap length k.noticed ∙ length-by (noticed_count h) (clients h))
        (λ c l. d.noticed c (omega (arith, k.count)) ∙ ap (λ n. n + count_by (λ a. a.client == c) arrived) (noticed-of k c l) ∙ sym (noticed_count-after h c e)))
        (λ c l.
        let fs = filter (λ (a : Arrival). a.client == c) arrived in
        omega (arith, k.room c l, owed-after_tick h c to arrived farewells shows, length-filter (λ (a : Arrival). a.client == c) arrived, length-arrival_notices to (clock h + 1) (noticed_count h c) fs))

  -- a mailbox with fewer notices, or more room
  pub boxes-with : (c : ℕ) (b : Pending) → c < clients h → length b.notices ≤ length (box_at x.boxes c).notices → (box_at x.boxes c).limit ≤ b.limit → AreBoxes h (with_box x c b)
  boxes-with c b known fewer same = record {
    count = length-set x.boxes c b ∙ k.count;
    room = λ j l. elim (cases_eq c j) [
      | inl s ↦ subst (λ j. length (box_at (slice_set x.boxes c b) j).notices + owed h j ≤ (box_at (slice_set x.boxes c b) j).limit) s
          (rw (get_or-set_same x.boxes c b no_pending (omega (arith, k.count))) (omega (arith, k.room c known)))
      | inr ne ↦ rw (get_or-set_other x.boxes c j b no_pending (λ s. ne (sym s))) (k.room j l)
    ];
    told = λ j l. elim (cases_eq c j) [
      | inl s ↦ subst (λ j. length (box_at (slice_set x.boxes c b) j).notices ≤ noticed_count h j) s
          (rw (get_or-set_same x.boxes c b no_pending (omega (arith, k.count))) (omega (arith, k.told c known)))
      | inr ne ↦ rw (get_or-set_other x.boxes c j b no_pending (λ s. ne (sym s))) (k.told j l)
    ];
    noticed = k.noticed;
  }

  -- a chapter that goes on
  pub boxes-next : AreBoxes (start (next_opening h)) x
  boxes-next = record {
    count = k.count ∙ sym (next-clients h);
    room = λ c l. rw (start-owed h c) (k.room c (omega (arith, next-clients h)));
    told = λ c l. omega (arith, k.told c (omega (arith, next-clients h)), start-noticed h c (omega (arith, next-clients h)));
    noticed = k.noticed ∙ sym (ap (λ n. map (noticed_count (start (next_opening h))) (range_with_len 0 n)) (next-clients h) ∙ same-by 0 (clients h) (noticed_count (start (next_opening h))) (noticed_count h) (λ c l. start-noticed h c l));
  }

-- ---- the limits

module _ {A : Type 0} {limits : Limits} {number : ℕ} {h : History A} (k : IsWithin limits number h) where
  pub within-take : (c : ℕ) (order : Order) (v : Verdict) → length h.entries < limits.chapter → IsWithin limits number (after h (entry.Take c order v))
  within-take c order v few =
      let e : Entry A = entry.Take c order v in
      record { valid = k.valid; entries = omega (arith, length_push h.entries e); clock = omega (arith, clock-after h e, k.clock); numbered = k.numbered; chapters = k.chapters }

  pub within-shut : (robot : ℕ) (farewell : Option ℕ) → length h.entries < limits.chapter → IsWithin limits number (after h (entry.Shut robot farewell))
  within-shut robot farewell few =
      let e : Entry A = entry.Shut robot farewell in
      record { valid = k.valid; entries = omega (arith, length_push h.entries e); clock = omega (arith, clock-after h e, k.clock); numbered = k.numbered; chapters = k.chapters }

  pub within-tick : (to : List ℕ) (arrived : List Arrival) (farewells : List Bye) → length h.entries < limits.chapter → clock h < limits.clock → IsWithin limits number (after h (entry.Tick to arrived farewells))
  within-tick to arrived farewells few early =
      let e : Entry A = entry.Tick to arrived farewells in
      record { valid = k.valid; entries = omega (arith, length_push h.entries e); clock = omega (arith, clock-after h e); numbered = k.numbered; chapters = k.chapters }

  -- the next chapter's counts are in range
  pub within-room : HasRoomForCounts h
  within-room = chapters-room h number limits.chapter k.chapters k.entries (omega (arith, k.numbered, k.valid.chapters.1)) (omega (arith, k.valid.chapter.1))

  pub within-next : number + 1 < limits.chapters → IsWithin limits (number + 1) (start (next_opening h))
  within-next more = record {
    valid = k.valid;
    entries = omega arith;
    clock = omega (arith, start-clock h, k.clock);
    numbered = more;
    chapters = chapters-next h number limits.chapter k.chapters k.entries;
  }

  pub counts-small : (m : Floor) → IsLegal m h → (c : ℕ) → c < clients h → noticed_count h c + owed h c ≤ 2 ^ 57
  counts-small m legal c l =
      let n = legal-counts m h c legal l in
      omega (arith, n.not_early, n.fewer, taken-few h c, within-room c l)

  pub taken-small : (c : ℕ) → c < clients h → taken_count h c ≤ 2 ^ 57
  taken-small c l = omega (arith, taken-few h c, within-room c l)

  pub pending-small : (m : Floor) → IsLegal m h → {x : Mailboxes} → AreBoxes h x → (c : ℕ) → c < clients h → length (box_at x.boxes c).notices + owed h c ≤ 2 ^ 57
  pending-small m legal boxed c l = omega (arith, counts-small m legal c l, boxed.told c l)

  pub noticed-small : (m : Floor) → IsLegal m h → (c : ℕ) → c < clients h → noticed_count h c + 512 < 2 ^ 60
  noticed-small m legal c l = omega (arith, counts-small m legal c l)

-- a queue's room is that of the history
pub room-kept : {A : Type 0} {m : Floor} {h g : History A} {s t : State A} → IsStateOf m h s → IsStateOf m g t → g.opening ≡ h.opening → t.rooms ≡ s.rooms → HasFullRooms s → HasFullRooms t
room-kept k n same rooms enough r l =
    rw rooms (omega (arith, enough r (omega (arith, l, queue-count k, queue-count n, ap (λ o. length o.robots) same)), queue-limit k, queue-limit n, ap (λ o. o.queue) same))

-- mailboxes after a call that may fail
pub either-way : {X E : Type 0} (r : Result X E) (P : Mailboxes → Type 0) (x a b : Mailboxes) → OnOk r (x ≡ a) → OnErr r (x ≡ b) → P a → P b → P x
either-way (Ok v) P x a b one two p q = subst P (sym one) p
either-way (Err e) P x a b one two p q = subst P (sym two) q
