-- The notices of arrivals, delivered one by one.
use Rattle.std.proofs.Common.{◌≡◌, ℕ, suc, ◌+◌, ◌^◌, ◌<◌, ◌≤◌, List, [], ◌∷◌, ◌++◌, length, filter, take, get_or, cond, sym, refl, ap, ◌∙◌, subst, arith, inl, inr, add-zero, length-append}
use Rattle.std.specs.Prelude.{slice_set, slice_index, ◌==◌, count_by}
use Rattle.std.proofs.lemmas.List.{append_assoc, append-nil, length-take, get_or-set_same, get_or-set_other, length-set}
use Rattle.std.proofs.lemmas.List.Sums.{count_by_more_yes, count_by_more_no, count_by-le-length, length-filter, sum_by-take-le}
use Rattle.std.proofs.lemmas.List.Elements.{filter_more}
use Rattle.std.proofs.lemmas.Bool.{cases_eq, eq-eqb, ne_eqb}
use Rattle.fleet_book.specs.declared.notice.Notice.{Notice}
use Rattle.fleet_book.specs.declared.notice.Notice.TheVariants as notice
use Rattle.fleet_history.specs.declared.history.Arrival.{Arrival}
use Rattle.fleet_history.specs.Notices.{arrival_notices}
use Rattle.fleet_core.specs.Pending.{Pending, no_pending}
use Rattle.fleet_core.specs.inside.Mailboxes.{Mailboxes, box_at, with_notice, AreDelivered}

abbrev pub nobody : Arrival
nobody = record { robot = 0; client = 0; number = 0; stamp = 0 }

-- how many notices were made after these arrivals
abbrev pub told_more : ℕ → ℕ → List Arrival → ℕ
told_more n c xs = n + count_by (λ a. a.client == c) xs

-- the notice of one arrival
abbrev pub arrival_notice : List ℕ → ℕ → ℕ → Arrival → Notice
arrival_notice to tick seq a = notice.Arrived seq a.number a.robot (slice_index to a.robot) tick a.stamp

arrival_notices-push : (to : List ℕ) (tick seq : ℕ) (xs : List Arrival) (a : Arrival) →
    arrival_notices to tick seq (xs ++ a ∷ []) ≡ arrival_notices to tick seq xs ++ arrival_notice to tick (seq + length xs + 1) a ∷ []
arrival_notices-push to tick seq [] a = rw add-zero refl
arrival_notices-push to tick seq (x ∷ xs) a =
    ap (λ t. arrival_notice to tick (seq + 1) x ∷ t)
    (arrival_notices-push to tick (seq + 1) xs a ∙ ap (λ n. arrival_notices to tick (seq + 1) xs ++ arrival_notice to tick (n + 1) a ∷ []) (let e : seq + 1 + length xs ≡ seq + suc (length xs) = omega arith in e))

pub length-arrival_notices : (to : List ℕ) (tick seq : ℕ) (xs : List Arrival) → length (arrival_notices to tick seq xs) ≡ length xs
length-arrival_notices to tick seq [] = refl
length-arrival_notices to tick seq (x ∷ xs) = ap suc (length-arrival_notices to tick (seq + 1) xs)

told_more_same : (n c : ℕ) (xs : List Arrival) (j : ℕ) (d : Arrival) → j < length xs → (get_or xs j d).client ≡ c → told_more n c (take j xs) + 1 ≡ told_more n c (take (j + 1) xs)
told_more_same n c xs j d l e = omega (arith, count_by_more_yes (λ (a : Arrival). a.client == c) xs j d l (eq-eqb (get_or xs j d).client c e))

told_more_other : (n c : ℕ) (xs : List Arrival) (j : ℕ) (d : Arrival) → j < length xs → ((get_or xs j d).client ≡ c → ⊥) → told_more n c (take j xs) ≡ told_more n c (take (j + 1) xs)
told_more_other n c xs j d l ne = omega (arith, count_by_more_no (λ (a : Arrival). a.client == c) xs j d l (ne_eqb (get_or xs j d).client c ne))

-- the numbers after one more arrival
pub numbers_more : (xs : List Arrival) (j n : ℕ) (d : Arrival) (numbers numbers₀ : List ℕ) → j < length xs → (get_or xs j d).client < length numbers →
    ((c : ℕ) → c < n → slice_index numbers c ≡ told_more (slice_index numbers₀ c) c (take j xs)) → (get_or xs j d).client < n →
    (c : ℕ) → c < n → slice_index (slice_set numbers (get_or xs j d).client (slice_index numbers (get_or xs j d).client + 1)) c ≡ told_more (slice_index numbers₀ c) c (take (j + 1) xs)
numbers_more xs j n d numbers numbers₀ l inside inv known c h =
    let i = (get_or xs j d).client in
    let more = slice_index numbers i + 1 in
    elim (cases_eq i c) [
      | inl e ↦ subst (λ c. slice_index (slice_set numbers i more) c ≡ told_more (slice_index numbers₀ c) c (take (j + 1) xs)) e
          (get_or-set_same numbers i more 0 inside ∙ ap (λ n. n + 1) (inv i known) ∙ told_more_same (slice_index numbers₀ i) i xs j d l refl)
      | inr ne ↦ get_or-set_other numbers i c more 0 (λ e. ne (sym e)) ∙ inv c h ∙ told_more_other (slice_index numbers₀ c) c xs j d l ne
    ]

-- a number stays small
pub told-small : (n c j : ℕ) (xs : List Arrival) → n + length xs < 2 ^ 60 → told_more n c (take j xs) + 1 < 2 ^ 64
told-small n c j xs l = omega (arith, count_by-le-length (λ (a : Arrival). a.client == c) (take j xs), length-take j xs)

-- a mailbox after these arrivals
abbrev pub box_more : List ℕ → ℕ → Pending → ℕ → ℕ → List Arrival → Pending
box_more to tick b noticed c xs = record { notices = b.notices ++ arrival_notices to tick noticed (filter (λ a. a.client == c) xs); limit = b.limit }

-- a mailbox with one more notice
abbrev pub box_with : Pending → Notice → Pending
box_with b n = record { notices = b.notices ++ n ∷ []; limit = b.limit }

box_more_same : (xs : List Arrival) (j : ℕ) (d : Arrival) (b : Pending) (to : List ℕ) (tick noticed seq c : ℕ) → j < length xs → (get_or xs j d).client ≡ c →
    seq ≡ noticed + count_by (λ a. a.client == c) (take j xs) + 1 →
    box_with (box_more to tick b noticed c (take j xs)) (arrival_notice to tick seq (get_or xs j d)) ≡ box_more to tick b noticed c (take (j + 1) xs)
box_more_same xs j d b to tick noticed seq c l e at =
    let p = λ (a : Arrival). a.client == c in
    let fs = filter p (take j xs) in
    let x = get_or xs j d in
    let q : noticed + length fs + 1 ≡ seq = omega (arith, length-filter p (take j xs)) in
    ap (λ ns. record { notices = ns; limit = b.limit })
    (append_assoc b.notices (arrival_notices to tick noticed fs) (arrival_notice to tick seq x ∷ [])
    ∙ ap (λ y. b.notices ++ y)
    (sym (ap (arrival_notices to tick noticed) (filter_more p xs j d l ∙ rw (eq-eqb x.client c e) refl)
    ∙ arrival_notices-push to tick noticed fs x ∙ ap (λ k. arrival_notices to tick noticed fs ++ arrival_notice to tick k x ∷ []) q)))

box_more_other : (xs : List Arrival) (j : ℕ) (d : Arrival) (b : Pending) (to : List ℕ) (tick noticed c : ℕ) → j < length xs → ((get_or xs j d).client ≡ c → ⊥) →
    box_more to tick b noticed c (take j xs) ≡ box_more to tick b noticed c (take (j + 1) xs)
box_more_other xs j d b to tick noticed c l ne =
    let p = λ (a : Arrival). a.client == c in
    ap (λ fs. record { notices = b.notices ++ arrival_notices to tick noticed fs; limit = b.limit })
    (sym (filter_more p xs j d l ∙ rw (ne_eqb (get_or xs j d).client c ne) (append-nil (filter p (take j xs)))))

-- the mailboxes after one more arrival
pub boxes_more : (xs : List Arrival) (j n : ℕ) (d : Arrival) (boxes boxes₀ : List Pending) (numbers₀ : List ℕ) (to : List ℕ) (tick seq : ℕ) (b : Pending) → j < length xs →
    (get_or xs j d).client < length boxes → (get_or xs j d).client < n →
    ((c : ℕ) → c < n → box_at boxes c ≡ box_more to tick (box_at boxes₀ c) (slice_index numbers₀ c) c (take j xs)) →
    b ≡ box_at boxes (get_or xs j d).client →
    seq ≡ told_more (slice_index numbers₀ (get_or xs j d).client) (get_or xs j d).client (take j xs) + 1 →
    (c : ℕ) → c < n → box_at (slice_set boxes (get_or xs j d).client (box_with b (arrival_notice to tick seq (get_or xs j d)))) c ≡
    box_more to tick (box_at boxes₀ c) (slice_index numbers₀ c) c (take (j + 1) xs)
boxes_more xs j n d boxes boxes₀ numbers₀ to tick seq b l inside within inv is at c h =
    let i = (get_or xs j d).client in
    let x = arrival_notice to tick seq (get_or xs j d) in
    elim (cases_eq i c) [
      | inl e ↦
          subst (λ k. box_at (slice_set boxes i (box_with b x)) k ≡ box_more to tick (box_at boxes₀ k) (slice_index numbers₀ k) k (take (j + 1) xs)) e
          (get_or-set_same boxes i (box_with b x) no_pending inside
          ∙ ap (λ b. box_with b x) (is ∙ inv i within)
          ∙ box_more_same xs j d (box_at boxes₀ i) to tick (slice_index numbers₀ i) seq i l refl at)
      | inr ne ↦
          get_or-set_other boxes i c (box_with b x) no_pending (λ e. ne (sym e))
          ∙ inv c h ∙ box_more_other xs j d (box_at boxes₀ c) to tick (slice_index numbers₀ c) c l ne
    ]

count-take_more : (xs : List Arrival) (j : ℕ) (d : Arrival) (c : ℕ) → j < length xs → (get_or xs j d).client ≡ c → count_by (λ a. a.client == c) (take j xs) + 1 ≤ count_by (λ a. a.client == c) xs
count-take_more xs j d c l e =
    let p = λ (a : Arrival). a.client == c in
    omega (arith, count_by_more_yes p xs j d l (eq-eqb (get_or xs j d).client c e), sum_by-take-le (λ (a : Arrival). cond (p a) 1 0) xs (j + 1))

-- there is room for one more notice
pub room-here : (xs : List Arrival) (j : ℕ) (d : Arrival) (b b₀ : Pending) (to : List ℕ) (tick noticed c : ℕ) → j < length xs → (get_or xs j d).client ≡ c →
    b ≡ box_more to tick b₀ noticed c (take j xs) → length b₀.notices + count_by (λ a. a.client == c) xs ≤ b₀.limit → length b.notices < b.limit
room-here xs j d b b₀ to tick noticed c l e is room =
    let p = λ (a : Arrival). a.client == c in
    let fs = filter p (take j xs) in
    rw is
    (omega (arith, length-append b₀.notices (arrival_notices to tick noticed fs), length-arrival_notices to tick noticed fs, length-filter p (take j xs), count-take_more xs j d c l e))

-- one more arrival is delivered
pub delivered-more : (xs : List Arrival) (j : ℕ) (to : List ℕ) (tick seq : ℕ) (x y : Mailboxes) → AreDelivered (take j xs) to tick x y → j < length xs → (get_or xs j nobody).client < length x.boxes →
    length y.noticed ≡ length y.boxes → seq ≡ slice_index y.noticed (get_or xs j nobody).client + 1 →
    AreDelivered (take (j + 1) xs) to tick x (with_notice y (get_or xs j nobody).client (arrival_notice to tick seq (get_or xs j nobody)))
delivered-more xs j to tick seq x y a l known even next =
    let i = (get_or xs j nobody).client in
    let n = arrival_notice to tick seq (get_or xs j nobody) in
    record {
      count = length-set y.boxes i (box_with (box_at y.boxes i) n) ∙ a.count;
      boxes = boxes_more xs j (length x.boxes) nobody y.boxes x.boxes x.noticed to tick seq (box_at y.boxes i) l (omega (arith, a.count)) known a.boxes refl (next ∙ ap (λ k. k + 1) (a.noticed i known));
      noticed_count = length-set y.noticed i (slice_index y.noticed i + 1) ∙ a.noticed_count;
      noticed = numbers_more xs j (length x.boxes) nobody y.noticed x.noticed l (omega (arith, a.count)) a.noticed known;
    }
