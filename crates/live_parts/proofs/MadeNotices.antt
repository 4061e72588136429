-- What is made for a client, entry by entry, is what its notices and counts are.
use Rattle.std.proofs.Common.{◌≡◌, ℕ, ◌+◌, ◌^◌, ◌<◌, List, [], ◌∷◌, ◌++◌, filter, length, cond, Bool, true, false, sym, refl, ap, ◌∙◌, subst, arith, add-zero}
use Rattle.std.specs.Prelude.{count_by, fold, slice_index, ◌==◌}
use Rattle.std.proofs.lemmas.List.{append_assoc, append-nil}
use Rattle.std.proofs.lemmas.List.Sums.{count_by-le-length, sum_by-append, sum_by-cons}
use Rattle.fleet_book.specs.declared.notice.Notice.{Notice}
use Rattle.fleet_book.specs.declared.notice.Notice.TheVariants as notice
use Rattle.fleet_book.specs.declared.verdict.Verdict.{Verdict}
use Rattle.fleet_history.specs.declared.history.Arrival.{Arrival}
use Rattle.fleet_history.specs.declared.history.Entry.{Entry}
use Rattle.fleet_history.specs.declared.history.Entry.TheVariants.{Take, Tick, Shut}
use Rattle.fleet_history.specs.declared.history.Opening.{Opening}
use Rattle.fleet_history.specs.History.{History, after, clients, clock, client_at, is_take_of, is_tick, start, taken_count, with_entries}
use Rattle.fleet_history.specs.Notices.{arrival_notices, noticed_count, notices, told, told_count}
use Rattle.fleet_history.proofs.After.{clock-after, noticed_count-after, taken_count-after}
use Rattle.fleet_history.specs.Legal.{IsLegal}
use Rattle.fleet_history.proofs.Counts.{legal-counts, taken-few}
use Rattle.fleet_history.proofs.Legal.{legal-opening}
use Rattle.fleet_history.proofs.Told.{notices-after}
use Rattle.fleet_grid.specs.Floor.{Floor}
use Rattle.live_parts.specs.Notices.{capped}
use Rattle.live_parts.specs.Recalls.{IsCounted}
use Rattle.live_parts.specs.inside.Making.{Made, added, judged, landed, landed_of, opened}

-- what the entries of a history make for a client
abbrev pub made_by : {A : Type 0} → History A → ℕ → Made
made_by h c = record { notices = notices h c; taken = taken_count h c; noticed = noticed_count h c; tick = clock h }

abbrev made : List Notice → (taken noticed tick : ℕ) → Made
made ns t n k = record { notices = ns; taken = t; noticed = n; tick = k }

same-made : {ns ms : List Notice} {t u n m k j : ℕ} → ns ≡ ms → t ≡ u → n ≡ m → k ≡ j → made ns t n k ≡ made ms u m j
same-made a b c d = cc

capped-small : (n k : ℕ) → n + k < 2 ^ 64 → capped n k ≡ n + k
capped-small n k small = omega (arith, small)

-- ---- one entry, by numbers

made-judged : (b : Bool) (ns : List Notice) (t n k : ℕ) (v : Verdict) → t + cond b 1 0 < 2 ^ 64 → n + cond b 1 0 < 2 ^ 64 →
    cond b (judged (made ns t n k) v) (made ns t n k) ≡ made (ns ++ cond b (notice.Verdict (n + 1) (t + 1) v ∷ []) []) (t + cond b 1 0) (n + cond b 1 0) (k + 0)
made-judged true ns t n k v few small =
    let e = capped-small t 1 few in
    let f = capped-small n 1 small in
    same-made (ap (λ s. ns ++ notice.Verdict s (capped t 1) v ∷ []) f ∙ ap (λ o. ns ++ notice.Verdict (n + 1) o v ∷ []) e) e f (sym (add-zero k))
made-judged false ns t n k v few small = same-made (sym (append-nil ns)) (sym (add-zero t)) (sym (add-zero n)) (sym (add-zero k))

module _ (c : ℕ) (to : List ℕ) (t k : ℕ) where
  abbrev is_own : Arrival → Bool
  is_own a = a.client == c

  -- the arrivals after one that is the client's or not
  made-next : (b : Bool) (x : Arrival) (xs : List Arrival) (ns : List Notice) (n : ℕ) →
      ((ms : List Notice) (m : ℕ) → m + count_by is_own xs < 2 ^ 64 → fold (landed_of c to) (made ms t m k) xs ≡ made (ms ++ arrival_notices to k m (filter is_own xs)) t (m + count_by is_own xs) k) →
      n + (cond b 1 0 + count_by is_own xs) < 2 ^ 64 →
      fold (landed_of c to) (cond b (landed to (made ns t n k) x) (made ns t n k)) xs
      ≡ made (ns ++ arrival_notices to k n (cond b (x ∷ filter is_own xs) (filter is_own xs))) t (n + (cond b 1 0 + count_by is_own xs)) k
  made-next false x xs ns n others small =
      let same : 0 + count_by is_own xs ≡ count_by is_own xs = omega arith in
      others ns n (omega (arith, small, same)) ∙ same-made refl refl (ap (λ i. n + i) (sym same)) refl
  made-next true x xs ns n others small =
      let rest = count_by is_own xs in
      let one = notice.Arrived (n + 1) x.number x.robot (slice_index to x.robot) k x.stamp in
      let f : capped n 1 ≡ n + 1 = capped-small n 1 (omega (arith, small)) in
      let sums : n + 1 + rest ≡ n + (1 + rest) = omega arith in
      ap (λ s. fold (landed_of c to) (made (ns ++ notice.Arrived s x.number x.robot (slice_index to x.robot) k x.stamp ∷ []) t s k) xs) f
      ∙ others (ns ++ one ∷ []) (n + 1) (omega (arith, small))
      ∙ same-made (append_assoc ns (one ∷ []) (arrival_notices to k (n + 1) (filter is_own xs))) refl sums refl

  made-landed : (xs : List Arrival) (ns : List Notice) (n : ℕ) → n + count_by is_own xs < 2 ^ 64 →
      fold (landed_of c to) (made ns t n k) xs ≡ made (ns ++ arrival_notices to k n (filter is_own xs)) t (n + count_by is_own xs) k
  made-landed [] ns n small = same-made (sym (append-nil ns)) refl (sym (add-zero n)) refl
  made-landed (x ∷ xs) ns n small =
      let more = sum_by-cons (λ a. cond (is_own a) 1 0) x xs in
      made-next (is_own x) x xs ns n (made-landed xs) (omega (arith, small, more))
      ∙ same-made refl refl (ap (λ i. n + i) (sym more)) refl

-- ---- one entry of a history

module _ {A : Type 0} (h : History A) (c : ℕ) where
  -- the counts after one more entry
  made-after : (e : Entry A) → made (notices h c ++ told h c e) (taken_count h c + cond (is_take_of c e) 1 0) (noticed_count h c + told_count c e) (clock h + cond (is_tick e) 1 0) ≡ made_by (after h e) c
  made-after e = sym (same-made (notices-after h c e) (taken_count-after h c e) (noticed_count-after h c e) (clock-after h e))

  pub made-added : (e : Entry A) → IsCounted (after h e) c → added c (made_by h c) e ≡ made_by (after h e) c
  made-added (Take client order v) few =
      let e = Take client order v in
      made-judged (client == c) (notices h c) (taken_count h c) (noticed_count h c) (clock h) v
      (subst (λ i. i < 2 ^ 64) (taken_count-after h c e) few.orders) (subst (λ i. i < 2 ^ 64) (noticed_count-after h c e) few.notices)
      ∙ made-after e
  made-added (Tick to arrived farewells) few =
      let e = Tick to arrived farewells in
      let late : clock h + 1 < 2 ^ 64 = subst (λ i. i < 2 ^ 64) (clock-after h e) few.ticks in
      ap (λ k. fold (landed_of c to) (made (notices h c) (taken_count h c) (noticed_count h c) k) arrived) (capped-small (clock h) 1 late)
      ∙ made-landed c to (taken_count h c) (clock h + 1) arrived (notices h c) (noticed_count h c) (subst (λ i. i < 2 ^ 64) (noticed_count-after h c e) few.notices)
      ∙ same-made refl (sym (add-zero (taken_count h c))) refl refl
      ∙ made-after e
  made-added (Shut robot farewell) few =
      same-made (sym (append-nil (notices h c))) (sym (add-zero (taken_count h c))) (sym (add-zero (noticed_count h c))) (sym (add-zero (clock h)))
      ∙ made-after (Shut robot farewell)

-- ---- all entries

-- what 64 bits count after more entries they count before
counted-before : {A : Type 0} (h : History A) (c : ℕ) (xs ys : List (Entry A)) → IsCounted (with_entries h (xs ++ ys)) c → IsCounted (with_entries h xs) c
counted-before h c xs ys few = record {
  orders = omega (arith, few.orders, sum_by-append (λ e. cond (is_take_of c e) 1 0) xs ys);
  notices = omega (arith, few.notices, sum_by-append (told_count c) xs ys);
  ticks = omega (arith, few.ticks, sum_by-append (λ e. cond (is_tick e) 1 0) xs ys);
}

made-entries : {A : Type 0} (c : ℕ) (es : List (Entry A)) (h : History A) → IsCounted (with_entries h (h.entries ++ es)) c →
    fold (added c) (made_by h c) es ≡ made_by (with_entries h (h.entries ++ es)) c
made-entries c [] h few = ap (λ es. made_by (with_entries h es) c) (sym (append-nil h.entries))
made-entries {A} c (e ∷ es) h few =
    let joins : h.entries ++ e ∷ [] ++ es ≡ h.entries ++ e ∷ es = append_assoc h.entries (e ∷ []) es in
    let all : IsCounted (with_entries h (h.entries ++ e ∷ [] ++ es)) c = subst (λ es. IsCounted (with_entries h es) c) (sym joins) few in
    ap (λ m. fold (added c) m es) (made-added h c e (counted-before h c (h.entries ++ e ∷ []) es all))
    ∙ made-entries c es (after h e) all
    ∙ ap (λ es. made_by (with_entries h es) c) joins

made-opened : {A : Type 0} (o : Opening A) (c : ℕ) → opened o c ≡ made_by (start o) c
made-opened o c = same-made refl (sym (add-zero (client_at (start o) c).taken)) (sym (add-zero (client_at (start o) c).noticed)) (sym (add-zero o.tick))

-- the notices of a history's entries
pub made-notices : {A : Type 0} (h : History A) (c : ℕ) → IsCounted h c → (fold (added c) (opened h.opening c) h.entries).notices ≡ notices h c
made-notices h c few = ap (λ m. m.notices) (ap (λ m. fold (added c) m h.entries) (made-opened h.opening c) ∙ made-entries c h.entries (start h.opening) few)

-- ---- legal histories

-- 64 bits count what a legal history has, if they count its ticks
pub legal-counted : {A : Type 0} (m : Floor) (c : ℕ) (h : History A) → IsLegal m h → c < clients h → h.opening.tick + length h.entries < 2 ^ 63 → IsCounted h c
legal-counted m c h legal known early =
    let counts = legal-counts m h c legal known in
    let opening = legal-opening m h legal in
    let client = opening.clients c known in
    record {
      orders = omega (arith, client.small, taken-few h c, early);
      notices = omega (arith, client.small, taken-few h c, early, counts.not_early, counts.within_life, opening.life.1);
      ticks = omega (arith, early, count_by-le-length is_tick h.entries);
    }
