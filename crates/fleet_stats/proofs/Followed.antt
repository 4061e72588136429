-- A chapter, entry by entry, with the state before each.
use Rattle.std.proofs.Common.{◌≡◌, ℕ, zero, suc, ◌+◌, ◌^◌, ◌<◌, ◌≤◌, List, [], ◌∷◌, ◌++◌, Option, length, get_or, take, drop, refl, sym, ap, subst, ◌∙◌, add-one, arith}
use Rattle.std.specs.Prelude.{slice_index, slice_get, map}
use Rattle.std.proofs.lemmas.List.{take_more, drop_more, drop_all, take_all, take-append-drop, append_assoc}
use Rattle.std.proofs.lemmas.List.Sums.{count_by-le-length}
use Rattle.fleet_grid.specs.Floor.{Floor}
use Rattle.fleet_history.specs.declared.history.Entry.{Entry}
use Rattle.fleet_history.specs.declared.history.Entry.TheVariants.{Take, Tick, Shut}
use Rattle.fleet_history.specs.History.{History, with_entries, after, clock, is_tick, place, robots, unfinished}
use Rattle.fleet_history.specs.Legal.{Fits}
use Rattle.fleet_history.proofs.Legal.{fits-at}
use Rattle.fleet_state.specs.State.{State, IsStateOf, HasFullRooms, robot_count}
use Rattle.fleet_queue.specs.declared.errand.Errand.{Errand}
use Rattle.fleet_queue.specs.Queue.{Queue}
use Rattle.fleet_state.specs.Robots.{queue_at}
use Rattle.fleet_state.specs.Follows.{Follows, MayFollow, IsPlaced}
use Rattle.fleet_state.proofs.Parts.{cells-of, waits-of, queue-count, queue-of, queue-limit}
use Rattle.fleet_state.proofs.Entered.{tick-of}
use Rattle.fleet_state.proofs.Judged.{has-place}
use Rattle.fleet_stats.specs.Noted.{Notes, note, note_by, noted, entries_noted, history_noted, waits, left_by, left_if, left_below, left_of}
use Rattle.fleet_stats.specs.declared.rows.Left.{Left}
use Rattle.fleet_trace.specs.Chapters.{IsSound}
use Rattle.fleet_stats.specs.inside.Following.{CanFollow, IsEnd}

-- the history up to an entry
abbrev pub upto : {A : Type 0} → History A → ℕ → History A
upto h i = with_entries h (take i h.entries)

-- the state before the entry at a place
pub record IsThere {A : Type 0} (h : History A) (i : ℕ) (s : State A) : Type 0 where
  pub floor : Floor
  pub sound : IsSound floor h
  pub is : IsStateOf floor (upto h i) s
  pub full : HasFullRooms s

pub begins : {A : Type 0} (h : History A) (s : State A) → CanFollow h s → IsThere h 0 s
begins h s k = record { floor = k.floor; sound = k.sound; is = k.is; full = k.full }

length-take : {X : Type 0} (xs : List X) (i : ℕ) → i ≤ length xs → length (take i xs) ≡ i
length-take xs zero le = refl
length-take [] (suc i) le = absurd (omega (arith, le))
length-take (x ∷ xs) (suc i) le = ap suc (length-take xs i (omega (arith, le)))

placed : {A : Type 0} {m : Floor} {h : History A} {s : State A} (e : Entry A) → IsStateOf m h s → Fits m h e → HasFullRooms s → IsPlaced s.queues e
placed (Take client order v) k fits full = has-place k client order v fits.1 full
placed (Tick to arrived farewells) k fits full = tt
placed (Shut robot farewell) k fits full = tt

-- the rooms of a state that follows
still-full : {A : Type 0} {m : Floor} {h g : History A} {s t : State A} → IsStateOf m h s → IsStateOf m g t → g.opening ≡ h.opening → t.rooms ≡ s.rooms → HasFullRooms s → HasFullRooms t
still-full {s = s} {t = t} k l same rooms full = λ r less.
    let count : length t.queues ≡ length s.queues = queue-count l ∙ ap (λ o. length o.robots) same ∙ sym (queue-count k) in
    let queue : t.queue ≡ s.queue = queue-limit l ∙ ap (λ o. o.queue) same ∙ sym (queue-limit k) in
    subst (λ (xs : List ℕ). t.queue ≤ slice_index xs r) (sym rooms) (omega (arith, queue, full r (omega (arith, less, count))))

module _ {A : Type 0} (h : History A) (i : ℕ) (s : State A) (k : IsThere h i s) where
  -- the clock has room
  pub early : i ≤ length h.entries → s.tick < 2 ^ 63
  early le = omega (arith, tick-of k.is, k.sound.early, count_by-le-length is_tick (take i h.entries), length-take h.entries i le)

  -- what is recorded by the state is recorded by the history
  pub noted-is : (e : Entry A) (n : Notes) → note_by s.tick s.waits s.cells e n ≡ note (upto h i) e n
  noted-is e n = rw (tick-of k.is, waits-of k.is, cells-of k.is) refl

  module _ (e : Entry A) (less : i < length h.entries) (is : get_or h.entries i e ≡ e) where
    left-is : drop i h.entries ≡ e ∷ drop (i + 1) h.entries
    left-is = drop_more h.entries i e less ∙ ap (λ x. x ∷ drop (i + 1) h.entries) is

    more-is : take (i + 1) h.entries ≡ take i h.entries ++ e ∷ []
    more-is = take_more h.entries i e less ∙ ap (λ x. take i h.entries ++ x ∷ []) is

    fits : Fits k.floor (upto h i) e
    fits = fits-at k.floor h (take i h.entries) (drop (i + 1) h.entries) e k.sound.legal (sym (take-append-drop i h.entries) ∙ ap (λ xs. take i h.entries ++ xs) left-is)

    pub may : MayFollow s e
    may = record {
      floor = k.floor;
      history = upto h i;
      is = k.is;
      fits = fits;
      early = omega (arith, k.sound.early, count_by-le-length is_tick (take i h.entries), length-take h.entries i (omega (arith, less)), less);
      few = omega (arith, k.sound.early, length-take h.entries i (omega (arith, less)), less);
    }

    pub room : IsPlaced s.queues e
    room = placed e k.is fits k.full

    pub next : (t : State A) → Follows s e t → t.rooms ≡ s.rooms → IsThere h (i + 1) t
    next t follows rooms =
        let one : IsStateOf k.floor (after (upto h i) e) t = follows k.floor (upto h i) k.is fits in
        let two : IsStateOf k.floor (upto h (i + 1)) t = subst (λ (es : List (Entry A)). IsStateOf k.floor (with_entries h es) t) (sym more-is) one in
        record { floor = k.floor; sound = k.sound; is = two; full = still-full k.is two refl rooms k.full }

    -- one more entry is recorded
    pub recorded : (n more all : Notes) → more ≡ note_by s.tick s.waits s.cells e n → noted (upto h i) (drop i h.entries) n ≡ all
        → noted (upto h (i + 1)) (drop (i + 1) h.entries) more ≡ all
    recorded n more all more-by before =
        let note-is : more ≡ note (upto h i) e n = more-by ∙ noted-is e n in
        ap (λ (es : List (Entry A)). noted (with_entries h es) (drop (i + 1) h.entries) more) more-is
        ∙ ap (λ (x : Notes). noted (after (upto h i) e) (drop (i + 1) h.entries) x) note-is
        ∙ sym (ap (λ (es : List (Entry A)). noted (upto h i) es n) left-is)
        ∙ before

-- all entries are recorded
pub all-recorded : {A : Type 0} (h : History A) (i : ℕ) (n all : Notes) → length h.entries ≤ i → noted (upto h i) (drop i h.entries) n ≡ all → n ≡ all
all-recorded h i n all past before = sym (ap (λ es. noted (upto h i) es n) (drop_all i h.entries past)) ∙ before

-- the state after all entries is that at the end
pub at-end : {A : Type 0} (h : History A) (i : ℕ) (s : State A) → length h.entries ≤ i → IsThere h i s → IsEnd h s
at-end {A} h i s past there =
    record { floor = there.floor; is = subst (λ (es : List (Entry A)). IsStateOf there.floor (with_entries h es) s) (take_all i h.entries past) there.is }

-- ---- what is left

same-left : (f g : ℕ → List Errand) (n : ℕ) → ((r : ℕ) → r < n → f r ≡ g r) → left_below f n ≡ left_below g n
same-left f g zero same = refl
same-left f g (suc n) same = rw (same-left f g n (λ r less. same r (omega (arith, less))), same n (omega arith)) refl

left_one : (r : ℕ) (xs : List Errand) (k : ℕ) → k < length xs → map (left_by r) (drop k xs) ≡ left_if r (slice_get xs k) ++ map (left_by r) (drop (suc k) xs)
left_one r [] k less = absurd (omega (arith, less))
left_one r (x ∷ xs) zero less = refl
left_one r (x ∷ xs) (suc k) less = left_one r xs k (omega (arith, less))

-- one more errand of a queue
pub left_more : (r : ℕ) (xs : List Errand) (k : ℕ) (e : Option Errand) (old new all : List Left) → k < length xs → e ≡ slice_get xs k → new ≡ old ++ left_if r e
    → old ++ map (left_by r) (drop k xs) ≡ all → new ++ map (left_by r) (drop (k + 1) xs) ≡ all
left_more r xs k e old new all less same is before =
    rw (is, same, add-one k) (append_assoc old (left_if r (slice_get xs k)) (map (left_by r) (drop (suc k) xs)) ∙ ap (λ (t : List Left). old ++ t) (sym (left_one r xs k less)) ∙ before)

-- the errands in the queues are those that are neither done nor withdrawn
pub queues-left : {A : Type 0} {m : Floor} {h : History A} {s : State A} → IsStateOf m h s → left_below (λ r. (queue_at s.queues r).items) (length s.queues) ≡ left_of h
queues-left {h = h} {s = s} k =
    ap (left_below (λ r. (queue_at s.queues r).items)) (queue-count k)
    ∙ same-left (λ r. (queue_at s.queues r).items) (unfinished h) (robots h) (λ r less. ap (λ (q : Queue). q.items) (queue-of k r less))

-- what a chapter leaves is recorded at its end
pub chapter-noted : {A : Type 0} (h : History A) (old mid : Notes) (lefts : List Left) → mid ≡ entries_noted h old → lefts ≡ left_of h → record mid { left = lefts } ≡ history_noted h old
chapter-noted h old mid lefts is same = rw (is, same) refl
