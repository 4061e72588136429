-- Orders that are judged at the end.
use Rattle.std.proofs.Common.{◌≡◌, ◌∙◌, ℕ, ◌+◌, ◌≤◌, ◌<◌, zero, suc, Bool, true, false, ◌⊎◌, inl, inr, List, [], ◌∷◌, ◌++◌, length, map, take, drop, get_or, Option, Some, None, refl, sym, ap, subst, arith}
use Rattle.std.proofs.lemmas.List.{get_or-set_same, length-set}
use Rattle.std.proofs.lemmas.Option.{slice_get_read}
use Rattle.std.specs.Prelude.{slice_get, slice_index_or, slice_set}
use Rattle.std.specs.List.{AllByRecursion}
use Rattle.std.specs.declared.alloc.Global.{Global}
use Rattle.fleet_book.specs.declared.event.Event.{Event}
use Rattle.fleet_book.specs.declared.event.Event.TheVariants.{Take}
use Rattle.fleet_book.specs.declared.order.Order.{Order}
use Rattle.fleet_core.specs.Core.{HasNoRoom, HasRoom, World, next_world, pending, widened}
use Rattle.fleet_core.specs.Pending.{Pending, no_pending}
use Rattle.fleet_core.specs.declared.faults.TakeFault.TheVariants as take_fault
use Rattle.fleet_history.specs.History.{clients, owed}
use Rattle.fleet_history.proofs.Next.{start-owed}
use Rattle.fleet_world.specs.declared.reply.Reply.{Reply}
use Rattle.fleet_world.specs.declared.reply.Reply.TheVariants.{Took, LaneEmpty, TakeRefused, NoClient}
use Rattle.fleet_world.specs.Talk.{Talk, TalkStep, Waiting, next_talk, none_waiting, talk_of, waiting, without_order}
use Rattle.live_fleet.specs.Act.{Act, Runs, did, full, grew, handed}
use Rattle.live_fleet.specs.Ending.{IsClosing, NoneLeft, TakesLeft, TakesNext, missing_room, wants_mailbox}
use Rattle.live_fleet.specs.Stepping.{StepsOn, here, next}
use Rattle.live_fleet.specs.Taking.{is_took}
use Rattle.live_fleet.specs.Went.{At, Went}
use Rattle.live_fleet.proofs.Going.{went-grew, went-none, went-then}
use Rattle.live_fleet.proofs.Parts.{all-then}
use Rattle.live_fleet.proofs.Steps.{last-step, steps-went}

is_true : {P : Type 0} → true ≡ false → P
is_true bad = cc

is_false : {P : Type 0} → false ≡ true → P
is_false bad = cc

none_left : (s t : Talk Global) (c : ℕ) (reply : Reply) → TalkStep s (Take c) reply t → is_took reply ≡ false → (wants_mailbox reply ≡ true → length t.world.mailboxes ≤ c) → NoneLeft t c
none_left s t c NoClient st other wants = subst (λ (x : Talk Global). NoneLeft x c) (sym st.1) (inl st.0)
none_left s t c LaneEmpty st other wants = subst (λ (x : Talk Global). NoneLeft x c) (sym st.2) (inr (inl st.1))
none_left s t c (TakeRefused take_fault.MailboxFull) st other wants = inr (inr (inr (wants refl)))
none_left s t c (TakeRefused take_fault.ChapterFull) st other wants = subst (λ (x : Talk Global). NoneLeft x c) (sym st.4) (inr (inr (inl st.3)))
none_left s t c (Took n v) st other wants = is_true other
none_left s t c _ st other wants = absurd st

-- a mailbox without room changes nothing
no_room : (s t : Talk Global) (c : ℕ) (reply : Reply) → TalkStep s (Take c) reply t → wants_mailbox reply ≡ true → (c < clients s.world.history) × HasNoRoom s.world c × (t ≡ s)
no_room s t c (TakeRefused take_fault.MailboxFull) st wants = (st.0, st.2, st.3)
no_room s t c (TakeRefused take_fault.ChapterFull) st wants = is_false wants
no_room s t c NoClient st wants = is_false wants
no_room s t c LaneEmpty st wants = is_false wants
no_room s t c (Took n v) st wants = is_false wants
no_room s t c _ st wants = absurd st

-- the mailbox of the client has no room
pub mailbox-full : (c : ℕ) (reply : Reply) (a b : At) → ((acts : List Act) × StepsOn (Take c) reply a acts b) → wants_mailbox reply ≡ true → (c < clients b.fleet.talk.world.history) × HasNoRoom b.fleet.talk.world c
mailbox-full c reply a b (acts, step) wants =
    let (s, last) = last-step (Take c) reply a acts b step in
    let (inside, room, same) = no_room s b.fleet.talk c reply last wants in
    subst (λ (x : Talk Global). (c < clients x.world.history) × HasNoRoom x.world c) (sym same) (inside, room)

only_closing : (c : ℕ) (reply : Reply) (a : At) (acts : List Act) (b : At) → StepsOn (Take c) reply a acts b → AllByRecursion (IsClosing c) acts
only_closing c reply a acts b (here is last went) = subst (λ (l : List Act). AllByRecursion (IsClosing c) l) (sym is) (refl, tt)
only_closing c reply a acts b (next is went) = subst (λ (l : List Act). AllByRecursion (IsClosing c) l) (sym is) (refl, (tt, (refl, tt)))

-- ---- the orders that wait become fewer

no_order : {P : Type 0} (order : Order) → None ≡ Some order → P
no_order order bad = cc

dropped_less : (lane : List Order) (order : Order) → slice_get lane 0 ≡ Some order → length (drop 1 lane) < length lane
dropped_less [] order first = no_order order first
dropped_less (x ∷ lane) order first = omega arith

lane_less : (all : List Waiting) (c : ℕ) (order : Order) → slice_get (slice_index_or all c none_waiting).lane 0 ≡ Some order
    → length (slice_index_or (slice_set all c (without_order (slice_index_or all c none_waiting))) c none_waiting).lane < length (slice_index_or all c none_waiting).lane
lane_less [] c order first = no_order order first
lane_less (w ∷ all) zero order first = dropped_less w.lane order first
lane_less (w ∷ all) (suc c) order first = lane_less all c order first

took_less : (s t : Talk Global) (c : ℕ) (reply : Reply) → TalkStep s (Take c) reply t → is_took reply ≡ true → length (waiting t c).lane < length (waiting s c).lane
took_less s t c (Took n v) (inside, room, entries, order, first, takes, number, same) took =
    subst (λ (l : List Waiting). length (slice_index_or l c none_waiting).lane < length (waiting s c).lane) (sym same) (lane_less s.clients c order first)
took_less s t c NoClient st took = is_false took
took_less s t c LaneEmpty st took = is_false took
took_less s t c (TakeRefused take_fault.MailboxFull) st took = is_false took
took_less s t c (TakeRefused take_fault.ChapterFull) st took = is_false took
took_less s t c _ st took = absurd st

-- the talk of which an event's own step is: the one that it found, or that one in its next chapter
pub from-step : (e : Event) (reply : Reply) (a : At) (acts : List Act) (b : At) → StepsOn e reply a acts b → (s : Talk Global) × TalkStep s e reply b.fleet.talk × ((s ≡ a.fleet.talk) ⊎ (s ≡ next_talk a.fleet.talk))
from-step e reply a acts b (here is last went) =
    let (m, step, at) = subst (λ (l : List Act). Runs a.fleet.talk l b.fleet.talk) is went.runs in
    (a.fleet.talk, subst (λ (x : Talk Global). TalkStep a.fleet.talk e reply x) (sym at) step, inl refl)
from-step e reply a acts b (next is went) =
    let (m, (needs, same), (n, (is_it, sound, follows), (o, step, at))) = subst (λ (l : List Act). Runs a.fleet.talk l b.fleet.talk) is went.runs in
    (n, subst (λ (x : Talk Global). TalkStep n e reply x) (sym at) step, inr (follows ∙ ap next_talk same))

same_clients : (s a : Talk Global) → (s ≡ a) ⊎ (s ≡ next_talk a) → s.clients ≡ a.clients
same_clients s a (inl same) = ap (λ (x : Talk Global). x.clients) same
same_clients s a (inr same) = ap (λ (x : Talk Global). x.clients) same

steps_fewer : (c : ℕ) (reply : Reply) (a : At) (acts : List Act) (b : At) → StepsOn (Take c) reply a acts b → is_took reply ≡ true → length (waiting b.fleet.talk c).lane < length (waiting a.fleet.talk c).lane
steps_fewer c reply a acts b step took =
    let (s, last, from) = from-step (Take c) reply a acts b step in
    subst (λ (l : List Waiting). length (waiting b.fleet.talk c).lane < length (slice_index_or l c none_waiting).lane) (same_clients s a.fleet.talk from) (took_less s b.fleet.talk c reply last took)

-- an order for which the mailbox has no room waits on
steps_same : (c : ℕ) (reply : Reply) (a : At) (acts : List Act) (b : At) → StepsOn (Take c) reply a acts b → wants_mailbox reply ≡ true → b.fleet.talk.clients ≡ a.fleet.talk.clients
steps_same c reply a acts b step wants =
    let (s, last, from) = from-step (Take c) reply a acts b step in
    let (inside, room, same) = no_room s b.fleet.talk c reply last wants in
    ap (λ (x : Talk Global). x.clients) same ∙ same_clients s a.fleet.talk from

-- ---- room in a mailbox

there_or_not : (boxes : List Pending) (c : ℕ) → (c < length boxes) ⊎ (length boxes ≤ c)
there_or_not [] c = inr (omega arith)
there_or_not (x ∷ boxes) zero = inl (omega arith)
there_or_not (x ∷ boxes) (suc c) = more (there_or_not boxes c)
  where
    more : (c < length boxes) ⊎ (length boxes ≤ c) → (suc c < length (x ∷ boxes)) ⊎ (length (x ∷ boxes) ≤ suc c)
    more (inl less) = inl (omega (arith, less))
    more (inr past) = inr (omega (arith, past))

room_made : (w : World Global) (c : ℕ) → c < length w.mailboxes → HasRoom (widened w c (missing_room w c)) c
room_made w c inside =
    let grown : Pending = record (pending w c) { limit = (pending w c).limit + missing_room w c } in
    let at : slice_index_or (slice_set w.mailboxes c grown) c no_pending ≡ grown = get_or-set_same w.mailboxes c grown no_pending inside in
    subst (λ (p : Pending). length p.notices + owed w.history c + 2 ≤ p.limit) (sym at) (omega arith)

-- in the next chapter too
room_next : (w : World Global) (c : ℕ) → HasRoom w c → HasRoom (next_world w) c
room_next w c room = subst (λ (n : ℕ). length (pending w c).notices + n + 2 ≤ (pending w c).limit) (sym (start-owed w.history c)) room

past_all : (w : World Global) (c extra : ℕ) → length w.mailboxes ≤ c → length (widened w c extra).mailboxes ≤ c
past_all w c extra past = let size = length-set w.mailboxes c (record (pending w c) { limit = (pending w c).limit + extra }) in omega (arith, size, past)

both_ways : (v : World Global) (c : ℕ) → HasRoom v c → HasNoRoom v c → ⊥
both_ways v c room none = omega (arith, room, none)

-- a mailbox that was widened for an order and has no room for it is none
no_box : (w : World Global) (c : ℕ) → HasNoRoom (widened w c (missing_room w c)) c → (c < length w.mailboxes) ⊎ (length w.mailboxes ≤ c) → length (widened w c (missing_room w c)).mailboxes ≤ c
no_box w c none (inl inside) = absurd (both_ways (widened w c (missing_room w c)) c (room_made w c inside) none)
no_box w c none (inr past) = past_all w c (missing_room w c) past

no_box_next : (w : World Global) (c : ℕ) → HasNoRoom (next_world (widened w c (missing_room w c))) c → (c < length w.mailboxes) ⊎ (length w.mailboxes ≤ c) → length (widened w c (missing_room w c)).mailboxes ≤ c
no_box_next w c none (inl inside) =
    absurd (both_ways (next_world (widened w c (missing_room w c))) c (room_next (widened w c (missing_room w c)) c (room_made w c inside)) none)
no_box_next w c none (inr past) = past_all w c (missing_room w c) past

still_from : (w : World Global) (clients : List Waiting) (m s : Talk Global) (c : ℕ) → m ≡ talk_of (widened w c (missing_room w c)) clients → (s ≡ m) ⊎ (s ≡ next_talk m) → HasNoRoom s.world c → length s.world.mailboxes ≤ c
still_from w clients m s c is (inl same) none =
    let at : s ≡ talk_of (widened w c (missing_room w c)) clients = same ∙ is in
    subst (λ (x : Talk Global). length x.world.mailboxes ≤ c) (sym at) (no_box w c (subst (λ (x : Talk Global). HasNoRoom x.world c) at none) (there_or_not w.mailboxes c))
still_from w clients m s c is (inr same) none =
    let at : s ≡ next_talk (talk_of (widened w c (missing_room w c)) clients) = same ∙ ap next_talk is in
    subst (λ (x : Talk Global). length x.world.mailboxes ≤ c) (sym at) (no_box_next w c (subst (λ (x : Talk Global). HasNoRoom x.world c) at none) (there_or_not w.mailboxes c))

still_full : (w : World Global) (clients : List Waiting) (c : ℕ) (reply : Reply) (m : At) (acts : List Act) (b : At) → m.fleet.talk ≡ talk_of (widened w c (missing_room w c)) clients → StepsOn (Take c) reply m acts b → wants_mailbox reply ≡ true
    → length b.fleet.talk.world.mailboxes ≤ c
still_full w clients c reply m acts b is step wants =
    let (s, last, from) = from-step (Take c) reply m acts b step in
    let (inside, none, same) = no_room s b.fleet.talk c reply last wants in
    subst (λ (x : Talk Global). length x.world.mailboxes ≤ c) (sym same) (still_from w clients m.fleet.talk s c is from none)

-- ---- one order

-- the next order was judged, or there was none
pub takes-next : (c : ℕ) (reply : Reply) (more : Bool) (a b : At) → ((acts : List Act) × StepsOn (Take c) reply a acts b) → wants_mailbox reply ≡ false → more ≡ is_took reply → (acts : List Act) × TakesNext c more a acts b
takes-next c reply more a b (acts, step) wants is = (
  acts,
  record {
    went = steps-went (Take c) reply a acts b step;
    only = only_closing c reply a acts b step;
    fewer = λ took. steps_fewer c reply a acts b step (sym is ∙ took);
    whole = λ none. let (s, last) = last-step (Take c) reply a acts b step in none_left s b.fleet.talk c reply last (sym is ∙ none) (λ bad. is_true (sym bad ∙ wants));
  },
)

-- the mailbox grew, and the order was judged
pub takes-wider : (c : ℕ) (reply again : Reply) (more : Bool) (a m n b : At) → ((acts : List Act) × StepsOn (Take c) reply a acts m) → wants_mailbox reply ≡ true
    → n.fleet.talk ≡ talk_of (widened m.fleet.talk.world c (missing_room m.fleet.talk.world c)) m.fleet.talk.clients → n.fleet.met ≡ m.fleet.met → n.fleet.recalls ≡ m.fleet.recalls → n.out ≡ m.out → ((acts : List Act) × StepsOn (Take c) again n acts b) → more ≡ is_took again
    → (acts : List Act) × TakesNext c more a acts b
takes-wider c reply again more a m n b (xs, first) wants grown met recalls out (ys, second) is =
    let extra = missing_room m.fleet.talk.world c in
    let lane : n.fleet.talk.clients ≡ a.fleet.talk.clients = ap (λ (x : Talk Global). x.clients) grown ∙ steps_same c reply a xs m first wants in (
      xs ++ (grew c extra ∷ ys),
      record {
        went = went-then a m b xs (grew c extra ∷ ys) (steps-went (Take c) reply a xs m first) (went-then m n b (grew c extra ∷ []) ys (went-grew m n c extra grown met recalls out) (steps-went (Take c) again n ys b second));
        only = all-then (IsClosing c) xs (grew c extra ∷ ys) (only_closing c reply a xs m first) (refl, only_closing c again n ys b second);
        fewer = λ took. subst (λ (l : List Waiting). length (waiting b.fleet.talk c).lane < length (slice_index_or l c none_waiting).lane) lane (steps_fewer c again n ys b second (sym is ∙ took));
        whole = λ none. let (s, last) = last-step (Take c) again n ys b second in
            none_left s b.fleet.talk c again last (sym is ∙ none) (still_full m.fleet.talk.world m.fleet.talk.clients c again n ys b grown second);
      },
    )

-- ---- one order after another

-- some orders of a client were judged
pub record Closing (client : ℕ) (a : At) (acts : List Act) (b : At) : Type 0 where
  pub went : Went a acts b
  pub only : AllByRecursion (IsClosing client) acts

pub closing-none : (client : ℕ) (a : At) → (acts : List Act) × Closing client a acts a
closing-none client a = ([], record { went = went-none a; only = tt })

pub closing-more : (client : ℕ) (more : Bool) (a m b : At) → ((acts : List Act) × Closing client a acts m) → ((acts : List Act) × TakesNext client more m acts b) → (acts : List Act) × Closing client a acts b
closing-more client more a m b (acts, so) (ys, one) = (acts ++ ys, record { went = went-then a m b acts ys so.went one.went; only = all-then (IsClosing client) acts ys so.only one.only })

pub closing-last : (client : ℕ) (more : Bool) (a m b : At) → ((acts : List Act) × Closing client a acts m) → ((acts : List Act) × TakesNext client more m acts b) → more ≡ false → (acts : List Act) × TakesLeft client a acts b
closing-last client more a m b (acts, so) (ys, one) none =
    (acts ++ ys, record { went = went-then a m b acts ys so.went one.went; only = all-then (IsClosing client) acts ys so.only one.only; whole = one.whole none })

pub closing-fewer : (client : ℕ) (more : Bool) (m b : At) → ((acts : List Act) × TakesNext client more m acts b) → more ≡ true → length (waiting b.fleet.talk client).lane < length (waiting m.fleet.talk client).lane
closing-fewer client more m b (acts, one) some = one.fewer some

-- ---- a list that is changed item by item

module _ {X : Type 0} (f : X → X) where
  none_there : {P : Type 0} (x : X) → None ≡ Some x → P
  none_there x bad = cc

  same_there : (x y : X) → Some x ≡ Some y → x ≡ y
  same_there x y e = cc

  changed_suc : (xs : List X) (n : ℕ) (x : X) → slice_get xs n ≡ Some x → slice_set (map f (take n xs) ++ drop n xs) n (f x) ≡ map f (take (suc n) xs) ++ drop (suc n) xs
  changed_suc [] n x at = none_there x at
  changed_suc (y ∷ ys) zero x at = ap (λ (z : X). f z ∷ ys) (sym (same_there y x at))
  changed_suc (y ∷ ys) (suc n) x at = ap (λ (l : List X). f y ∷ l) (changed_suc ys n x at)

  changed_more : (xs : List X) (n : ℕ) (x : X) → slice_get xs n ≡ Some x → slice_set (map f (take n xs) ++ drop n xs) n (f x) ≡ map f (take (n + 1) xs) ++ drop (n + 1) xs
  changed_more xs n x at = let e : suc n ≡ n + 1 = omega arith in subst (λ (k : ℕ). slice_set (map f (take n xs) ++ drop n xs) n (f x) ≡ map f (take k xs) ++ drop k xs) e (changed_suc xs n x at)

  still_there : (xs : List X) (n : ℕ) → slice_get (map f (take n xs) ++ drop n xs) n ≡ slice_get xs n
  still_there [] zero = refl
  still_there [] (suc n) = refl
  still_there (y ∷ ys) zero = refl
  still_there (y ∷ ys) (suc n) = still_there ys n

  -- one more of them was changed
  pub changed-next : (xs found : List X) (n : ℕ) (x : X) → found ≡ map f (take n xs) ++ drop n xs → n < length found → x ≡ get_or found n x → slice_set found n (f x) ≡ map f (take (n + 1) xs) ++ drop (n + 1) xs
  changed-next xs found n x is less read =
      let at : slice_get found n ≡ Some x = slice_get_read found (length found) n x refl less read in
      let there : slice_get xs n ≡ Some x = sym (still_there xs n) ∙ (ap (λ (l : List X). slice_get l n) (sym is) ∙ at) in
      ap (λ (l : List X). slice_set l n (f x)) is ∙ changed_more xs n x there
