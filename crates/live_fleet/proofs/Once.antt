-- Each notice is told once, and in order.
use Rattle.std.proofs.Common.{◌≡◌, ◌≢◌, ◌∙◌, ℕ, ◌+◌, ◌<◌, ◌==◌, zero, suc, Bool, true, false, List, [], ◌∷◌, ◌++◌, length, drop, Option, Some, None, refl, sym, ap, subst, arith, append_assoc, append-nil}
use borrow.Author.Tests.{eqb-true}
use Rattle.std.proofs.lemmas.Bool.{eq-eqb}
use Rattle.std.proofs.lemmas.List.{get_or-set_same, get_or-set_other, length-set}
use Rattle.std.specs.Prelude.{if◌then◌else◌, slice_get, slice_index_or, slice_set}
use Rattle.std.specs.List.{AllByRecursion, flat_map}
use Rattle.std.specs.declared.alloc.Global.{Global}
use Rattle.fleet_book.specs.declared.event.Event.{Event}
use Rattle.fleet_book.specs.declared.event.Event.TheVariants.{Post, Take, Tick, Give, Collect, Shut}
use Rattle.fleet_book.specs.declared.notice.Notice.{Notice}
use Rattle.fleet_core.specs.Core.{World, delivered, grown, next_world, pending, widened, without_first}
use Rattle.fleet_core.specs.Pending.{Pending, no_pending}
use Rattle.fleet_core.specs.declared.faults.TakeFault.TheVariants as take_fault
use Rattle.fleet_core.specs.declared.faults.TickFault.TheVariants as tick_fault
use Rattle.fleet_core.specs.declared.faults.ShutFault.TheVariants as shut_fault
use Rattle.fleet_history.specs.declared.history.Entry.{Entry}
use Rattle.fleet_history.specs.declared.history.Entry.TheVariants as entry
use Rattle.fleet_history.specs.History.{History, start}
use Rattle.fleet_history.specs.Notices.{notices, told_from}
use Rattle.fleet_history.specs.Notices as made
use Rattle.fleet_history.proofs.Told.{notices-after}
use Rattle.fleet_talk.specs.Chapters.{ChapterView, chapter_in}
use Rattle.fleet_world.specs.declared.reply.Reply.{Reply}
use Rattle.fleet_world.specs.declared.reply.Reply.TheVariants.{Posted, LaneFull, Took, LaneEmpty, TakeRefused, Ticked, TickRefused, Gave, NothingPending, OutletFull, Collected, NothingThere, ShutDone, ShutRefused, NoClient}
use Rattle.fleet_world.specs.Talk.{Talk, TalkStep, Waiting, mailbox, none_waiting, waiting, with_notice, with_order, without_notice, without_order}
use Rattle.live_fleet.specs.declared.speaker.Clients.{Clients}
use Rattle.live_fleet.specs.Act.{Act, Runs, did, full, handed, told, said, grew}
use Rattle.live_fleet.specs.Law.{IsKnown, IsToldRight, left_of, notices_in, notices_told}
use Rattle.live_fleet.specs.Out.{chapters_of}
use Rattle.live_fleet.proofs.Made.{Made, made-entry, made-next, made-none, made-then}

-- ---- lists of which one place changed

outlet_kept : (xs : List Waiting) (k c : ℕ) (x : Waiting) → x.outlet ≡ (slice_index_or xs k none_waiting).outlet → (slice_index_or (slice_set xs k x) c none_waiting).outlet ≡ (slice_index_or xs c none_waiting).outlet
outlet_kept [] zero c x same = refl
outlet_kept [] (suc k) c x same = refl
outlet_kept (w ∷ xs) zero zero x same = same
outlet_kept (w ∷ xs) zero (suc c) x same = refl
outlet_kept (w ∷ xs) (suc k) zero x same = refl
outlet_kept (w ∷ xs) (suc k) (suc c) x same = outlet_kept xs k c x same

box_kept : (xs : List Pending) (k c : ℕ) (x : Pending) → x.notices ≡ (slice_index_or xs k no_pending).notices → (slice_index_or (slice_set xs k x) c no_pending).notices ≡ (slice_index_or xs c no_pending).notices
box_kept [] zero c x same = refl
box_kept [] (suc k) c x same = refl
box_kept (w ∷ xs) zero zero x same = same
box_kept (w ∷ xs) zero (suc c) x same = refl
box_kept (w ∷ xs) (suc k) zero x same = refl
box_kept (w ∷ xs) (suc k) (suc c) x same = box_kept xs k c x same

-- the mailbox of a client grows by what the entry tells it
delivered_there : (h : History Global) (e : Entry Global) (k c n : ℕ) (boxes : List Pending) → n ≡ k + c → c < length boxes → (slice_index_or (delivered h e k boxes) c no_pending).notices ≡ (slice_index_or boxes c no_pending).notices ++ made.told h n e
delivered_there h e k c n [] is less = absurd (omega (arith, less))
delivered_there h e k zero n (box ∷ boxes) is less = let same : k ≡ n = omega (arith, is) in ap (λ (i : ℕ). box.notices ++ made.told h i e) same
delivered_there h e k (suc c) n (box ∷ boxes) is less = delivered_there h e (k + 1) c n boxes (omega (arith, is)) (omega (arith, less))

length_delivered : (h : History Global) (e : Entry Global) (k : ℕ) (boxes : List Pending) → length (delivered h e k boxes) ≡ length boxes
length_delivered h e k [] = refl
length_delivered h e k (box ∷ boxes) = ap suc (length_delivered h e (k + 1) boxes)

no_first : {P : Type 0} (n : Notice) → None ≡ Some n → P
no_first n bad = cc

same_first : (x y : Notice) → Some x ≡ Some y → x ≡ y
same_first x y e = cc

first_is : (xs : List Notice) (n : Notice) → slice_get xs 0 ≡ Some n → xs ≡ n ∷ drop 1 xs
first_is [] n at = no_first n at
first_is (x ∷ xs) n at = ap (λ (y : Notice). y ∷ xs) (same_first x n at)

-- ---- what acts add

-- what is told, and what is left after it, is what was left before and what was made since
pub record Adds (c : ℕ) (s : Talk Global) (told_now handed_now : List Notice) (t : Talk Global) : Type 0 where
  pub fresh : List Notice
  pub once : told_now ++ left_of t c ≡ left_of s c ++ fresh
  pub made : notices s.world.history c ++ fresh ≡ handed_now ++ notices t.world.history c
  pub numbers : Made c s.world.history t.world.history fresh

adds_none : (c : ℕ) (s t : Talk Global) → left_of t c ≡ left_of s c → t.world.history ≡ s.world.history → Adds c s [] [] t
adds_none c s t left history = record {
  fresh = [];
  once = left ∙ sym (append-nil (left_of s c));
  made = append-nil (notices s.world.history c) ∙ ap (λ (h : History Global). notices h c) (sym history);
  numbers = made-none c s.world.history t.world.history history;
}

adds_same : (c : ℕ) (s t : Talk Global) → t ≡ s → Adds c s [] [] t
adds_same c s t same = adds_none c s t (ap (λ (x : Talk Global). left_of x c) same) (ap (λ (x : Talk Global). x.world.history) same)

left_by : (c : ℕ) (s t : Talk Global) → (waiting t c).outlet ≡ (waiting s c).outlet → mailbox t c ≡ mailbox s c → left_of t c ≡ left_of s c
left_by c s t outlet box = ap (λ (l : List Notice). l ++ mailbox t c) outlet ∙ ap (λ (l : List Notice). (waiting s c).outlet ++ l) box

adds_then : (c : ℕ) (s m t : Talk Global) (told_one told_two handed_one handed_two : List Notice) → Adds c s told_one handed_one m → Adds c m told_two handed_two t → Adds c s (told_one ++ told_two) (handed_one ++ handed_two) t
adds_then c s m t told_one told_two handed_one handed_two one two = record {
  fresh = one.fresh ++ two.fresh;
  once =
      append_assoc told_one told_two (left_of t c)
      ∙ (ap (λ (l : List Notice). told_one ++ l) two.once
      ∙ (sym (append_assoc told_one (left_of m c) two.fresh) ∙ (ap (λ (l : List Notice). l ++ two.fresh) one.once ∙ append_assoc (left_of s c) one.fresh two.fresh)));
  made =
      sym (append_assoc (notices s.world.history c) one.fresh two.fresh)
      ∙ (ap (λ (l : List Notice). l ++ two.fresh) one.made
      ∙ (append_assoc handed_one (notices m.world.history c) two.fresh ∙ (ap (λ (l : List Notice). handed_one ++ l) two.made ∙ sym (append_assoc handed_one handed_two (notices t.world.history c)))));
  numbers = made-then c s.world.history m.world.history t.world.history one.fresh two.fresh one.numbers two.numbers;
}

-- an entry was made
adds_entry : (c : ℕ) (s t : Talk Global) (e : Entry Global) → t.world ≡ grown s.world e → (waiting t c).outlet ≡ (waiting s c).outlet → c < length s.world.mailboxes → Adds c s [] [] t
adds_entry c s t e world outlet inside =
    let h = s.world.history in
    let box : mailbox t c ≡ mailbox s c ++ made.told h c e = ap (λ (w : World Global). (pending w c).notices) world ∙ delivered_there h e 0 c c s.world.mailboxes (omega arith) inside in
    record {
      fresh = made.told h c e;
      once =
          ap (λ (l : List Notice). l ++ mailbox t c) outlet ∙ (ap (λ (l : List Notice). (waiting s c).outlet ++ l) box ∙ sym (append_assoc (waiting s c).outlet (mailbox s c) (made.told h c e)));
      made = sym (notices-after h c e) ∙ ap (λ (w : World Global). notices w.history c) (sym world);
      numbers = made-entry c h t.world.history e (ap (λ (w : World Global). w.history) world);
    }

lists_kept : (c k : ℕ) (s t : Talk Global) (x : Waiting) → t.clients ≡ slice_set s.clients k x → x.outlet ≡ (waiting s k).outlet → (waiting t c).outlet ≡ (waiting s c).outlet
lists_kept c k s t x is same = ap (λ (l : List Waiting). (slice_index_or l c none_waiting).outlet) is ∙ outlet_kept s.clients k c x same

-- ---- one event

-- a notice goes to the outlet
adds_gave : (b : Bool) (c k : ℕ) (s t : Talk Global) (n : Notice) → (k == c) ≡ b → IsKnown s c → slice_get (mailbox s k) 0 ≡ Some n → t.clients ≡ slice_set s.clients k (with_notice (waiting s k) n) → t.world ≡ without_first s.world k → Adds c s [] [] t
adds_gave true c k s t n at known first clients world =
    let same : k ≡ c = eqb-true k c at in
    let is : slice_get (mailbox s c) 0 ≡ Some n = ap (λ (i : ℕ). slice_get (mailbox s i) 0) (sym same) ∙ first in
    let outlet : (waiting t c).outlet ≡ (waiting s c).outlet ++ n ∷ [] =
    ap (λ (l : List Waiting). (slice_index_or l c none_waiting).outlet) (clients ∙ ap (λ (i : ℕ). slice_set s.clients i (with_notice (waiting s i) n)) same)
    ∙ ap (λ (w : Waiting). w.outlet) (get_or-set_same s.clients c (with_notice (waiting s c) n) none_waiting known.0) in
    let box : mailbox t c ≡ drop 1 (mailbox s c) =
    ap (λ (w : World Global). (pending w c).notices) (world ∙ ap (λ (i : ℕ). without_first s.world i) same)
    ∙ ap (λ (p : Pending). p.notices) (get_or-set_same s.world.mailboxes c (record (pending s.world c) { notices = drop 1 (mailbox s c) }) no_pending known.1) in
    adds_none c s t
    (ap (λ (l : List Notice). l ++ mailbox t c) outlet
    ∙ (ap (λ (l : List Notice). ((waiting s c).outlet ++ n ∷ []) ++ l) box
    ∙ (append_assoc (waiting s c).outlet (n ∷ []) (drop 1 (mailbox s c)) ∙ ap (λ (l : List Notice). (waiting s c).outlet ++ l) (sym (first_is (mailbox s c) n is)))))
    (ap (λ (w : World Global). w.history) world)
adds_gave false c k s t n at known first clients world =
    let other : c ≢ k = λ e. let good : (k == c) ≡ true = eq-eqb k c (sym e) in cc in
    adds_none c s t
    (left_by c s t (ap (λ (l : List Waiting). (slice_index_or l c none_waiting).outlet) clients ∙ ap (λ (w : Waiting). w.outlet) (get_or-set_other s.clients k c (with_notice (waiting s k) n) none_waiting other))
    (ap (λ (w : World Global). (pending w c).notices) world
    ∙ ap (λ (p : Pending). p.notices) (get_or-set_other s.world.mailboxes k c (record (pending s.world k) { notices = drop 1 (mailbox s k) }) no_pending other)))
    (ap (λ (w : World Global). w.history) world)

-- a notice is told
adds_told : (b : Bool) (c k : ℕ) (s t : Talk Global) (n : Notice) → (k == c) ≡ b → IsKnown s c → slice_get (waiting s k).outlet 0 ≡ Some n → t.clients ≡ slice_set s.clients k (without_notice (waiting s k)) → t.world ≡ s.world
    → Adds c s (if b then n ∷ [] else []) [] t
adds_told true c k s t n at known first clients world =
    let same : k ≡ c = eqb-true k c at in
    let is : slice_get (waiting s c).outlet 0 ≡ Some n = ap (λ (i : ℕ). slice_get (waiting s i).outlet 0) (sym same) ∙ first in
    let outlet : (waiting t c).outlet ≡ drop 1 (waiting s c).outlet =
    ap (λ (l : List Waiting). (slice_index_or l c none_waiting).outlet) (clients ∙ ap (λ (i : ℕ). slice_set s.clients i (without_notice (waiting s i))) same)
    ∙ ap (λ (w : Waiting). w.outlet) (get_or-set_same s.clients c (without_notice (waiting s c)) none_waiting known.0) in
    let box : mailbox t c ≡ mailbox s c = ap (λ (w : World Global). (pending w c).notices) world in
    record {
      fresh = [];
      once =
          ap (λ (l : List Notice). n ∷ (l ++ mailbox t c)) outlet
          ∙ (ap (λ (l : List Notice). n ∷ (drop 1 (waiting s c).outlet ++ l)) box ∙ (ap (λ (l : List Notice). l ++ mailbox s c) (sym (first_is (waiting s c).outlet n is)) ∙ sym (append-nil (left_of s c))));
      made = append-nil (notices s.world.history c) ∙ ap (λ (w : World Global). notices w.history c) (sym world);
      numbers = made-none c s.world.history t.world.history (ap (λ (w : World Global). w.history) world);
    }
adds_told false c k s t n at known first clients world =
    let other : c ≢ k = λ e. let good : (k == c) ≡ true = eq-eqb k c (sym e) in cc in
    adds_none c s t
    (left_by c s t (ap (λ (l : List Waiting). (slice_index_or l c none_waiting).outlet) clients ∙ ap (λ (w : Waiting). w.outlet) (get_or-set_other s.clients k c (without_notice (waiting s k)) none_waiting other))
    (ap (λ (w : World Global). (pending w c).notices) world))
    (ap (λ (w : World Global). w.history) world)

step_adds : (whose : List Clients) (c : ℕ) (s t : Talk Global) (e : Event) (reply : Reply) → IsKnown s c → IsToldRight whose (did e reply) → TalkStep s e reply t → Adds c s [] [] t
step_adds whose c s t (Post k o) NoClient known right st = adds_same c s t st.1
step_adds whose c s t (Post k o) LaneFull known right st = adds_same c s t st.2
step_adds whose c s t (Post k o) (Posted n) known right st =
    adds_none c s t (left_by c s t (lists_kept c k s t (with_order (waiting s k) o) (ap (λ (x : Talk Global). x.clients) st.3) refl) (ap (λ (x : Talk Global). mailbox x c) st.3)) (ap (λ (x : Talk Global). x.world.history) st.3)
step_adds whose c s t (Take k) NoClient known right st = adds_same c s t st.1
step_adds whose c s t (Take k) LaneEmpty known right st = adds_same c s t st.2
step_adds whose c s t (Take k) (TakeRefused take_fault.MailboxFull) known right st = adds_same c s t st.3
step_adds whose c s t (Take k) (TakeRefused take_fault.ChapterFull) known right st = adds_same c s t st.4
step_adds whose c s t (Take k) (Took n v) known right (inside, room, entries, order, first, takes, number, same) =
    adds_entry c s t (entry.Take k order v) takes.world (lists_kept c k s t (without_order (waiting s k)) same refl) known.1
step_adds whose c s t Tick (TickRefused tick_fault.ClockSpent) known right st = adds_same c s t st.1
step_adds whose c s t Tick (TickRefused tick_fault.ChapterFull) known right st = adds_same c s t st.2
step_adds whose c s t Tick (Ticked report) known right (left, entries, ticks, same) =
    adds_entry c s t (entry.Tick ticks.to ticks.arrived ticks.farewells) ticks.world (ap (λ (l : List Waiting). (slice_index_or l c none_waiting).outlet) same) known.1
step_adds whose c s t (Shut r) (ShutRefused shut_fault.NoRobot) known right st = adds_same c s t st.1
step_adds whose c s t (Shut r) (ShutRefused shut_fault.Already) known right st = adds_same c s t st.2
step_adds whose c s t (Shut r) (ShutRefused shut_fault.ChapterFull) known right st = adds_same c s t st.3
step_adds whose c s t (Shut r) (ShutDone farewell) known right (entries, shuts, same) =
    adds_entry c s t (entry.Shut r farewell) shuts.world (ap (λ (l : List Waiting). (slice_index_or l c none_waiting).outlet) same) known.1
step_adds whose c s t (Give k) NoClient known right st = adds_same c s t st.1
step_adds whose c s t (Give k) NothingPending known right st = adds_same c s t st.2
step_adds whose c s t (Give k) OutletFull known right st = adds_same c s t st.3
step_adds whose c s t (Give k) (Gave seq) known right (inside, room, n, first, number, same) =
    adds_gave (k == c) c k s t n refl known first (ap (λ (x : Talk Global). x.clients) same) (ap (λ (x : Talk Global). x.world) same)
step_adds whose c s t (Collect k) NoClient known right st = adds_same c s t st.1
step_adds whose c s t (Collect k) NothingThere known right st = adds_same c s t st.2
step_adds whose c s t (Collect k) (Collected n) known right st = absurd right
step_adds whose c s t _ _ known right st = absurd st

-- ---- clients stay known

known_same : (c : ℕ) (s t : Talk Global) → length t.clients ≡ length s.clients → length t.world.mailboxes ≡ length s.world.mailboxes → IsKnown s c → IsKnown t c
known_same c s t clients boxes known = let inside = known.0 in let there = known.1 in (omega (arith, clients, inside), omega (arith, boxes, there))

known_entry : (c : ℕ) (s t : Talk Global) (e : Entry Global) → t.world ≡ grown s.world e → length t.clients ≡ length s.clients → IsKnown s c → IsKnown t c
known_entry c s t e world clients known = known_same c s t clients (ap (λ (w : World Global). length w.mailboxes) world ∙ length_delivered s.world.history e 0 s.world.mailboxes) known

known_at : (c : ℕ) (s t : Talk Global) → t ≡ s → IsKnown s c → IsKnown t c
known_at c s t same known = subst (λ (x : Talk Global). IsKnown x c) (sym same) known

step_known : (c : ℕ) (s t : Talk Global) (e : Event) (reply : Reply) → TalkStep s e reply t → IsKnown s c → IsKnown t c
step_known c s t (Post k o) NoClient st known = known_at c s t st.1 known
step_known c s t (Post k o) LaneFull st known = known_at c s t st.2 known
step_known c s t (Post k o) (Posted n) st known =
    known_same c s t (ap (λ (x : Talk Global). length x.clients) st.3 ∙ length-set s.clients k (with_order (waiting s k) o)) (ap (λ (x : Talk Global). length x.world.mailboxes) st.3) known
step_known c s t (Take k) NoClient st known = known_at c s t st.1 known
step_known c s t (Take k) LaneEmpty st known = known_at c s t st.2 known
step_known c s t (Take k) (TakeRefused take_fault.MailboxFull) st known = known_at c s t st.3 known
step_known c s t (Take k) (TakeRefused take_fault.ChapterFull) st known = known_at c s t st.4 known
step_known c s t (Take k) (Took n v) (inside, room, entries, order, first, takes, number, same) known = known_entry c s t (entry.Take k order v) takes.world (ap length same ∙ length-set s.clients k (without_order (waiting s k))) known
step_known c s t Tick (TickRefused tick_fault.ClockSpent) st known = known_at c s t st.1 known
step_known c s t Tick (TickRefused tick_fault.ChapterFull) st known = known_at c s t st.2 known
step_known c s t Tick (Ticked report) (left, entries, ticks, same) known = known_entry c s t (entry.Tick ticks.to ticks.arrived ticks.farewells) ticks.world (ap length same) known
step_known c s t (Shut r) (ShutRefused shut_fault.NoRobot) st known = known_at c s t st.1 known
step_known c s t (Shut r) (ShutRefused shut_fault.Already) st known = known_at c s t st.2 known
step_known c s t (Shut r) (ShutRefused shut_fault.ChapterFull) st known = known_at c s t st.3 known
step_known c s t (Shut r) (ShutDone farewell) (entries, shuts, same) known = known_entry c s t (entry.Shut r farewell) shuts.world (ap length same) known
step_known c s t (Give k) NoClient st known = known_at c s t st.1 known
step_known c s t (Give k) NothingPending st known = known_at c s t st.2 known
step_known c s t (Give k) OutletFull st known = known_at c s t st.3 known
step_known c s t (Give k) (Gave seq) (inside, room, n, first, number, same) known =
    known_same c s t (ap (λ (x : Talk Global). length x.clients) same ∙ length-set s.clients k (with_notice (waiting s k) n))
    (ap (λ (x : Talk Global). length x.world.mailboxes) same ∙ length-set s.world.mailboxes k (record (pending s.world k) { notices = drop 1 (mailbox s k) })) known
step_known c s t (Collect k) NoClient st known = known_at c s t st.1 known
step_known c s t (Collect k) NothingThere st known = known_at c s t st.2 known
step_known c s t (Collect k) (Collected n) (inside, first, same) known =
    known_same c s t (ap (λ (x : Talk Global). length x.clients) same ∙ length-set s.clients k (without_notice (waiting s k))) (ap (λ (x : Talk Global). length x.world.mailboxes) same) known
step_known c s t _ _ st known = absurd st

-- ---- a run

grew_adds : (c k extra : ℕ) (s m : Talk Global) → m ≡ record { world = widened s.world k extra; clients = s.clients } → Adds c s [] [] m
grew_adds c k extra s m same =
    adds_none c s m
    (left_by c s m (ap (λ (x : Talk Global). (waiting x c).outlet) same)
    (ap (λ (x : Talk Global). mailbox x c) same ∙ box_kept s.world.mailboxes k c (record (pending s.world k) { limit = (pending s.world k).limit + extra }) refl))
    (ap (λ (x : Talk Global). x.world.history) same)

grew_known : (c k extra : ℕ) (s m : Talk Global) → m ≡ record { world = widened s.world k extra; clients = s.clients } → IsKnown s c → IsKnown m c
grew_known c k extra s m same known =
    known_same c s m (ap (λ (x : Talk Global). length x.clients) same)
    (ap (λ (x : Talk Global). length x.world.mailboxes) same ∙ length-set s.world.mailboxes k (record (pending s.world k) { limit = (pending s.world k).limit + extra })) known

handed_adds : (c : ℕ) (x : ChapterView Global) (s m : Talk Global) → x ≡ chapter_in s.world → m ≡ record { world = next_world s.world; clients = s.clients } → Adds c s [] (notices x.history c) m
handed_adds c x s m is same = record {
  fresh = [];
  once = ap (λ (y : Talk Global). left_of y c) same ∙ sym (append-nil (left_of s c));
  made =
      append-nil (notices s.world.history c)
      ∙ (ap (λ (y : ChapterView Global). notices y.history c) (sym is) ∙ (sym (append-nil (notices x.history c)) ∙ ap (λ (y : Talk Global). notices x.history c ++ notices y.world.history c) (sym same)));
  numbers = made-next c s.world.history m.world.history (ap (λ (y : Talk Global). y.world.history) same);
}

pub runs-once : (whose : List Clients) (c : ℕ) (s : Talk Global) (acts : List Act) (t : Talk Global) → IsKnown s c → AllByRecursion (IsToldRight whose) acts → Runs s acts t → Adds c s (notices_told c acts) (notices_in c (chapters_of acts)) t
runs-once whose c s [] t known right same = adds_same c s t same
runs-once whose c s (did e reply ∷ acts) t known (right, rest) (m, step, runs) =
    adds_then c s m t [] (notices_told c acts) [] (notices_in c (chapters_of acts)) (step_adds whose c s m e reply known right step) (runs-once whose c m acts t (step_known c s m e reply step known) rest runs)
runs-once whose c s (full e ∷ acts) t known (right, rest) (m, (needs, same), runs) =
    adds_then c s m t [] (notices_told c acts) [] (notices_in c (chapters_of acts)) (adds_same c s m same) (runs-once whose c m acts t (known_at c s m same known) rest runs)
runs-once whose c s (handed x ∷ acts) t known (right, rest) (m, (is, sound, next), runs) =
    adds_then c s m t [] (notices_told c acts) (notices x.history c) (notices_in c (chapters_of acts)) (handed_adds c x s m is next)
    (runs-once whose c m acts t (known_same c s m (ap (λ (y : Talk Global). length y.clients) next) (ap (λ (y : Talk Global). length y.world.mailboxes) next) known) rest runs)
runs-once whose c s (told to k n ∷ acts) t known (right, rest) (m, (inside, first, same), runs) =
    adds_then c s m t (if k == c then n ∷ [] else []) (notices_told c acts) [] (notices_in c (chapters_of acts))
    (adds_told (k == c) c k s m n refl known first (ap (λ (x : Talk Global). x.clients) same) (ap (λ (x : Talk Global). x.world) same))
    (runs-once whose c m acts t (step_known c s m (Collect k) (Collected n) (inside, first, same) known) rest runs)
runs-once whose c s (said to text ∷ acts) t known (right, rest) (m, same, runs) =
    adds_then c s m t [] (notices_told c acts) [] (notices_in c (chapters_of acts)) (adds_same c s m same) (runs-once whose c m acts t (known_at c s m same known) rest runs)
runs-once whose c s (grew k extra ∷ acts) t known (right, rest) (m, same, runs) =
    adds_then c s m t [] (notices_told c acts) [] (notices_in c (chapters_of acts)) (grew_adds c k extra s m same) (runs-once whose c m acts t (grew_known c k extra s m same known) rest runs)

-- from the beginning of a chapter on
pub told-once : (whose : List Clients) (c : ℕ) (s : Talk Global) (acts : List Act) (t : Talk Global) → IsKnown s c → s.world.history.entries ≡ [] → AllByRecursion (IsToldRight whose) acts → Runs s acts t
    → notices_told c acts ++ left_of t c ≡ left_of s c ++ (notices_in c (chapters_of acts) ++ notices t.world.history c)
told-once whose c s acts t known none right runs =
    let adds = runs-once whose c s acts t known right runs in
    let begun : notices s.world.history c ≡ [] = ap (λ (es : List (Entry Global)). told_from (start s.world.history.opening) c es) none in
    let all : adds.fresh ≡ notices_in c (chapters_of acts) ++ notices t.world.history c = ap (λ (l : List Notice). l ++ adds.fresh) (sym begun) ∙ adds.made in
    adds.once ∙ ap (λ (l : List Notice). left_of s c ++ l) all
