-- A chapter that goes on has its first entries still, and so has its journal.
use Rattle.std.proofs.Common.{◌≡◌, ◌∙◌, ◌⊎◌, inl, inr, ℕ, zero, suc, ◌+◌, ◌≤◌, ◌==◌, Bool, true, false, true≢false, Option, Some, None, IfSome, List, [], ◌∷◌, ◌++◌, length, take, refl, sym, ap, subst, arith, append_assoc, append-nil}
use Rattle.std.specs.Prelude.{if◌then◌else◌}
use borrow.Author.Tests.{ne_eqb}
use Rattle.std.specs.declared.alloc.Global.{Global}
use Rattle.std.proofs.lemmas.List.{length-append, take-append-le}
use Rattle.fleet_book.specs.declared.event.Event.{Event}
use Rattle.fleet_book.specs.declared.event.Event.TheVariants.{Post, Take, Tick, Give, Collect, Shut}
use Rattle.fleet_history.specs.declared.history.Chapter.{Chapter}
use Rattle.fleet_history.specs.declared.history.Entry.{Entry}
use Rattle.fleet_history.specs.declared.history.Entry.TheVariants as entry
use Rattle.fleet_history.specs.declared.history.Opening.{Opening}
use Rattle.fleet_core.specs.declared.faults.TakeFault.TheVariants as take_fault
use Rattle.fleet_core.specs.declared.faults.TickFault.TheVariants as tick_fault
use Rattle.fleet_core.specs.declared.faults.ShutFault.TheVariants as shut_fault
use Rattle.fleet_core.specs.Core.{World, grown}
use Rattle.fleet_world.specs.declared.reply.Reply.{Reply}
use Rattle.fleet_world.specs.declared.reply.Reply.TheVariants.{Posted, LaneFull, Took, LaneEmpty, TakeRefused, Ticked, TickRefused, Gave, NothingPending, OutletFull, Collected, NothingThere, ShutDone, ShutRefused, NoClient}
use Rattle.fleet_world.specs.Talk.{Talk, TalkStep, next_talk}
use Rattle.fleet_talk.specs.declared.pen.Pen.{Pen}
use Rattle.fleet_talk.specs.Act.{Act, list, play, refuse, say, show, turn}
use Rattle.fleet_talk.specs.Acts.{Does, handed, rolls, spent, stays}
use Rattle.fleet_talk.specs.Backed.{GoesOnce, Holds, Stands}
use Rattle.fleet_talk.specs.Chapters.{AreTurned, Beginning, ChapterView, IsSound, beginning, chapter_in, chapter_shown}
use Rattle.fleet_talk.specs.Fleet.{Fleet}
use Rattle.fleet_talk.specs.Journal.{HasAll, IsAt, JournalView, Logs, count_in, with_first, with_whole}
use Rattle.fleet_talk.specs.Once.{Comes, GoesOn, Wants}
use Rattle.fleet_talk.proofs.Backing.{has-holds}

-- a chapter has more entries
pub record Grows (a b : ChapterView Global) : Type 0 where
  pub number : b.number ≡ a.number
  pub opening : b.history.opening ≡ a.history.opening
  pub more : List (Entry Global)
  pub entries : b.history.entries ≡ a.history.entries ++ more

pub grows-same : (a b : ChapterView Global) → b ≡ a → Grows a b
grows-same a b same = record {
  number = ap (λ (x : ChapterView Global). x.number) same;
  opening = ap (λ (x : ChapterView Global). x.history.opening) same;
  more = [];
  entries = ap (λ (x : ChapterView Global). x.history.entries) same ∙ sym (append-nil a.history.entries);
}

pub grows-then : (a b c : ChapterView Global) → Grows a b → Grows b c → Grows a c
grows-then a b c one two = record {
  number = two.number ∙ one.number;
  opening = two.opening ∙ one.opening;
  more = one.more ++ two.more;
  entries = two.entries ∙ (ap (λ (es : List (Entry Global)). es ++ two.more) one.entries ∙ append_assoc a.history.entries one.more two.more);
}

-- ---- steps

same_talk : (s t : Talk Global) → t ≡ s → Grows (chapter_in s.world) (chapter_in t.world)
same_talk s t e = grows-same (chapter_in s.world) (chapter_in t.world) (ap (λ (x : Talk Global). chapter_in x.world) e)

grown_by : (v w : World Global) (e : Entry Global) → w ≡ grown v e → Grows (chapter_in v) (chapter_in w)
grown_by v w e is = record {
  number = ap (λ (x : World Global). x.number) is;
  opening = ap (λ (x : World Global). x.history.opening) is;
  more = e ∷ [];
  entries = ap (λ (x : World Global). x.history.entries) is;
}

pub step-grows : (s t : Talk Global) (e : Event) (reply : Reply) → TalkStep s e reply t → Grows (chapter_in s.world) (chapter_in t.world)
step-grows s t (Post c o) NoClient st = same_talk s t st.1
step-grows s t (Post c o) LaneFull st = same_talk s t st.2
step-grows s t (Post c o) (Posted n) st = grows-same (chapter_in s.world) (chapter_in t.world) (ap (λ (x : Talk Global). chapter_in x.world) st.3)
step-grows s t (Take c) NoClient st = same_talk s t st.1
step-grows s t (Take c) LaneEmpty st = same_talk s t st.2
step-grows s t (Take c) (TakeRefused take_fault.MailboxFull) st = same_talk s t st.3
step-grows s t (Take c) (TakeRefused take_fault.ChapterFull) st = same_talk s t st.4
step-grows s t (Take c) (Took n v) (inside, room, some, order, first, takes, number, rest) = grown_by s.world t.world (entry.Take c order v) takes.world
step-grows s t Tick (TickRefused tick_fault.ClockSpent) st = same_talk s t st.1
step-grows s t Tick (TickRefused tick_fault.ChapterFull) st = same_talk s t st.2
step-grows s t Tick (Ticked report) (early, room, ticks, rest) = grown_by s.world t.world (entry.Tick ticks.to ticks.arrived ticks.farewells) ticks.world
step-grows s t (Shut r) (ShutRefused shut_fault.NoRobot) st = same_talk s t st.1
step-grows s t (Shut r) (ShutRefused shut_fault.Already) st = same_talk s t st.2
step-grows s t (Shut r) (ShutRefused shut_fault.ChapterFull) st = same_talk s t st.3
step-grows s t (Shut r) (ShutDone farewell) (room, shuts, rest) = grown_by s.world t.world (entry.Shut r farewell) shuts.world
step-grows s t (Give c) NoClient st = same_talk s t st.1
step-grows s t (Give c) NothingPending st = same_talk s t st.2
step-grows s t (Give c) OutletFull st = same_talk s t st.3
step-grows s t (Give c) (Gave seq) (inside, room, notice, first, number, same) = grows-same (chapter_in s.world) (chapter_in t.world) (ap (λ (x : Talk Global). chapter_in x.world) same)
step-grows s t (Collect c) NoClient st = same_talk s t st.1
step-grows s t (Collect c) NothingThere st = same_talk s t st.2
step-grows s t (Collect c) (Collected notice) (inside, first, same) = grows-same (chapter_in s.world) (chapter_in t.world) (ap (λ (x : Talk Global). chapter_in x.world) same)
step-grows s t _ _ st = absurd st

-- its first entries stay the same
same_first : (before : List (ChapterView Global)) (a b : ChapterView Global) (n : ℕ) → Grows a b → n ≤ length a.history.entries → with_first before b n ≡ with_first before a n
same_first before a b zero grows few = refl
same_first before a b (suc n) grows few =
    let first : take (suc n) b.history.entries ≡ take (suc n) a.history.entries = ap (take (suc n)) grows.entries ∙ take-append-le (suc n) a.history.entries grows.more few in
    let part : ℕ → Opening Global → List (Entry Global) → ChapterView Global = λ (k : ℕ) (o : Opening Global) (es : List (Entry Global)). record { number = k; history = record { opening = o; entries = es } } in
    ap (λ (c : ChapterView Global). before ++ c ∷ []) (ap (λ (k : ℕ). part k b.history.opening (take (suc n) b.history.entries)) grows.number
    ∙ (ap (λ (o : Opening Global). part a.number o (take (suc n) b.history.entries)) grows.opening ∙ ap (λ (es : List (Entry Global)). part a.number a.history.opening es) first))

module _ (j : JournalView) (before : List (ChapterView Global)) where
  at_on : (a b : ChapterView Global) → Grows a b → (logged : Option (List (ChapterView Global))) → IfSome logged (λ l. (count_in j a.number ≤ length a.history.entries) × (l ≡ with_first before a (count_in j a.number)))
      → IfSome logged (λ l. (count_in j b.number ≤ length b.history.entries) × (l ≡ with_first before b (count_in j b.number)))
  at_on a b grows None at = tt
  at_on a b grows (Some l) (few, is) =
      let same : count_in j b.number ≡ count_in j a.number = ap (count_in j) grows.number in
      let long : length b.history.entries ≡ length a.history.entries + length grows.more = ap length grows.entries ∙ length-append a.history.entries grows.more in (
        omega (arith, same, few, long),
        is ∙ (sym (same_first before a b (count_in j a.number) grows few) ∙ ap (λ n. with_first before b n) (sym same)),
      )

  -- a journal goes on where the chapter does
  pub stands-on : (a b : ChapterView Global) → Grows a b → Stands j before a → Stands j before b
  stands-on a b grows (inl failed) = inl failed
  stands-on a b grows (inr at) = inr (at_on a b grows j.logged at)

  count_other : (n : ℕ) → n ≡ j.number + 1 → count_in j n ≡ 0
  count_other n next = ap (λ (b : Bool). if b then j.entries else 0) (ne_eqb n j.number (λ e. omega (arith, e, next)))

  next_in : (c d : ChapterView Global) → d.number ≡ c.number + 1 → (logged : Option (List (ChapterView Global))) → IfSome logged (λ l. (j.number ≡ c.number) × (j.entries ≡ length c.history.entries) × (l ≡ with_whole before c))
      → IfSome logged (λ l. (count_in j d.number ≤ length d.history.entries) × (l ≡ with_first (with_whole before c) d (count_in j d.number)))
  next_in c d next None has = tt
  next_in c d next (Some l) (same, count, is) =
      let none : count_in j d.number ≡ 0 = count_other d.number (next ∙ ap (λ n. n + 1) (sym same)) in
      (subst (λ n. n ≤ length d.history.entries) (sym none) (omega arith), is ∙ ap (λ n. with_first (with_whole before c) d n) (sym none))

  -- one that has all entries of a chapter has none of the next
  pub stands-next : (c d : ChapterView Global) → d.number ≡ c.number + 1 → HasAll j before c → Stands j (with_whole before c) d
  stands-next c d next has = inr (next_in c d next j.logged has)

-- ---- one act

more_than : (n m : ℕ) → n ≡ m → n ≡ m + 1 → ⊥
more_than n m same more = omega (arith, same, more)

same_fleet : (s t : Fleet Global) → t ≡ s → Grows (chapter_in s.talk.world) (chapter_in t.talk.world)
same_fleet s t e = grows-same (chapter_in s.talk.world) (chapter_in t.talk.world) (ap (λ (x : Fleet Global). chapter_in x.talk.world) e)

-- no chapter was handed out, so it goes on
pub does-grows : (roll : Option ℕ) (s t : Fleet Global) (act : Act) (text : List ℕ) → Does roll s act text t → beginning t.talk.world ≡ beginning s.talk.world → Grows (chapter_in s.talk.world) (chapter_in t.talk.world)
does-grows roll s t (say mark line) text (is, same) begins = same_fleet s t same
does-grows roll s t (play mark e) text (mid, before, after, stays due same none, plays, is) begins =
    grows-then (chapter_in s.talk.world) (chapter_in mid.world) (chapter_in t.talk.world) (same_talk s.talk mid same) (step-grows mid t.talk e plays.reply plays.step)
does-grows roll s t (play mark e) text (mid, before, after, rolls due next said, plays, is) begins =
    absurd (more_than t.talk.world.number s.talk.world.number (ap (λ (b : Beginning Global). b.number) begins) ((step-grows mid t.talk e plays.reply plays.step).number ∙ ap (λ (x : Talk Global). x.world.number) next))
does-grows roll s t (turn mark) text (handed next said, met) begins = absurd (more_than t.talk.world.number s.talk.world.number (ap (λ (b : Beginning Global). b.number) begins) (ap (λ (x : Talk Global). x.world.number) next))
does-grows roll s t (turn mark) text (spent last same said, met) begins = same_talk s.talk t.talk same
does-grows roll s t (show mark) text (line, look, is, same) begins = same_fleet s t same
does-grows roll s t (list mark client) text (is, same) begins = same_fleet s t same
does-grows roll s t (refuse mark client) text (is, same) begins = same_fleet s t same

on_grows : (roll : Option ℕ) (s m t : Fleet Global) (act : Act) (c : ChapterView Global) (text : List ℕ) → Wants roll s act → GoesOn m act c text t → Grows (chapter_in m.talk.world) (chapter_in t.talk.world)
on_grows roll s m t (turn mark) c text wants (is, same) = same_fleet m t same
on_grows roll s m t (play mark e) c text wants (after, plays, is) = step-grows m.talk t.talk e plays.reply plays.step
on_grows roll s m t (say mark line) c text wants on = absurd wants
on_grows roll s m t (show mark) c text wants on = absurd wants
on_grows roll s m t (list mark client) c text wants on = absurd wants
on_grows roll s m t (refuse mark client) c text wants on = absurd wants

-- an act was done, and no chapter was handed out
pub once-same : (roll : Option ℕ) (s t : Fleet Global) (act : Act) (old new : Pen) (chapters : List (ChapterView Global)) (j : JournalView) → Comes roll s act None old new t → Stands j chapters (chapter_in s.talk.world) → GoesOnce s t chapters j j
once-same roll s t act old new chapters j (text, does, added, begins) stands = record {
  handed_out = [];
  turned = begins;
  stands = stands-on j chapters (chapter_in s.talk.world) (chapter_in t.talk.world) (does-grows roll s t act text does begins) stands;
  logged = inl refl;
}

-- one was, and it was brought down to the journal
pub once-handed : (roll : Option ℕ) (s m t : Fleet Global) (act : Act) (found : Option (Chapter Global)) (chapter : Chapter Global) (old mid : Pen) (text : List ℕ) (chapters : List (ChapterView Global)) (j k : JournalView) (logged : Bool)
    → Comes roll s act found old mid m → found ≡ Some chapter → Logs j k (chapter_shown chapter) logged → GoesOn m act (chapter_shown chapter) text t → beginning t.talk.world ≡ beginning m.talk.world
    → Stands j chapters (chapter_in s.talk.world) → GoesOnce s t chapters j k
once-handed roll s m t act found chapter old mid text chapters j k logged comes is logs on same stands =
    let (wants, (shown, sound, next), met, kept) = subst (λ (o : Option (Chapter Global)). Comes roll s act o old mid m) is comes in
    by wants sound next (subst (λ (c : ChapterView Global). Logs j k c logged) shown logs)
  where
    c : ChapterView Global
    c = chapter_in s.talk.world

    d : ChapterView Global
    d = chapter_in m.talk.world

    stands_then : (b : Bool) → d.number ≡ c.number + 1 → Logs j k c b → Stands k (with_whole chapters c) d
    stands_then true next (well, still, all) = stands_all stands all
      where
        stands_all : Stands j chapters c → ((before : List (ChapterView Global)) → IsAt j before c → HasAll k before c) → Stands k (with_whole chapters c) d
        stands_all (inl failed) all = absurd (true≢false (sym failed ∙ well))
        stands_all (inr at) all = stands-next k chapters c d next (all chapters at)
    stands_then false next (failed, still) = inl failed

    logged_then : (b : Bool) → Logs j k c b → (k.logged ≡ j.logged) ⊎ Holds k chapters c
    logged_then true (well, still, all) = holds_all stands all
      where
        holds_all : Stands j chapters c → ((before : List (ChapterView Global)) → IsAt j before c → HasAll k before c) → (k.logged ≡ j.logged) ⊎ Holds k chapters c
        holds_all (inl failed) all = absurd (true≢false (sym failed ∙ well))
        holds_all (inr at) all = inr (has-holds k chapters c (all chapters at))
    logged_then false (failed, still) = inl still

    by : Wants roll s act → IsSound s.talk.world.turns s.talk.world.floor s.talk.world.history → m.talk ≡ next_talk s.talk → Logs j k c logged → GoesOnce s t chapters j k
    by wants sound next logs = record {
      handed_out = c ∷ [];
      turned = (record { number = refl; opening = refl; sound = sound }, same ∙ ap (λ (x : Talk Global). beginning x.world) next);
      stands = stands-on k (with_whole chapters c) d (chapter_in t.talk.world) (on_grows roll s m t act (chapter_shown chapter) text wants on) (stands_then logged (ap (λ (x : Talk Global). x.world.number) next) logs);
      logged = logged_then logged logs;
    }
