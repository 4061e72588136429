-- A chapter that goes on, and the chapters that wait before it.
use Rattle.std.proofs.Common.{◌≡◌, ◌∙◌, ℕ, zero, suc, ◌+◌, ◌≤◌, Option, Some, None, List, [], ◌∷◌, ◌++◌, length, take, refl, sym, ap, subst, arith, append_assoc, append-nil}
use Rattle.std.specs.declared.alloc.Global.{Global}
use Rattle.std.proofs.lemmas.List.{length-append, take-append-le}
use Rattle.fleet_book.specs.declared.event.Event.{Event}
use Rattle.fleet_book.specs.declared.event.Event.TheVariants.{Post, Take, Tick, Give, Collect, Shut}
use Rattle.fleet_history.specs.declared.history.Entry.{Entry}
use Rattle.fleet_history.specs.declared.history.Entry.TheVariants as entry
use Rattle.fleet_history.specs.declared.history.Opening.{Opening}
use Rattle.fleet_core.specs.declared.faults.TakeFault.TheVariants as take_fault
use Rattle.fleet_core.specs.declared.faults.TickFault.TheVariants as tick_fault
use Rattle.fleet_core.specs.declared.faults.ShutFault.TheVariants as shut_fault
use Rattle.fleet_core.specs.Core.{World, grown}
use Rattle.fleet_world.specs.declared.reply.Reply.{Reply}
use Rattle.fleet_world.specs.declared.reply.Reply.TheVariants.{Posted, LaneFull, Took, LaneEmpty, TakeRefused, Ticked, TickRefused, Gave, NothingPending, OutletFull, Collected, NothingThere, ShutDone, ShutRefused, NoClient}
use Rattle.fleet_world.specs.Talk.{Talk, TalkStep}
use Rattle.fleet_talk.specs.Chapters.{ChapterView, chapter_in}
use Rattle.live_fleet.specs.Act.{Act, Runs, did, full, grew, handed, said, told}
use Rattle.live_fleet.specs.Out.{chapters_of}
use Rattle.fleet_talk.specs.Journal.{with_first}
use Rattle.fleet_live.specs.Logged.{AreNumbered, IsAt, IsReady, LogView, count_at, first_of}

-- a chapter has more entries
pub record Grows (a b : ChapterView Global) : Type 0 where
  pub number : b.number ≡ a.number
  pub opening : b.history.opening ≡ a.history.opening
  pub more : List (Entry Global)
  pub entries : b.history.entries ≡ a.history.entries ++ more

grows_same : (a b : ChapterView Global) → b ≡ a → Grows a b
grows_same a b same = record {
  number = ap (λ (x : ChapterView Global). x.number) same;
  opening = ap (λ (x : ChapterView Global). x.history.opening) same;
  more = [];
  entries = ap (λ (x : ChapterView Global). x.history.entries) same ∙ sym (append-nil a.history.entries);
}

grows_then : (a b c : ChapterView Global) → Grows a b → Grows b c → Grows a c
grows_then a b c one two = record {
  number = two.number ∙ one.number;
  opening = two.opening ∙ one.opening;
  more = one.more ++ two.more;
  entries = two.entries ∙ (ap (λ (es : List (Entry Global)). es ++ two.more) one.entries ∙ append_assoc a.history.entries one.more two.more);
}

-- ---- steps

same_talk : (s t : Talk Global) → t ≡ s → Grows (chapter_in s.world) (chapter_in t.world)
same_talk s t e = grows_same (chapter_in s.world) (chapter_in t.world) (ap (λ (x : Talk Global). chapter_in x.world) e)

grown_by : (v w : World Global) (e : Entry Global) → w ≡ grown v e → Grows (chapter_in v) (chapter_in w)
grown_by v w e is = record {
  number = ap (λ (x : World Global). x.number) is;
  opening = ap (λ (x : World Global). x.history.opening) is;
  more = e ∷ [];
  entries = ap (λ (x : World Global). x.history.entries) is;
}

step_grows : (s t : Talk Global) (e : Event) (reply : Reply) → TalkStep s e reply t → Grows (chapter_in s.world) (chapter_in t.world)
step_grows s t (Post c o) NoClient st = same_talk s t st.1
step_grows s t (Post c o) LaneFull st = same_talk s t st.2
step_grows s t (Post c o) (Posted n) st = grows_same (chapter_in s.world) (chapter_in t.world) (ap (λ (x : Talk Global). chapter_in x.world) st.3)
step_grows s t (Take c) NoClient st = same_talk s t st.1
step_grows s t (Take c) LaneEmpty st = same_talk s t st.2
step_grows s t (Take c) (TakeRefused take_fault.MailboxFull) st = same_talk s t st.3
step_grows s t (Take c) (TakeRefused take_fault.ChapterFull) st = same_talk s t st.4
step_grows s t (Take c) (Took n v) (inside, room, some, order, first, takes, number, rest) = grown_by s.world t.world (entry.Take c order v) takes.world
step_grows s t Tick (TickRefused tick_fault.ClockSpent) st = same_talk s t st.1
step_grows s t Tick (TickRefused tick_fault.ChapterFull) st = same_talk s t st.2
step_grows s t Tick (Ticked report) (early, room, ticks, rest) = grown_by s.world t.world (entry.Tick ticks.to ticks.arrived ticks.farewells) ticks.world
step_grows s t (Shut r) (ShutRefused shut_fault.NoRobot) st = same_talk s t st.1
step_grows s t (Shut r) (ShutRefused shut_fault.Already) st = same_talk s t st.2
step_grows s t (Shut r) (ShutRefused shut_fault.ChapterFull) st = same_talk s t st.3
step_grows s t (Shut r) (ShutDone farewell) (room, shuts, rest) = grown_by s.world t.world (entry.Shut r farewell) shuts.world
step_grows s t (Give c) NoClient st = same_talk s t st.1
step_grows s t (Give c) NothingPending st = same_talk s t st.2
step_grows s t (Give c) OutletFull st = same_talk s t st.3
step_grows s t (Give c) (Gave seq) (inside, room, notice, first, number, same) = grows_same (chapter_in s.world) (chapter_in t.world) (ap (λ (x : Talk Global). chapter_in x.world) same)
step_grows s t (Collect c) NoClient st = same_talk s t st.1
step_grows s t (Collect c) NothingThere st = same_talk s t st.2
step_grows s t (Collect c) (Collected notice) (inside, first, same) = grows_same (chapter_in s.world) (chapter_in t.world) (ap (λ (x : Talk Global). chapter_in x.world) same)
step_grows s t _ _ st = absurd st

-- ---- runs

-- the chapters that are handed out, and then the one that goes on: the first of them is the chapter before, with more entries
pub record GoesOn (a : ChapterView Global) (xs : List (ChapterView Global)) (b : ChapterView Global) : Type 0 where
  pub numbered : AreNumbered xs b
  pub grows : Grows a (first_of xs b)

after_step : (s m t : Talk Global) (xs : List (ChapterView Global)) → Grows (chapter_in s.world) (chapter_in m.world) → GoesOn (chapter_in m.world) xs (chapter_in t.world) → GoesOn (chapter_in s.world) xs (chapter_in t.world)
after_step s m t xs step on = record {
  numbered = on.numbered;
  grows = grows_then (chapter_in s.world) (chapter_in m.world) (first_of xs (chapter_in t.world)) step on.grows;
}

pub runs-on : (s : Talk Global) (acts : List Act) (t : Talk Global) → Runs s acts t → GoesOn (chapter_in s.world) (chapters_of acts) (chapter_in t.world)
runs-on s [] t same = record { numbered = tt; grows = same_talk s t same }
runs-on s (did e reply ∷ acts) t (m, step, runs) = after_step s m t (chapters_of acts) (step_grows s m e reply step) (runs-on m acts t runs)
runs-on s (full e ∷ acts) t (m, (needs, same), runs) = after_step s m t (chapters_of acts) (same_talk s m same) (runs-on m acts t runs)
runs-on s (handed c ∷ acts) t (m, (is, sound, next), runs) =
    let on = runs-on m acts t runs in
    record {
      numbered = (on.grows.number ∙ (ap (λ (x : Talk Global). x.world.number) next ∙ ap (λ (x : ChapterView Global). x.number + 1) (sym is)), on.numbered);
      grows = grows_same (chapter_in s.world) c is;
    }
runs-on s (told to client notice ∷ acts) t (m, step, runs) = after_step s m t (chapters_of acts) (step_grows s m (Collect client) (Collected notice) step) (runs-on m acts t runs)
runs-on s (said to text ∷ acts) t (m, same, runs) = after_step s m t (chapters_of acts) (same_talk s m same) (runs-on m acts t runs)
runs-on s (grew client extra ∷ acts) t (m, same, runs) = after_step s m t (chapters_of acts) (grows_same (chapter_in s.world) (chapter_in m.world) (ap (λ (x : Talk Global). chapter_in x.world) same)) (runs-on m acts t runs)

-- ---- the journal of a chapter that goes on

first_number : (xs ys : List (ChapterView Global)) (a b : ChapterView Global) → GoesOn a ys b → (first_of (xs ++ ys) b).number ≡ (first_of xs a).number
first_number [] ys a b on = on.grows.number
first_number (x ∷ xs) ys a b on = refl

numbered_on : (xs ys : List (ChapterView Global)) (a b : ChapterView Global) → AreNumbered xs a → GoesOn a ys b → AreNumbered (xs ++ ys) b
numbered_on [] ys a b numbered on = on.numbered
numbered_on (x ∷ xs) ys a b (next, numbered) on = (first_number xs ys a b on ∙ next, numbered_on xs ys a b numbered on)

-- its first entries stay the same
same_first : (before : List (ChapterView Global)) (a b : ChapterView Global) (n : ℕ) → Grows a b → n ≤ length a.history.entries → with_first before b n ≡ with_first before a n
same_first before a b zero grows few = refl
same_first before a b (suc n) grows few =
    let first : take (suc n) b.history.entries ≡ take (suc n) a.history.entries = ap (take (suc n)) grows.entries ∙ take-append-le (suc n) a.history.entries grows.more few in
    let part : ℕ → Opening Global → List (Entry Global) → ChapterView Global = λ (k : ℕ) (o : Opening Global) (es : List (Entry Global)). record { number = k; history = record { opening = o; entries = es } } in
    ap (λ (c : ChapterView Global). before ++ c ∷ []) (ap (λ (k : ℕ). part k b.history.opening (take (suc n) b.history.entries)) grows.number
    ∙ (ap (λ (o : Opening Global). part a.number o (take (suc n) b.history.entries)) grows.opening ∙ ap (λ (es : List (Entry Global)). part a.number a.history.opening es) first))

at_on : (logged : Option (List (ChapterView Global))) (number entries : ℕ) (before : List (ChapterView Global)) (a b : ChapterView Global) → Grows a b
    → IsAt (record { logged = logged; number = number; entries = entries }) before a → IsAt (record { logged = logged; number = number; entries = entries }) before b
at_on None number entries before a b grows at = tt
at_on (Some logged) number entries before a b grows (few, is) =
    let v : LogView = record { logged = Some logged; number = number; entries = entries } in
    let same : count_at v b.number ≡ count_at v a.number = ap (count_at v) grows.number in
    let long : length b.history.entries ≡ length a.history.entries + length grows.more = ap length grows.entries ∙ length-append a.history.entries grows.more in (
      omega (arith, same, few, long),
      is ∙ (sym (same_first before a b (count_at v a.number) grows few) ∙ ap (λ n. with_first before b n) (sym same)),
    )

-- the first of the chapters that wait, or the one that goes on
at_first : (v : LogView) (before xs ys : List (ChapterView Global)) (a b : ChapterView Global) → GoesOn a ys b → IsAt v before (first_of xs a) → IsAt v before (first_of (xs ++ ys) b)
at_first v before [] ys a b on at = at_on v.logged v.number v.entries before a (first_of ys b) on.grows at
at_first v before (x ∷ xs) ys a b on at = at

-- it is ready still where chapters were handed out and the last one goes on
pub ready-on : (v : LogView) (before xs ys : List (ChapterView Global)) (a b : ChapterView Global) → GoesOn a ys b → IsReady v before xs a → IsReady v before (xs ++ ys) b
ready-on v before xs ys a b on ready = record { numbered = numbered_on xs ys a b ready.numbered on; at = at_first v before xs ys a b on ready.at }
