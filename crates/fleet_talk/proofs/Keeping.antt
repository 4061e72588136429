-- Chapters that are handed out and kept.
use Rattle.std.proofs.Common.{◌≡◌, ◌∙◌, ℕ, List, [], ◌∷◌, ◌++◌, Option, Some, None, refl, sym, ap, subst, append_assoc, append-nil}
use Rattle.std.specs.Prelude.{Result, OnOk}
use Rattle.std.proofs.lemmas.Result.{on_ok_weaker}
use Rattle.fleet_bridge.specs.Roominess.{AreRoomyFor}
use Rattle.fleet_grid.specs.Floor.{Floor}
use Rattle.fleet_book.specs.declared.event.Event.{Event}
use Rattle.fleet_book.specs.declared.event.Event.TheVariants.{Post, Take, Tick, Give, Collect, Shut}
use Rattle.fleet_history.specs.History.{History}
use Rattle.fleet_history.specs.Legal.{IsLegal}
use Rattle.fleet_bound.specs.Roomy.{AdvancesIfRoomy}
use Rattle.fleet_core.specs.declared.faults.TakeFault.TheVariants as take_fault
use Rattle.fleet_core.specs.declared.faults.TickFault.TheVariants as tick_fault
use Rattle.fleet_core.specs.declared.faults.ShutFault.TheVariants as shut_fault
use Rattle.turns_law.specs.Turns.{Turns}
use Rattle.fleet_core.specs.Core.{World, ServesInTurns}
use Rattle.fleet_world.specs.declared.reply.Reply.{Reply}
use Rattle.fleet_world.specs.declared.reply.Reply.TheVariants.{Posted, LaneFull, Took, LaneEmpty, TakeRefused, Ticked, TickRefused, Gave, NothingPending, OutletFull, Collected, NothingThere, ShutDone, ShutRefused, NoClient}
use Rattle.fleet_world.specs.Talk.{Talk, TalkStep, next_talk}
use Rattle.fleet_talk.specs.Chapters.{ChapterView, chapter_in, IsSound, Beginning, beginning, next_beginning, AreTurned, Adds, KeepsAll, KeepsLast, KeepsTurned}

-- ---- lists that may be known

pub adds-none : {X : Type 0} (known : Option (List X)) → Adds known known []
adds-none None = tt
adds-none (Some xs) = sym (append-nil xs)

pub adds-then : {X : Type 0} (a b c : Option (List X)) (xs ys : List X) → Adds a b xs → Adds b c ys → Adds a c (xs ++ ys)
adds-then None b c xs ys p q = tt
adds-then (Some x) None c xs ys p q = absurd p
adds-then (Some x) (Some y) None xs ys p q = absurd q
adds-then (Some x) (Some y) (Some z) xs ys p q = q ∙ (ap (λ l. l ++ ys) p ∙ append_assoc x xs ys)

-- ---- chapters one after another

module _ {A : Type 0} where
  pub sound-is : (turns : Option Turns) (m : Floor) (h g : History A) → g ≡ h → IsLegal m h → (turns ≡ None → AdvancesIfRoomy m h) → ServesInTurns turns m h → IsSound turns m g
  sound-is turns m h g same legal advancing served = subst (IsSound turns m) (sym same) (record { legal = legal; advancing = advancing; served = served })

  turned-floor : (b e : Beginning A) (cs : List (ChapterView A)) → AreTurned b cs e → e.floor ≡ b.floor
  turned-floor b e [] same = ap (λ (x : Beginning A). x.floor) same
  turned-floor b e (c ∷ cs) (is, rest) = turned-floor (next_beginning b c.history) e cs rest

  -- the map stays, so what is known of its cells is known still
  pub known-still : (before after : Option (List (ChapterView A))) (s t : Talk A) (most : List ℕ) → KeepsTurned before after s t → AreRoomyFor s.world.floor most → AreRoomyFor t.world.floor most
  known-still before after s t most (chapters, turned, adds) known = subst (λ (m : Floor). AreRoomyFor m most) (sym (turned-floor (beginning s.world) (beginning t.world) chapters turned)) known

  pub turned-then : (b m e : Beginning A) (xs ys : List (ChapterView A)) → AreTurned b xs m → AreTurned m ys e → AreTurned b (xs ++ ys) e
  turned-then b m e [] ys same more = subst (λ (x : Beginning A). AreTurned x ys e) same more
  turned-then b m e (x ∷ xs) ys (is, rest) more = (is, turned-then (next_beginning b x.history) m e xs ys rest more)

  pub keeps-same : (known : Option (List (ChapterView A))) (s t : Talk A) → beginning t.world ≡ beginning s.world → KeepsTurned known known s t
  keeps-same known s t same = ([], same, adds-none known)

  pub keeps-then : (a b c : Option (List (ChapterView A))) (s m t : Talk A) → KeepsTurned a b s m → KeepsTurned b c m t → KeepsTurned a c s t
  keeps-then a b c s m t (xs, first, p) (ys, rest, q) = (xs ++ ys, turned-then (beginning s.world) (beginning m.world) (beginning t.world) xs ys first rest, adds-then a b c xs ys p q)

  -- the chapter was handed out and kept
  pub keeps-one : (a b : Option (List (ChapterView A))) (s t : Talk A) (n : ℕ) (h : History A) → n ≡ s.world.number → h ≡ s.world.history → IsSound s.world.turns s.world.floor s.world.history → t ≡ next_talk s
      → Adds a b (record { number = n; history = h } ∷ []) → KeepsTurned a b s t
  keeps-one a b s t n h number history sound next added = (
    chapter_in s.world ∷ [],
    (record { number = refl; opening = refl; sound = sound }, ap (λ (x : Talk A). beginning x.world) next),
    subst (λ (c : ChapterView A). Adds a b (c ∷ [])) (rw (number, history) refl) added,
  )

  pub keeps-all : (a b c : Option (List (ChapterView A))) (s t : Talk A) → KeepsTurned a b s t → KeepsLast b c t → KeepsAll a c s t
  keeps-all a b c s t (before, turned, p) (sound, q) = (
    before ++ chapter_in t.world ∷ [],
    record { before = before; turned = turned; sound = sound; all = refl },
    adds-then a b c before (chapter_in t.world ∷ []) p q,
  )

  -- the last chapter was kept
  pub keeps-last : {X E : Type 0} (r : Result X E) (a b : Option (List (ChapterView A))) (t : Talk A) (n : ℕ) (h : History A) → n ≡ t.world.number → h ≡ t.world.history
      → IsLegal t.world.floor t.world.history → (t.world.turns ≡ None → AdvancesIfRoomy t.world.floor t.world.history) → ServesInTurns t.world.turns t.world.floor t.world.history
      → OnOk r (Adds a b (record { number = n; history = h } ∷ [])) → OnOk r (KeepsLast a b t)
  keeps-last r a b t n h number history legal advancing served = on_ok_weaker r (λ added. (
    record { legal = legal; advancing = advancing; served = served },
    subst (λ (c : ChapterView A). Adds a b (c ∷ [])) (rw (number, history) refl) added,
  ))

  -- ---- events

  same_talk : (s t : Talk A) → t ≡ s → beginning t.world ≡ beginning s.world
  same_talk s t e = ap (λ (x : Talk A). beginning x.world) e

  -- no event begins another chapter
  pub step-beginning : (s t : Talk A) (e : Event) (reply : Reply) → TalkStep s e reply t → beginning t.world ≡ beginning s.world
  step-beginning s t (Post c o) NoClient st = same_talk s t st.1
  step-beginning s t (Post c o) LaneFull st = same_talk s t st.2
  step-beginning s t (Post c o) (Posted n) st = ap (λ (x : Talk A). beginning x.world) st.3
  step-beginning s t (Take c) NoClient st = same_talk s t st.1
  step-beginning s t (Take c) LaneEmpty st = same_talk s t st.2
  step-beginning s t (Take c) (TakeRefused take_fault.MailboxFull) st = same_talk s t st.3
  step-beginning s t (Take c) (TakeRefused take_fault.ChapterFull) st = same_talk s t st.4
  step-beginning s t (Take c) (Took n v) (inside, room, some, order, first, takes, number, rest) = ap (λ (w : World A). beginning w) takes.world
  step-beginning s t Tick (TickRefused tick_fault.ClockSpent) st = same_talk s t st.1
  step-beginning s t Tick (TickRefused tick_fault.ChapterFull) st = same_talk s t st.2
  step-beginning s t Tick (Ticked report) (early, room, ticks, rest) = ap (λ (w : World A). beginning w) ticks.world
  step-beginning s t (Shut r) (ShutRefused shut_fault.NoRobot) st = same_talk s t st.1
  step-beginning s t (Shut r) (ShutRefused shut_fault.Already) st = same_talk s t st.2
  step-beginning s t (Shut r) (ShutRefused shut_fault.ChapterFull) st = same_talk s t st.3
  step-beginning s t (Shut r) (ShutDone farewell) (room, shuts, rest) = ap (λ (w : World A). beginning w) shuts.world
  step-beginning s t (Give c) NoClient st = same_talk s t st.1
  step-beginning s t (Give c) NothingPending st = same_talk s t st.2
  step-beginning s t (Give c) OutletFull st = same_talk s t st.3
  step-beginning s t (Give c) (Gave seq) (inside, room, notice, first, number, same) = ap (λ (x : Talk A). beginning x.world) same
  step-beginning s t (Collect c) NoClient st = same_talk s t st.1
  step-beginning s t (Collect c) NothingThere st = same_talk s t st.2
  step-beginning s t (Collect c) (Collected notice) (inside, first, same) = ap (λ (x : Talk A). beginning x.world) same
  step-beginning s t _ _ st = absurd st
