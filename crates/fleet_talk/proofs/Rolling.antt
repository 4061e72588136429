-- When a chapter is handed out unasked.
use Rattle.std.proofs.Common.{◌≡◌, ◌∙◌, ℕ, ◌+◌, Bool, true, false, ◌||◌, List, [], length, Option, Some, None, inl, inr, refl, sym, ap, subst, arith}
use Rattle.std.specs.Prelude.{MatchOption}
use Rattle.fleet_book.specs.declared.event.Event.{Event}
use Rattle.fleet_book.specs.declared.event.Event.TheVariants.{Post, Take, Tick, Give, Collect, Shut}
use Rattle.fleet_core.specs.declared.faults.TakeFault.TheVariants as take_fault
use Rattle.fleet_core.specs.declared.faults.TickFault.TheVariants as tick_fault
use Rattle.fleet_core.specs.declared.faults.ShutFault.TheVariants as shut_fault
use Rattle.fleet_world.specs.declared.reply.Reply.{Reply}
use Rattle.fleet_world.specs.declared.reply.Reply.TheVariants.{Posted, LaneFull, Took, LaneEmpty, TakeRefused, Ticked, TickRefused, Gave, NothingPending, OutletFull, Collected, NothingThere, ShutDone, ShutRefused, NoClient}
use Rattle.fleet_world.specs.Talk.{Talk, TalkStep}
use Rattle.fleet_text.specs.Output.{event_text, is_limit_met}
use Rattle.fleet_talk.specs.declared.pen.Pen.{Pen}
use Rattle.fleet_talk.specs.Act.{play}
use Rattle.fleet_talk.specs.Acts.{Does, IsDue, NeedsRoom, last_entry, stays, wants_room}
use Rattle.fleet_talk.specs.Long.{IsLong}
use Rattle.fleet_talk.specs.Fleet.{Fleet}
use Rattle.fleet_talk.specs.Said.{IsAdded}
use Rattle.fleet_talk.specs.Says.{marked}

is_false : {P : Type 0} → false ≡ true → P
is_false bad = cc

is_true : {P : Type 0} → true ≡ false → P
is_true bad = cc

module _ {A : Type 0} where
  -- an event that was answered otherwise does not need the room
  not_full : (most : ℕ) (s t : Talk A) (e : Event) (reply : Reply) → TalkStep s e reply t → wants_room (Some most) reply ≡ false → NeedsRoom s e → ⊥
  not_full most s t (Take c) NoClient st other needs = omega (arith, st.0, needs.0)
  not_full most s t (Take c) LaneEmpty st other needs = let none = ap length st.1 in omega (arith, none, needs.1)
  not_full most s t (Take c) (TakeRefused take_fault.MailboxFull) st other needs = omega (arith, st.2, needs.2)
  not_full most s t (Take c) (TakeRefused take_fault.ChapterFull) st other needs = is_true other
  not_full most s t (Take c) (Took order_no v) st other needs = omega (arith, st.2, needs.3)
  not_full most s t Tick (TickRefused tick_fault.ClockSpent) st other needs = omega (arith, st.0, needs.0)
  not_full most s t Tick (TickRefused tick_fault.ChapterFull) st other needs = is_true other
  not_full most s t Tick (Ticked report) st other needs = omega (arith, st.1, needs.1)
  not_full most s t (Shut r) (ShutRefused shut_fault.NoRobot) st other needs = omega (arith, st.0, needs.0)
  not_full most s t (Shut r) (ShutRefused shut_fault.Already) st other needs = is_true (sym st.1 ∙ needs.1)
  not_full most s t (Shut r) (ShutRefused shut_fault.ChapterFull) st other needs = is_true other
  not_full most s t (Shut r) (ShutDone farewell) st other needs = omega (arith, st.0, needs.2)
  not_full most s t (Post c o) _ st other needs = needs
  not_full most s t (Give c) _ st other needs = needs
  not_full most s t (Collect c) _ st other needs = needs
  not_full most s t _ _ st other needs = absurd st

  -- the chapter's text is not too long, or the chapter is the last
  abbrev pub IsShort : Option ℕ → Talk A → Event → Type 0
  IsShort roll s e = (r : ℕ) → roll ≡ Some r → IsLong r s e → s.world.number + 1 ≡ s.world.limits.chapters

  -- no chapter is due before an event that was answered otherwise, unless it is too long
  not_due : (roll : Option ℕ) (s t : Talk A) (e : Event) (reply : Reply) → TalkStep s e reply t → wants_room roll reply ≡ false → IsShort roll s e → IsDue roll s e → s.world.number + 1 ≡ s.world.limits.chapters
  not_due (Some r) s t e reply st other short (inl needs) = absurd (not_full r s t e reply st other needs)
  not_due (Some r) s t e reply st other short (inr long) = short r refl long
  not_due None s t e reply st other short due = absurd due

  pub long-due : (roll : Option ℕ) (s : Talk A) (e : Event) → MatchOption roll ⊥ (λ r. IsLong r s e) → IsDue roll s e
  long-due (Some r) s e long = inr long
  long-due None s e long = absurd long

  -- an event that was refused so needs the room, and changed nothing
  full : (most : ℕ) (s t : Talk A) (e : Event) (reply : Reply) → TalkStep s e reply t → wants_room (Some most) reply ≡ true → NeedsRoom s e × (t ≡ s)
  full most s t (Take c) (TakeRefused take_fault.ChapterFull) st is = ((st.0, st.1, st.2, st.3, refl), st.4)
  full most s t Tick (TickRefused tick_fault.ChapterFull) st is = ((st.0, st.1, refl), st.2)
  full most s t (Shut r) (ShutRefused shut_fault.ChapterFull) st is = ((st.0, st.1, st.2, refl), st.3)
  full most s t (Post c o) NoClient st is = is_false is
  full most s t (Post c o) LaneFull st is = is_false is
  full most s t (Post c o) (Posted n) st is = is_false is
  full most s t (Take c) NoClient st is = is_false is
  full most s t (Take c) LaneEmpty st is = is_false is
  full most s t (Take c) (TakeRefused take_fault.MailboxFull) st is = is_false is
  full most s t (Take c) (Took order_no v) st is = is_false is
  full most s t Tick (TickRefused tick_fault.ClockSpent) st is = is_false is
  full most s t Tick (Ticked report) st is = is_false is
  full most s t (Shut r) (ShutRefused shut_fault.NoRobot) st is = is_false is
  full most s t (Shut r) (ShutRefused shut_fault.Already) st is = is_false is
  full most s t (Shut r) (ShutDone farewell) st is = is_false is
  full most s t (Give c) NoClient st is = is_false is
  full most s t (Give c) NothingPending st is = is_false is
  full most s t (Give c) OutletFull st is = is_false is
  full most s t (Give c) (Gave seq) st is = is_false is
  full most s t (Collect c) NoClient st is = is_false is
  full most s t (Collect c) NothingThere st is = is_false is
  full most s t (Collect c) (Collected notice) st is = is_false is
  full most s t _ _ st is = absurd st

  pub needed : (roll : Option ℕ) (s t : Talk A) (e : Event) (reply : Reply) → TalkStep s e reply t → wants_room roll reply ≡ true → IsDue roll s e × (t ≡ s)
  needed (Some r) s t e reply st is = let found = full r s t e reply st is in (inl found.0, found.1)
  needed None s t e reply st is = is_false is

  -- the event was done in the chapter as it was
  pub plays-here : (roll : Option ℕ) (s t : Fleet A) (mark : Option (List ℕ)) (e : Event) (reply : Reply) (old new : Pen) → TalkStep s.talk e reply t.talk → t.met ≡ (s.met || is_limit_met reply) → wants_room roll reply ≡ false → IsShort roll s.talk e
      → IsAdded old new (marked mark (event_text e reply (last_entry t.talk))) → (text : List ℕ) × Does roll s (play mark e) text t × IsAdded old new text
  plays-here roll s t mark e reply old new step met other short added =
      let said = marked mark (event_text e reply (last_entry t.talk)) in (
        said,
        (s.talk, [], said, stays (not_due roll s.talk t.talk e reply step other short) refl refl, record { reply = reply; step = step; met = met; said = refl }, refl),
        added,
      )

  -- the chapter is the last
  pub plays-last : (roll : Option ℕ) (s n : Fleet A) (m : Talk A) (mark : Option (List ℕ)) (e : Event) (reply : Reply) (old new : Pen) → TalkStep s.talk e reply m → n.met ≡ (s.met || is_limit_met reply) → wants_room roll reply ≡ true
      → m.world.number + 1 ≡ m.world.limits.chapters → n.talk ≡ m → IsAdded old new (marked mark (event_text e reply (last_entry n.talk))) → (text : List ℕ) × Does roll s (play mark e) text n × IsAdded old new text
  plays-last roll s n m mark e reply old new step met is spent stayed added =
      let (due, same) = needed roll s.talk m e reply step is in
      let said = marked mark (event_text e reply (last_entry n.talk)) in
      let last : s.talk.world.number + 1 ≡ s.talk.world.limits.chapters = subst (λ (x : Talk A). x.world.number + 1 ≡ x.world.limits.chapters) same spent in (
        said,
        (s.talk, [], said, stays (λ due. last) refl refl, record { reply = reply; step = subst (λ (x : Talk A). TalkStep s.talk e reply x) (sym stayed) step; met = met; said = refl }, refl),
        added,
      )
