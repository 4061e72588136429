-- When the next chapter is needed.
use Rattle.std.proofs.Common.{◌≡◌, true, false, refl}
use Rattle.fleet_book.specs.declared.event.Event.{Event}
use Rattle.fleet_book.specs.declared.event.Event.TheVariants.{Post, Take, Tick, Give, Collect, Shut}
use Rattle.fleet_core.specs.declared.faults.TakeFault.TheVariants as take_fault
use Rattle.fleet_core.specs.declared.faults.TickFault.TheVariants as tick_fault
use Rattle.fleet_core.specs.declared.faults.ShutFault.TheVariants as shut_fault
use Rattle.fleet_world.specs.declared.reply.Reply.{Reply}
use Rattle.fleet_world.specs.declared.reply.Reply.TheVariants.{Posted, LaneFull, Took, LaneEmpty, TakeRefused, Ticked, TickRefused, Gave, NothingPending, OutletFull, Collected, NothingThere, ShutDone, ShutRefused, NoClient}
use Rattle.fleet_world.specs.Talk.{Talk, TalkStep}
use Rattle.fleet_talk.specs.Acts.{NeedsRoom}
use Rattle.live_fleet.specs.Stepping.{wants_room}

is_false : {P : Type 0} → false ≡ true → P
is_false bad = cc

module _ {A : Type 0} where
  -- an event that was refused so needs the room, and changed nothing
  pub needed : (s t : Talk A) (e : Event) (reply : Reply) → TalkStep s e reply t → wants_room reply ≡ true → NeedsRoom s e × (t ≡ s)
  needed s t (Take c) (TakeRefused take_fault.ChapterFull) st is = ((st.0, st.1, st.2, st.3, refl), st.4)
  needed s t Tick (TickRefused tick_fault.ChapterFull) st is = ((st.0, st.1, refl), st.2)
  needed s t (Shut r) (ShutRefused shut_fault.ChapterFull) st is = ((st.0, st.1, st.2, refl), st.3)
  needed s t (Post c o) NoClient st is = is_false is
  needed s t (Post c o) LaneFull st is = is_false is
  needed s t (Post c o) (Posted n) st is = is_false is
  needed s t (Take c) NoClient st is = is_false is
  needed s t (Take c) LaneEmpty st is = is_false is
  needed s t (Take c) (TakeRefused take_fault.MailboxFull) st is = is_false is
  needed s t (Take c) (Took order_no v) st is = is_false is
  needed s t Tick (TickRefused tick_fault.ClockSpent) st is = is_false is
  needed s t Tick (Ticked report) st is = is_false is
  needed s t (Shut r) (ShutRefused shut_fault.NoRobot) st is = is_false is
  needed s t (Shut r) (ShutRefused shut_fault.Already) st is = is_false is
  needed s t (Shut r) (ShutDone farewell) st is = is_false is
  needed s t (Give c) NoClient st is = is_false is
  needed s t (Give c) NothingPending st is = is_false is
  needed s t (Give c) OutletFull st is = is_false is
  needed s t (Give c) (Gave seq) st is = is_false is
  needed s t (Collect c) NoClient st is = is_false is
  needed s t (Collect c) NothingThere st is = is_false is
  needed s t (Collect c) (Collected notice) st is = is_false is
  needed s t _ _ st is = absurd st
