-- What a step of the core does to the world, and what holds of the world all along a run.
use Rattle.std.proofs.Common.{◌≡◌, ℕ, ◌<◌, List, [], ◌∷◌, Option, sym, refl, ap, subst}
use Rattle.fleet_book.specs.declared.event.Event.{Event}
use Rattle.fleet_book.specs.declared.event.Event.TheVariants.{Post, Take, Tick, Give, Collect, Shut}
use Rattle.fleet_book.specs.declared.order.Order.{Order}
use Rattle.fleet_book.specs.declared.verdict.Verdict.{Verdict}
use Rattle.fleet_history.specs.declared.history.Entry.TheVariants as entry
use Rattle.fleet_history.specs.History.{clients}
use Rattle.fleet_history.specs.Legal.{IsLegal, grown}
use Rattle.fleet_history.specs.Laws.{EachTick}
use Rattle.fleet_history.proofs.Ticks.{each_tick-tick, each_tick-take, each_tick-shut}
use Rattle.mover.specs.Moving.{IsPlannedAs}
use Rattle.fleet_core.specs.declared.faults.TakeFault.TheVariants as take_fault
use Rattle.fleet_core.specs.declared.faults.TickFault.TheVariants as tick_fault
use Rattle.fleet_core.specs.declared.faults.ShutFault.TheVariants as shut_fault
use Rattle.fleet_core.specs.declared.faults.TickReport.{TickReport}
use Rattle.fleet_world.specs.declared.reply.Reply.{Reply}
use Rattle.fleet_world.specs.declared.reply.Reply.TheVariants.{Posted, LaneFull, Took, LaneEmpty, TakeRefused, Ticked, TickRefused, Gave, NothingPending, OutletFull, Collected, NothingThere, ShutDone, ShutRefused, NoClient}
use Rattle.fleet_core.specs.Core.{World, without_first, Takes, Ticks, Shuts}
use Rattle.fleet_world.specs.Run.{State, Step, Run}
use Rattle.fleet_world.specs.Laws.{IsSameGround}

-- what a step may do to a world
pub data IsMove {A : Type 0} (w v : World A) : Type 0 where
  rests : v ≡ w → IsMove w v
  gives : (c : ℕ) → v ≡ without_first w c → IsMove w v
  takes : (c : ℕ) (order : Order) (verdict : Verdict) → c < clients w.history → Takes w c order verdict v → IsMove w v
  ticks : (report : TickReport) → Ticks w report v → IsMove w v
  shuts : (r : ℕ) (farewell : Option ℕ) → Shuts w r farewell v → IsMove w v

module _ {A : Type 0} where
  world_of : (s t : State A) → t ≡ s → t.world ≡ s.world
  world_of s t e = ap (λ (x : State A). x.world) e

  stays : (s t : State A) → t ≡ s → IsMove s.world t.world
  stays s t e = rests (world_of s t e)

  pub step-move : (s t : State A) (event : Event) (reply : Reply) → Step s event reply t → IsMove s.world t.world
  step-move s t (Post c o) NoClient st = stays s t st.1
  step-move s t (Post c o) LaneFull st = stays s t st.2
  step-move s t (Post c o) (Posted n) st = rests (ap (λ (x : State A). x.world) st.3)
  step-move s t (Take c) NoClient st = stays s t st.1
  step-move s t (Take c) LaneEmpty st = stays s t st.2
  step-move s t (Take c) (TakeRefused take_fault.MailboxFull) st = stays s t st.3
  step-move s t (Take c) (TakeRefused take_fault.ChapterFull) st = stays s t st.4
  step-move s t (Take c) (Took order_no v) (inside, room, entries, order, next, take, number, same) = takes c order v inside take
  step-move s t Tick (TickRefused tick_fault.ClockSpent) st = stays s t st.1
  step-move s t Tick (TickRefused tick_fault.ChapterFull) st = stays s t st.2
  step-move s t Tick (Ticked report) (early, room, tick, same) = ticks report tick
  step-move s t (Shut r) (ShutRefused shut_fault.NoRobot) st = stays s t st.1
  step-move s t (Shut r) (ShutRefused shut_fault.Already) st = stays s t st.2
  step-move s t (Shut r) (ShutRefused shut_fault.ChapterFull) st = stays s t st.3
  step-move s t (Shut r) (ShutDone farewell) (room, shut, same) = shuts r farewell shut
  step-move s t (Give c) NoClient st = stays s t st.1
  step-move s t (Give c) NothingPending st = stays s t st.2
  step-move s t (Give c) OutletFull st = stays s t st.3
  step-move s t (Give c) (Gave seq) (inside, room, notice, next, number, same) = gives c (ap (λ (x : State A). x.world) same)
  step-move s t (Collect c) NoClient st = stays s t st.1
  step-move s t (Collect c) NothingThere st = stays s t st.2
  step-move s t (Collect c) (Collected n) st = rests (ap (λ (x : State A). x.world) st.2)
  step-move s t _ _ st = absurd st

  -- what each move keeps, a run keeps
  run-moves : (P : World A → Type 0) → ((w v : World A) → IsMove w v → P w → P v) →
      (s t : State A) (events : List Event) (replies : List Reply) → Run s events replies t → P s.world → P t.world
  run-moves P keep s t [] [] r p = subst (λ (x : State A). P x.world) (sym r) p
  run-moves P keep s t (e ∷ events) (x ∷ replies) (mid, first, rest) p =
      run-moves P keep mid t events replies rest (keep s.world mid.world (step-move s mid e x first) p)
  run-moves P keep s t [] (x ∷ replies) r p = absurd r
  run-moves P keep s t (e ∷ events) [] r p = absurd r

  -- ---- a legal history

  abbrev pub IsLegalWorld : World A → Type 0
  IsLegalWorld w = IsLegal w.floor w.history

  legal-move : (w v : World A) → IsMove w v → IsLegalWorld w → IsLegalWorld v
  legal-move w v (rests e) k = subst IsLegalWorld (sym e) k
  legal-move w v (gives c e) k = subst IsLegalWorld (sym e) k
  legal-move w v (takes c order verdict inside t) k = subst IsLegalWorld (sym t.world) (grown (entry.Take c order verdict) k (inside, t.verdict) refl)
  legal-move w v (ticks report t) k = subst IsLegalWorld (sym t.world) (grown (entry.Tick t.to t.arrived t.farewells) k t.fits refl)
  legal-move w v (shuts r farewell t) k = subst IsLegalWorld (sym t.world) (grown (entry.Shut r farewell) k t.fits refl)

  pub legal-run : (s t : State A) (events : List Event) (replies : List Reply) → Run s events replies t → IsLegalWorld s.world → IsLegalWorld t.world
  legal-run s t events replies r k = run-moves IsLegalWorld legal-move s t events replies r k

  -- ---- the map, the limits, the laws, the turns and the opening

  ground-move : (o w v : World A) → IsMove w v → IsSameGround o w → IsSameGround o v
  ground-move o w v (rests e) k = subst (IsSameGround o) (sym e) k
  ground-move o w v (gives c e) k = subst (IsSameGround o) (sym e) (record { floor = k.floor; limits = k.limits; ties = k.ties; turns = k.turns; number = k.number; opening = k.opening })
  ground-move o w v (takes c order verdict inside t) k = subst (IsSameGround o) (sym t.world) (record { floor = k.floor; limits = k.limits; ties = k.ties; turns = k.turns; number = k.number; opening = k.opening })
  ground-move o w v (ticks report t) k = subst (IsSameGround o) (sym t.world) (record { floor = k.floor; limits = k.limits; ties = k.ties; turns = k.turns; number = k.number; opening = k.opening })
  ground-move o w v (shuts r farewell t) k = subst (IsSameGround o) (sym t.world) (record { floor = k.floor; limits = k.limits; ties = k.ties; turns = k.turns; number = k.number; opening = k.opening })

  pub ground-run : (s t : State A) (events : List Event) (replies : List Reply) → Run s events replies t → IsSameGround s.world t.world
  ground-run s t events replies r =
      run-moves (IsSameGround s.world) (ground-move s.world) s t events replies r (record { floor = refl; limits = refl; ties = refl; turns = refl; number = refl; opening = refl })

  -- ---- each tick

  abbrev pub ArePlanned : World A → Type 0
  ArePlanned w = EachTick (IsPlannedAs w.turns w.floor w.ties) w.history

  planned-move : (w v : World A) → IsMove w v → ArePlanned w → ArePlanned v
  planned-move w v (rests e) k = subst ArePlanned (sym e) k
  planned-move w v (gives c e) k = subst ArePlanned (sym e) k
  planned-move w v (takes c order verdict inside t) k = subst ArePlanned (sym t.world) (each_tick-take (IsPlannedAs w.turns w.floor w.ties) w.history c order verdict k)
  planned-move w v (ticks report t) k = subst ArePlanned (sym t.world) (each_tick-tick (IsPlannedAs w.turns w.floor w.ties) w.history t.to t.arrived t.farewells k t.planned)
  planned-move w v (shuts r farewell t) k = subst ArePlanned (sym t.world) (each_tick-shut (IsPlannedAs w.turns w.floor w.ties) w.history r farewell k)

  pub planned-run : (s t : State A) (events : List Event) (replies : List Reply) → Run s events replies t → ArePlanned s.world → ArePlanned t.world
  planned-run s t events replies r k = run-moves ArePlanned planned-move s t events replies r k
