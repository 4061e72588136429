-- What a run collects is read off its replies.
use Rattle.std.proofs.Common.{◌≡◌, ◌∙◌, ℕ, zero, suc, ◌<◌, List, [], ◌∷◌, ◌++◌, length, map, replicate, refl, sym, ap, subst, arith}
use Rattle.std.specs.Prelude.{slice_index_or, slice_set}
use Rattle.std.proofs.lemmas.List.{map-set, get_or-map, set-get_or}
use Rattle.fleet_grid.specs.Floor.{Floor}
use Rattle.fleet_book.specs.declared.event.Event.{Event}
use Rattle.fleet_book.specs.declared.event.Event.TheVariants.{Post, Take, Tick, Give, Collect, Shut}
use Rattle.fleet_book.specs.declared.limits.Limits.{Limits}
use Rattle.fleet_book.specs.declared.notice.Notice.{Notice}
use Rattle.fleet_history.specs.History.{clients}
use Rattle.fleet_core.specs.declared.faults.TakeFault.TheVariants as take_fault
use Rattle.fleet_core.specs.declared.faults.TickFault.TheVariants as tick_fault
use Rattle.fleet_core.specs.declared.faults.ShutFault.TheVariants as shut_fault
use Rattle.fleet_core.specs.Hooks.{HookLaws, AreOrderly}
use Rattle.fleet_core.specs.Opening.{CanOpen}
use Rattle.fleet_world.specs.declared.reply.Reply.{Reply}
use Rattle.fleet_world.specs.declared.reply.Reply.TheVariants.{Posted, LaneFull, Took, LaneEmpty, TakeRefused, Ticked, TickRefused, Gave, NothingPending, OutletFull, Collected, NothingThere, ShutDone, ShutRefused, NoClient}
use Rattle.fleet_world.specs.Run.{State, Lists, lists, with_sent, with_taken, with_given, with_collected, no_lists, Step, Run, opened_state}
use Rattle.fleet_world.specs.Laws.{KeepsRings}
use Rattle.fleet_world.specs.Talk.{Talk, TalkStep, opened_talk}
use Rattle.fleet_world.specs.inside.Shown.{Leads, Shows, with_reply}
use Rattle.fleet_world.proofs.Sessions.{step-of, fresh-run, fresh-opened, forget-opened}

-- a run goes on by one step
pub Run-push : {A : Type 0} (s m t : State A) (events : List Event) (replies : List Reply) (event : Event) (reply : Reply) →
    Run s events replies m → Step m event reply t → Run s (events ++ event ∷ []) (replies ++ reply ∷ []) t
Run-push s m t [] [] event reply r step = (t, subst (λ x. Step x event reply t) r step, refl)
Run-push s m t (e ∷ events) (p ∷ replies) event reply (mid, first, rest) step = (mid, first, Run-push mid m t events replies event reply rest step)
Run-push s m t [] (p ∷ replies) event reply r step = absurd r
Run-push s m t (e ∷ events) [] event reply r step = absurd r

abbrev collected : List Lists → List (List Notice)
collected all = map (λ l. l.collected) all

-- one client collected as much as before
unchanged : (all : List Lists) (c : ℕ) (l : Lists) → c < length all → l.collected ≡ (slice_index_or all c no_lists).collected → collected (slice_set all c l) ≡ collected all
unchanged all c l inside same =
    map-set (λ (l : Lists). l.collected) all c l
    ∙ ap (slice_set (collected all) c) (same ∙ sym (get_or-map (λ (l : Lists). l.collected) all c no_lists [] inside))
    ∙ set-get_or (collected all) c []

-- one client collected one more
one-more : (all : List Lists) (c : ℕ) (n : Notice) → c < length all → collected (slice_set all c (with_collected (slice_index_or all c no_lists) n)) ≡ slice_set (collected all) c (slice_index_or (collected all) c [] ++ n ∷ [])
one-more all c n inside =
    map-set (λ (l : Lists). l.collected) all c (with_collected (slice_index_or all c no_lists) n)
    ∙ ap (λ (x : List Notice). slice_set (collected all) c (x ++ n ∷ [])) (sym (get_or-map (λ (l : Lists). l.collected) all c no_lists [] inside))

none-collected : (n : ℕ) → collected (replicate n no_lists) ≡ replicate n []
none-collected zero = refl
none-collected (suc n) = ap (λ all. [] ∷ all) (none-collected n)

module _ {A : Type 0} where
  stays : (s t : State A) → t ≡ s → collected t.clients ≡ collected s.clients
  stays s t e = ap (λ (x : State A). collected x.clients) e

  known : (s : State A) (c : ℕ) → KeepsRings s → c < clients s.world.history → c < length s.clients
  known s c k inside = omega (arith, k.list_count)

  -- what a step of this reply collects
  pub collected-step : (s t : State A) (event : Event) (reply : Reply) → Step s event reply t → KeepsRings s → collected t.clients ≡ with_reply event reply (collected s.clients)
  collected-step s t (Post c o) NoClient st k = stays s t st.1
  collected-step s t (Post c o) LaneFull st k = stays s t st.2
  collected-step s t (Post c o) (Posted n) st k =
      ap (λ (x : State A). collected x.clients) st.3 ∙ unchanged s.clients c (with_sent (lists s c) o) (known s c k st.0) refl
  collected-step s t (Take c) NoClient st k = stays s t st.1
  collected-step s t (Take c) LaneEmpty st k = stays s t st.2
  collected-step s t (Take c) (TakeRefused take_fault.MailboxFull) st k = stays s t st.3
  collected-step s t (Take c) (TakeRefused take_fault.ChapterFull) st k = stays s t st.4
  collected-step s t (Take c) (Took order_no v) (inside, room, entries, order, next, takes, number, same) k =
      ap collected same ∙ unchanged s.clients c (with_taken (lists s c) order) (known s c k inside) refl
  collected-step s t Tick (TickRefused tick_fault.ClockSpent) st k = stays s t st.1
  collected-step s t Tick (TickRefused tick_fault.ChapterFull) st k = stays s t st.2
  collected-step s t Tick (Ticked report) (early, room, ticks, same) k = ap collected same
  collected-step s t (Shut r) (ShutRefused shut_fault.NoRobot) st k = stays s t st.1
  collected-step s t (Shut r) (ShutRefused shut_fault.Already) st k = stays s t st.2
  collected-step s t (Shut r) (ShutRefused shut_fault.ChapterFull) st k = stays s t st.3
  collected-step s t (Shut r) (ShutDone farewell) (room, shuts, same) k = ap collected same
  collected-step s t (Give c) NoClient st k = stays s t st.1
  collected-step s t (Give c) NothingPending st k = stays s t st.2
  collected-step s t (Give c) OutletFull st k = stays s t st.3
  collected-step s t (Give c) (Gave seq) (inside, room, notice, next, number, same) k =
      ap (λ (x : State A). collected x.clients) same ∙ unchanged s.clients c (with_given (lists s c) notice) (known s c k inside) refl
  collected-step s t (Collect c) NoClient st k = stays s t st.1
  collected-step s t (Collect c) NothingThere st k = stays s t st.2
  collected-step s t (Collect c) (Collected n) st k =
      ap (λ (x : State A). collected x.clients) st.2 ∙ one-more s.clients c n (known s c k st.0)
  collected-step s t _ _ st k = absurd st

  -- no event was played, and one more
  pub leads-none : (t : Talk A) (all : List (List Notice)) → Leads t all [] [] t all
  leads-none t all s f shows = (s, refl, shows)

  pub leads-push : (t mid u : Talk A) (before between after : List (List Notice)) (events : List Event) (replies : List Reply) (event : Event) (reply : Reply) →
      Leads t before events replies mid between → TalkStep mid event reply u → after ≡ with_reply event reply between → Leads t before (events ++ event ∷ []) (replies ++ reply ∷ []) u after
  leads-push t mid u before between after events replies event reply leads step more s f shows =
      let (m, run, there) = leads s f shows in
      let fresh = fresh-run s m events replies f run in
      let (next, st, is) = step-of m fresh event reply u (subst (λ (x : Talk A). TalkStep x event reply u) (sym there.talk) step) in (
        next,
        Run-push s m next events replies event reply run st,
        record { talk = is; got = collected-step m next event reply st fresh.rings ∙ ap (with_reply event reply) there.got ∙ sym more },
      )

  -- from the opening on
  pub leads-opened : (m : Floor) (starts : List ℕ) (n : ℕ) (limits : Limits) (laws : HookLaws) (t u : Talk A) (before after : List (List Notice)) (events : List Event) (replies : List Reply) →
      CanOpen m starts n limits laws → AreOrderly laws → t ≡ opened_talk m starts n limits laws → before ≡ replicate n [] → Leads t before events replies u after →
      (last : State A) × Run (opened_state m starts n limits laws) events replies last × Shows last u after
  leads-opened m starts n limits laws t u before after events replies can orderly opened none leads =
      leads (opened_state m starts n limits laws) (fresh-opened m starts n limits laws can orderly)
      (record { talk = forget-opened m starts n limits laws ∙ sym opened; got = none-collected n ∙ sym none })
