-- What a session forgets shows in no reply: its steps are those of a run.
use Rattle.std.proofs.Common.{◌≡◌, ℕ, zero, suc, ◌+◌, ◌<◌, ◌≤◌, List, [], ◌∷◌, ◌++◌, length, drop, map, sym, refl, ap, ◌∙◌, subst, arith, Some, length-append}
use Rattle.std.specs.Prelude.{slice_get, slice_set, slice_index_or, replicate}
use Rattle.std.proofs.lemmas.List.{get_or-map, map-set, drop-append-le, drop-drop, length-replicate, get_or-replicate}
use Rattle.fleet_grid.specs.Floor.{Floor}
use Rattle.fleet_book.specs.declared.event.Event.{Event}
use Rattle.fleet_book.specs.declared.event.Event.TheVariants.{Post, Take, Tick, Give, Collect, Shut}
use Rattle.fleet_book.specs.declared.limits.Limits.{Limits}
use Rattle.fleet_book.specs.declared.notice.Notice.{Notice}
use Rattle.fleet_book.specs.declared.order.Order.{Order}
use Rattle.fleet_history.specs.declared.history.Opening.{Opening}
use Rattle.fleet_history.specs.History.{clients, taken_count, unknown_client}
use Rattle.fleet_history.proofs.Numbered.{taken-length}
use Rattle.fleet_core.specs.declared.faults.TakeFault.TheVariants as take_fault
use Rattle.fleet_core.specs.declared.faults.TickFault.TheVariants as tick_fault
use Rattle.fleet_core.specs.declared.faults.ShutFault.TheVariants as shut_fault
use Rattle.fleet_core.specs.Core.{World, without_first, opened_world}
use Rattle.fleet_core.specs.Hooks.{HookLaws, AreOrderly}
use Rattle.fleet_core.specs.Opening.{CanOpen}
use Rattle.fleet_core.proofs.OpeningFacts.{legal-opened}
use Rattle.fleet_world.specs.declared.reply.Reply.{Reply}
use Rattle.fleet_world.specs.declared.reply.Reply.TheVariants.{Posted, LaneFull, Took, LaneEmpty, TakeRefused, Ticked, TickRefused, Gave, NothingPending, OutletFull, Collected, NothingThere, ShutDone, ShutRefused, NoClient}
use Rattle.fleet_world.specs.Run.{State, Lists, lists, lane, outlet, with_lists, with_sent, with_taken, with_given, with_collected, no_lists, Step, Run, state_of, opened_state}
use Rattle.fleet_world.proofs.FinalLists.{KeepsRings-opened}
use Rattle.fleet_world.proofs.StepLaws.{legal-run, ground-run}
use Rattle.fleet_world.proofs.Rings.{KeepsRings-run}
use Rattle.fleet_world.specs.Talk.{Talk, Waiting, talk_of, waiting, none_waiting, with_waiting, with_order, without_order, with_notice, without_notice, forget, forget_lists, TalkStep, opened_talk}
use Rattle.fleet_world.specs.inside.Shown.{IsFresh}

-- ---- one client

-- a lane that one more order joins, and an outlet that one more notice joins
lane_sent : (l : Lists) (o : Order) → l.taken ++ lane l ≡ l.sent → forget_lists (with_sent l o) ≡ with_order (forget_lists l) o
lane_sent l o p =
    let le : length l.taken ≤ length l.sent = omega (arith, ap length p, length-append l.taken (lane l)) in
    ap (λ (x : List Order). record { lane = x; outlet = outlet l }) (drop-append-le (length l.taken) l.sent (o ∷ []) le)

outlet_given : (l : Lists) (n : Notice) → l.collected ++ outlet l ≡ l.given → forget_lists (with_given l n) ≡ with_notice (forget_lists l) n
outlet_given l n p =
    let le : length l.collected ≤ length l.given = omega (arith, ap length p, length-append l.collected (outlet l)) in
    ap (λ (x : List Notice). record { lane = lane l; outlet = x }) (drop-append-le (length l.collected) l.given (n ∷ []) le)

-- what is left once one more was taken
one_less : {X : Type 0} (xs ys : List X) (x : X) → drop (length (xs ++ x ∷ [])) ys ≡ drop 1 (drop (length xs) ys)
one_less xs ys x = ap (λ n. drop n ys) (length-append xs (x ∷ [])) ∙ sym (drop-drop 1 (length xs) ys)

lane_taken : (l : Lists) (o : Order) → forget_lists (with_taken l o) ≡ without_order (forget_lists l)
lane_taken l o = ap (λ (x : List Order). record { lane = x; outlet = outlet l }) (one_less l.taken l.sent o)

outlet_collected : (l : Lists) (n : Notice) → forget_lists (with_collected l n) ≡ without_notice (forget_lists l)
outlet_collected l n = ap (λ (x : List Notice). record { lane = lane l; outlet = x }) (one_less l.collected l.given n)

-- ---- all clients

module _ {A : Type 0} (s : State A) (f : IsFresh s) where
  found : (c : ℕ) → c < clients s.world.history → waiting (forget s) c ≡ forget_lists (lists s c)
  found c l = get_or-map forget_lists s.clients c no_lists none_waiting (omega (arith, f.rings.list_count))

  -- how many orders of a client were taken, and sent
  taken_is : (c : ℕ) → c < clients s.world.history → taken_count s.world.history c ≡ length (lists s c).taken
  taken_is c l = omega (arith, taken-length s.world.floor s.world.history c f.legal, f.unknown c l, ap length (f.rings.each c l).taken)

  sent_is : (c : ℕ) → c < clients s.world.history → taken_count s.world.history c + length (lane (lists s c)) ≡ length (lists s c).sent
  sent_is c l = omega (arith, taken_is c l, ap length (f.rings.each c l).taken_prefix, length-append (lists s c).taken (lane (lists s c)))

  -- the state with other lists of one client, without what is over
  forget_with : (w : World A) (c : ℕ) (l : Lists) (x : Waiting) → forget_lists l ≡ x → forget (with_lists w s c l) ≡ with_waiting w (forget s) c x
  forget_with w c l x e = ap (talk_of w) (map-set forget_lists s.clients c l ∙ ap (slice_set (map forget_lists s.clients) c) e)

  -- nothing changed
  stays : (t : Talk A) → t ≡ forget s → forget s ≡ t
  stays t e = sym e

  pub step-of : (event : Event) (reply : Reply) (t : Talk A) → TalkStep (forget s) event reply t → (later : State A) × Step s event reply later × (forget later ≡ t)
  step-of (Post c o) NoClient t st = (s, (st.0, refl), sym st.1)
  step-of (Post c o) LaneFull t (inside, full, same) = (s, (inside, subst (λ (w : Waiting). s.world.limits.lane ≤ length w.lane) (found c inside) full, refl), sym same)
  step-of (Post c o) (Posted n) t (inside, room, number, same) =
      let l = lists s c in
      let is = found c inside in
      let law = f.rings.each c inside in
      let few = subst (λ (w : Waiting). length w.lane < s.world.limits.lane) is room in
      let next : n ≡ taken_count s.world.history c + length (lane l) + 1 = subst (λ (w : Waiting). n ≡ taken_count s.world.history c + length w.lane + 1) is number in (
        with_lists s.world s c (with_sent l o),
        (inside, few, omega (arith, next, sent_is c inside), refl),
        forget_with s.world c (with_sent l o) (with_order (waiting (forget s) c) o) (lane_sent l o law.taken_prefix ∙ ap (λ (w : Waiting). with_order w o) (sym is)) ∙ sym same,
      )
  step-of (Take c) NoClient t st = (s, (st.0, refl), sym st.1)
  step-of (Take c) LaneEmpty t (inside, none, same) = (s, (inside, subst (λ (w : Waiting). w.lane ≡ []) (found c inside) none, refl), sym same)
  step-of (Take c) (TakeRefused take_fault.MailboxFull) t (inside, some, full, same) =
      (s, (inside, subst (λ (w : Waiting). 0 < length w.lane) (found c inside) some, full, refl), sym same)
  step-of (Take c) (TakeRefused take_fault.ChapterFull) t (inside, some, room, full, same) =
      (s, (inside, subst (λ (w : Waiting). 0 < length w.lane) (found c inside) some, room, full, refl), sym same)
  step-of (Take c) (Took order_no v) t (inside, room, entries, order, first, takes, number, rest) =
      let l = lists s c in
      let is = found c inside in (
        state_of t.world (slice_set s.clients c (with_taken l order)),
        (inside, room, entries, order, subst (λ (w : Waiting). slice_get w.lane 0 ≡ Some order) is first, takes, omega (arith, number, taken_is c inside), refl),
        ap (talk_of t.world) (map-set forget_lists s.clients c (with_taken l order) ∙ ap (slice_set (map forget_lists s.clients) c) (lane_taken l order ∙ ap without_order (sym is)) ∙ sym rest),
      )
  step-of Tick (TickRefused tick_fault.ClockSpent) t st = (s, (st.0, refl), sym st.1)
  step-of Tick (TickRefused tick_fault.ChapterFull) t (early, full, same) = (s, (early, full, refl), sym same)
  step-of Tick (Ticked report) t (early, room, ticks, same) = (state_of t.world s.clients, (early, room, ticks, refl), ap (talk_of t.world) (sym same))
  step-of (Shut r) (ShutRefused shut_fault.NoRobot) t st = (s, (st.0, refl), sym st.1)
  step-of (Shut r) (ShutRefused shut_fault.Already) t (known, shut, same) = (s, (known, shut, refl), sym same)
  step-of (Shut r) (ShutRefused shut_fault.ChapterFull) t (known, opened, full, same) = (s, (known, opened, full, refl), sym same)
  step-of (Shut r) (ShutDone farewell) t (room, shuts, same) = (state_of t.world s.clients, (room, shuts, refl), ap (talk_of t.world) (sym same))
  step-of (Give c) NoClient t st = (s, (st.0, refl), sym st.1)
  step-of (Give c) NothingPending t (inside, none, same) = (s, (inside, none, refl), sym same)
  step-of (Give c) OutletFull t (inside, some, full, same) =
      (s, (inside, some, subst (λ (w : Waiting). s.world.limits.outlet ≤ length w.outlet) (found c inside) full, refl), sym same)
  step-of (Give c) (Gave seq) t (inside, room, notice, first, number, same) =
      let l = lists s c in
      let is = found c inside in (
        with_lists (without_first s.world c) s c (with_given l notice),
        (inside, subst (λ (w : Waiting). length w.outlet < s.world.limits.outlet) is room, notice, first, number, refl),
        forget_with (without_first s.world c) c (with_given l notice) (with_notice (waiting (forget s) c) notice)
            (outlet_given l notice (f.rings.each c inside).collected_prefix ∙ ap (λ (w : Waiting). with_notice w notice) (sym is)) ∙ sym same,
      )
  step-of (Collect c) NoClient t st = (s, (st.0, refl), sym st.1)
  step-of (Collect c) NothingThere t (inside, none, same) = (s, (inside, subst (λ (w : Waiting). w.outlet ≡ []) (found c inside) none, refl), sym same)
  step-of (Collect c) (Collected notice) t (inside, first, same) =
      let l = lists s c in
      let is = found c inside in (
        with_lists s.world s c (with_collected l notice),
        (inside, subst (λ (w : Waiting). slice_get w.outlet 0 ≡ Some notice) is first, refl),
        forget_with s.world c (with_collected l notice) (without_notice (waiting (forget s) c)) (outlet_collected l notice ∙ ap without_notice (sym is)) ∙ sym same,
      )
  step-of _ _ t st = absurd st

forget-none : (n : ℕ) → map forget_lists (replicate n no_lists) ≡ replicate n none_waiting
forget-none zero = refl
forget-none (suc n) = ap (λ l. none_waiting ∷ l) (forget-none n)

module _ {A : Type 0} where
  -- a run within the first chapter leads to a state within it
  pub fresh-run : (s later : State A) (events : List Event) (replies : List Reply) → IsFresh s → Run s events replies later → IsFresh later
  fresh-run s later events replies f run =
      let same = (ground-run s later events replies run).opening in
      record {
        rings = KeepsRings-run s later events replies run f.rings;
        legal = legal-run s later events replies run f.legal;
        unknown = λ c l. ap (λ (o : Opening A). (slice_index_or o.clients c unknown_client).taken) same ∙ f.unknown c (subst (λ (o : Opening A). c < length o.clients) same l);
      }

  pub fresh-step : (s later : State A) (event : Event) (reply : Reply) → IsFresh s → Step s event reply later → IsFresh later
  fresh-step s later event reply f st = fresh-run s later (event ∷ []) (reply ∷ []) f (later, st, refl)

  pub fresh-opened : (m : Floor) (starts : List ℕ) (n : ℕ) (limits : Limits) (laws : HookLaws) → CanOpen m starts n limits laws → AreOrderly laws → IsFresh {A = A} (opened_state m starts n limits laws)
  fresh-opened m starts n limits laws can orderly = record {
    rings = KeepsRings-opened m starts n limits laws;
    legal = legal-opened m starts n limits laws can orderly;
    unknown = λ c l. ap (λ (x : _). x.taken) (get_or-replicate n c unknown_client unknown_client (omega (arith, length-replicate n unknown_client)));
  }

  -- a session that was opened shows a run that was
  pub forget-opened : (m : Floor) (starts : List ℕ) (n : ℕ) (limits : Limits) (laws : HookLaws) → forget {A = A} (opened_state m starts n limits laws) ≡ opened_talk m starts n limits laws
  forget-opened m starts n limits laws = ap (talk_of (opened_world m starts n limits laws)) (forget-none n)
