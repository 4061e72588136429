-- What is said of events is what a run of them prints.
use Rattle.std.proofs.Common.{◌≡◌, ◌∙◌, ℕ, ◌+◌, ◌-◌, Bool, true, false, ◌||◌, List, [], ◌∷◌, ◌++◌, length, drop, map, Option, Some, None, refl, sym, ap, subst, arith}
use Rattle.std.specs.Prelude.{slice_get}
use Rattle.std.specs.List.{list_any}
use Rattle.std.proofs.lemmas.List.{append-nil, append_assoc, length_push}
use Rattle.fleet_grid.specs.Floor.{Floor}
use Rattle.fleet_book.specs.declared.event.Event.{Event}
use Rattle.fleet_book.specs.declared.event.Event.TheVariants.{Post, Take, Tick, Give, Collect, Shut}
use Rattle.fleet_book.specs.declared.limits.Limits.{Limits}
use Rattle.fleet_history.specs.declared.history.Entry.{Entry}
use Rattle.fleet_history.specs.declared.history.Entry.TheVariants as entry
use Rattle.fleet_core.specs.declared.faults.TakeFault.TheVariants as take_fault
use Rattle.fleet_core.specs.declared.faults.TickFault.TheVariants as tick_fault
use Rattle.fleet_core.specs.declared.faults.ShutFault.TheVariants as shut_fault
use Rattle.fleet_core.specs.Core.{World}
use Rattle.fleet_core.specs.Hooks.{HookLaws, AreOrderly}
use Rattle.fleet_core.specs.Opening.{CanOpen}
use Rattle.fleet_world.specs.declared.reply.Reply.{Reply}
use Rattle.fleet_world.specs.declared.reply.Reply.TheVariants.{Posted, LaneFull, Took, LaneEmpty, TakeRefused, Ticked, TickRefused, Gave, NothingPending, OutletFull, Collected, NothingThere, ShutDone, ShutRefused, NoClient}
use Rattle.fleet_world.specs.Run.{State, Run, opened_state}
use Rattle.fleet_text.specs.Output.{event_text, run_text, entries_made, is_limit_met}
use Rattle.fleet_world.specs.Talk.{Talk, TalkStep, forget, opened_talk}
use Rattle.fleet_world.specs.inside.Shown.{IsFresh}
use Rattle.fleet_world.proofs.Sessions.{step-of, fresh-step, fresh-opened, forget-opened}
use Rattle.fleet_talk.specs.Act.{play}
use Rattle.fleet_talk.specs.Acts.{Talks, Rolls, stays, rolls, last_entry}
use Rattle.fleet_talk.specs.Fleet.{Fleet, opened_fleet}

abbrev entries : {A : Type 0} → Talk A → List (Entry A)
entries s = s.world.history.entries

-- the entries that an event made, and what is said of it by them
record Grows {A : Type 0} (s : Talk A) (e : Event) (reply : Reply) (t : Talk A) : Type 0 where
  pub made : List (Entry A)
  pub grown : entries t ≡ entries s ++ made
  pub count : length made ≡ entries_made reply
  pub said : (more : List (Entry A)) → event_text e reply (last_entry t) ≡ event_text e reply (slice_get (made ++ more) 0)

-- no entry was made
still : {A : Type 0} (s : Talk A) (e : Event) (reply : Reply) (t : Talk A) → entries t ≡ entries s → entries_made reply ≡ 0
    → ((x y : Option (Entry A)) → event_text e reply x ≡ event_text e reply y) → Grows s e reply t
still s e reply t same none any = record { made = []; grown = same ∙ sym (append-nil (entries s)); count = sym none; said = λ more. any _ _ }

last_at : {X : Type 0} (xs : List X) (x : X) → slice_get (xs ++ x ∷ []) (length xs) ≡ Some x
last_at [] x = refl
last_at (y ∷ ys) x = last_at ys x

last_is : {X : Type 0} (xs : List X) (x : X) (n : ℕ) → n ≡ length xs + 1 → slice_get (xs ++ x ∷ []) (n - 1) ≡ Some x
last_is xs x n e = let at : n - 1 ≡ length xs = omega (arith, e) in ap (slice_get (xs ++ x ∷ [])) at ∙ last_at xs x

-- one entry was made
one : {A : Type 0} (s : Talk A) (e : Event) (reply : Reply) (t : Talk A) (x : Entry A) → entries t ≡ entries s ++ x ∷ [] → entries_made reply ≡ 1 → Grows s e reply t
one {A} s e reply t x grown made = record {
  made = x ∷ [];
  grown = grown;
  count = sym made;
  said = λ more. ap (event_text e reply) (ap (λ (es : List (Entry A)). slice_get es (length es - 1)) grown ∙ last_is (entries s) x (length (entries s ++ x ∷ [])) (length_push (entries s) x));
}

same_entries : {A : Type 0} (s t : Talk A) → t ≡ s → entries t ≡ entries s
same_entries {A} s t e = ap (λ (x : Talk A). entries x) e

grows : {A : Type 0} (s t : Talk A) (e : Event) (reply : Reply) → TalkStep s e reply t → Grows s e reply t
grows s t (Post c o) NoClient st = still s _ _ t (same_entries s t st.1) refl (λ x y. refl)
grows s t (Post c o) LaneFull st = still s _ _ t (same_entries s t st.2) refl (λ x y. refl)
grows s t (Post c o) (Posted n) st = still s _ _ t (ap (λ (x : Talk _). entries x) st.3) refl (λ x y. refl)
grows s t (Take c) NoClient st = still s _ _ t (same_entries s t st.1) refl (λ x y. refl)
grows s t (Take c) LaneEmpty st = still s _ _ t (same_entries s t st.2) refl (λ x y. refl)
grows s t (Take c) (TakeRefused take_fault.MailboxFull) st = still s _ _ t (same_entries s t st.3) refl (λ x y. refl)
grows s t (Take c) (TakeRefused take_fault.ChapterFull) st = still s _ _ t (same_entries s t st.4) refl (λ x y. refl)
grows {A} s t (Take c) (Took n v) (inside, room, some, order, first, takes, number, rest) =
    one s _ _ t (entry.Take c order v) (ap (λ (w : World A). w.history.entries) takes.world) refl
grows s t Tick (TickRefused tick_fault.ClockSpent) st = still s _ _ t (same_entries s t st.1) refl (λ x y. refl)
grows s t Tick (TickRefused tick_fault.ChapterFull) st = still s _ _ t (same_entries s t st.2) refl (λ x y. refl)
grows {A} s t Tick (Ticked report) (early, room, ticks, rest) =
    one s _ _ t (entry.Tick ticks.to ticks.arrived ticks.farewells) (ap (λ (w : World A). w.history.entries) ticks.world) refl
grows s t (Shut r) (ShutRefused shut_fault.NoRobot) st = still s _ _ t (same_entries s t st.1) refl (λ x y. refl)
grows s t (Shut r) (ShutRefused shut_fault.Already) st = still s _ _ t (same_entries s t st.2) refl (λ x y. refl)
grows s t (Shut r) (ShutRefused shut_fault.ChapterFull) st = still s _ _ t (same_entries s t st.3) refl (λ x y. refl)
grows {A} s t (Shut r) (ShutDone farewell) (room, shuts, rest) = one s _ _ t (entry.Shut r farewell) (ap (λ (w : World A). w.history.entries) shuts.world) refl
grows s t (Give c) NoClient st = still s _ _ t (same_entries s t st.1) refl (λ x y. refl)
grows s t (Give c) NothingPending st = still s _ _ t (same_entries s t st.2) refl (λ x y. refl)
grows s t (Give c) OutletFull st = still s _ _ t (same_entries s t st.3) refl (λ x y. refl)
grows s t (Give c) (Gave seq) (inside, room, notice, first, number, same) = still s _ _ t (ap (λ (x : Talk _). entries x) same) refl (λ x y. refl)
grows s t (Collect c) NoClient st = still s _ _ t (same_entries s t st.1) refl (λ x y. refl)
grows s t (Collect c) NothingThere st = still s _ _ t (same_entries s t st.2) refl (λ x y. refl)
grows s t (Collect c) (Collected notice) st = still s _ _ t (ap (λ (x : Talk _). entries x) st.2) refl (λ x y. refl)
grows s t _ _ st = absurd st

-- nothing was handed out unasked
stayed : {A : Type 0} (s m : Talk A) (mark : Option (List ℕ)) (e : Event) (text : List ℕ) → Rolls None s mark e text m → (m ≡ s) × (text ≡ [])
stayed s m mark e text (stays free same none) = (same, none)
stayed s m mark e text (rolls due same is) = absurd due

behind : {X : Type 0} (xs made more : List X) → drop (length made) (made ++ more) ≡ more
behind xs [] more = refl
behind xs (x ∷ made) more = behind xs made more

-- one reply after others that met a limit or not
met_then : (a b c : Bool) → ((a || b) || c) ≡ (a || (b || c))
met_then true b c = refl
met_then false b c = refl

-- what is said of events, and the entries that they made, in a run from a state that a session shows
record IsSaid {A : Type 0} (s : State A) (met : Bool) (events : List Event) (text : List ℕ) (t : Fleet A) : Type 0 where
  pub replies : List Reply
  pub last : State A
  pub run : Run s events replies last
  pub same : forget last ≡ t.talk
  pub limited : t.met ≡ (met || list_any is_limit_met replies)
  pub made : List (Entry A)
  pub grown : entries t.talk ≡ entries (forget s) ++ made
  pub is : text ≡ run_text events replies made

or_false : (b : Bool) → b ≡ (b || false)
or_false true = refl
or_false false = refl

said : {A : Type 0} (s : State A) (met : Bool) (t : Fleet A) (events : List Event) (text : List ℕ) → IsFresh s → Talks None (record { talk = forget s; met = met }) (map (play None) events) text t → IsSaid s met events text t
said {A} s met t [] text f (none, same) = record {
  replies = [];
  last = s;
  run = refl;
  same = ap (λ (x : Fleet A). x.talk) (sym same);
  limited = ap (λ (x : Fleet A). x.met) same ∙ or_false met;
  made = [];
  grown = same_entries (forget s) t.talk (ap (λ (x : Fleet A). x.talk) same) ∙ sym (append-nil (entries (forget s)));
  is = none;
}
said {A} s met t (e ∷ events) text f (mid, first, rest, (m, before, after, rolled, plays, parts), talks, is) =
    let (same, none) = stayed (forget s) m None e before rolled in
    let step : TalkStep (forget s) e plays.reply mid.talk = subst (λ (x : Talk A). TalkStep x e plays.reply mid.talk) same plays.step in
    let (next, done, there) = step-of s f e plays.reply mid.talk step in
    let g = grows (forget s) mid.talk e plays.reply step in
    let more = said next mid.met t events rest (fresh-step s next e plays.reply f done) (subst (λ (x : Talk A). Talks None (record { talk = x; met = mid.met }) (map (play None) events) rest t) (sym there) talks) in
    let told : first ≡ event_text e plays.reply (slice_get (g.made ++ more.made) 0) = parts ∙ (ap (λ l. l ++ after) none ∙ (plays.said ∙ g.said more.made)) in
    let cut : more.made ≡ drop (entries_made plays.reply) (g.made ++ more.made) = sym (behind [] g.made more.made) ∙ ap (λ n. drop n (g.made ++ more.made)) g.count in
    record {
      replies = plays.reply ∷ more.replies;
      last = more.last;
      run = (next, done, more.run);
      same = more.same;
      limited = more.limited ∙ (ap (λ b. b || list_any is_limit_met more.replies) plays.met ∙ met_then met (is_limit_met plays.reply) (list_any is_limit_met more.replies));
      made = g.made ++ more.made;
      grown = more.grown ∙ (ap (λ (x : Talk A). entries x ++ more.made) there ∙ (ap (λ l. l ++ more.made) g.grown ∙ append_assoc (entries (forget s)) g.made more.made));
      is = is ∙ (ap (λ l. l ++ rest) told ∙ ap (λ l. event_text e plays.reply (slice_get (g.made ++ more.made) 0) ++ l) (more.is ∙ ap (run_text events more.replies) cut));
    }

pub said-run : {A : Type 0} (m : Floor) (starts : List ℕ) (n : ℕ) (limits : Limits) (laws : HookLaws) (events : List Event) (text : List ℕ) (t : Fleet A) →
    CanOpen m starts n limits laws → AreOrderly laws → Talks None (opened_fleet (opened_talk m starts n limits laws)) (map (play None) events) text t →
    (replies : List Reply) × (last : State A) × Run (opened_state m starts n limits laws) events replies last × (forget last ≡ t.talk)
    × (t.met ≡ list_any is_limit_met replies) × (text ≡ run_text events replies last.world.history.entries)
said-run {A} m starts n limits laws events text t can orderly talks =
    let o : State A = opened_state m starts n limits laws in
    let shown : Talks None (opened_fleet (forget o)) (map (play None) events) text t = subst (λ (x : Talk A). Talks None (opened_fleet x) (map (play None) events) text t) (sym (forget-opened m starts n limits laws)) talks in
    let is = said o false t events text (fresh-opened m starts n limits laws can orderly) shown in
    (is.replies, is.last, is.run, is.same, is.limited, is.is ∙ ap (run_text events is.replies) (sym is.grown ∙ ap (λ (x : Talk A). entries x) (sym is.same)))
