-- Once all is said to a conversation at the end, no notice is left for its clients.
use Rattle.std.proofs.Common.{◌≡◌, ◌≢◌, ◌∙◌, ℕ, ◌+◌, ◌-◌, ◌≤◌, ◌<◌, ◌⊎◌, inl, inr, zero, suc, Bool, true, false, List, [], ◌∷◌, drop, Option, Some, None, refl, sym, ap, subst, arith}
use Rattle.std.specs.Prelude.{MatchOption, slice_get, slice_set}
use Rattle.std.specs.List.{AllByRecursion, range_with_len}
use Rattle.std.specs.declared.alloc.Global.{Global}
use Rattle.std.proofs.lemmas.Bool.{cases_lt}
use Rattle.std.proofs.lemmas.List.{get_or-set_other}
use Rattle.fleet_book.specs.declared.event.Event.TheVariants.{Give, Collect}
use Rattle.fleet_core.specs.Core.{pending, without_first}
use Rattle.fleet_core.specs.Pending.{Pending, no_pending}
use Rattle.fleet_history.specs.History.{clients}
use Rattle.fleet_world.specs.declared.reply.Reply.TheVariants.{Gave, NoClient, NothingPending, NothingThere, OutletFull}
use Rattle.fleet_world.specs.Talk.{Talk, Waiting, mailbox, none_waiting, waiting, with_notice, without_notice}
use Rattle.live_fleet.specs.declared.rest.Rest.{Rest}
use Rattle.live_fleet.specs.declared.rest.Rest.TheVariants.{Ended, Ending}
use Rattle.live_fleet.specs.declared.speaker.Clients.{Clients}
use Rattle.live_fleet.specs.declared.speaker.Speaker.{Speaker}
use Rattle.live_fleet.specs.Act.{Act, Acts, Runs, did}
use Rattle.live_fleet.specs.Act as act
use Rattle.live_fleet.specs.Ending.{at_end, rest_at_end}
use Rattle.live_fleet.specs.Law.{HasEnded, IsQuiet}
use Rattle.live_fleet.specs.Party.{Stage}
use Rattle.live_fleet.specs.Resting.{Continues, EndsAnswer, GoesOn, TellsRest}
use Rattle.live_fleet.specs.Resting as resting_as
use Rattle.live_fleet.specs.Telling.{IsTelling, TellsOne, TellsWhole}
use Rattle.live_fleet.specs.Turning.{SaysThat}
use Rattle.live_fleet.specs.Went.{At, Each}

-- ---- what is told of one client leaves the others as they are

quiet_at : (c : ℕ) (s t : Talk Global) → t ≡ s → IsQuiet s c → IsQuiet t c
quiet_at c s t same quiet = subst (λ (x : Talk Global). IsQuiet x c) (sym same) quiet

gave_quiet : (c n : ℕ) (s t : Talk Global) (x : Waiting) → c ≢ n → t ≡ record { world = without_first s.world n; clients = slice_set s.clients n x } → IsQuiet s c → IsQuiet t c
gave_quiet c n s t x other same (inl past) = inl (subst (λ (y : Talk Global). clients y.world.history ≤ c) (sym same) past)
gave_quiet c n s t x other same (inr (outlet, box)) =
    inr (ap (λ (y : Talk Global). (waiting y c).outlet) same ∙ (ap (λ (w : Waiting). w.outlet) (get_or-set_other s.clients n c x none_waiting other) ∙ outlet), box_of box)
  where
    box_of : (mailbox s c ≡ []) ⊎ (s.world.limits.outlet ≡ 0) → (mailbox t c ≡ []) ⊎ (t.world.limits.outlet ≡ 0)
    box_of (inl none) =
        inl (ap (λ (y : Talk Global). mailbox y c) same
        ∙ (ap (λ (p : Pending). p.notices) (get_or-set_other s.world.mailboxes n c (record (pending s.world n) { notices = drop 1 (mailbox s n) }) no_pending other) ∙ none))
    box_of (inr narrow) = inr (ap (λ (y : Talk Global). y.world.limits.outlet) same ∙ narrow)

told_quiet : (c n : ℕ) (s t : Talk Global) (x : Waiting) → c ≢ n → t ≡ record { world = s.world; clients = slice_set s.clients n x } → IsQuiet s c → IsQuiet t c
told_quiet c n s t x other same (inl past) = inl (subst (λ (y : Talk Global). clients y.world.history ≤ c) (sym same) past)
told_quiet c n s t x other same (inr (outlet, box)) =
    inr (ap (λ (y : Talk Global). (waiting y c).outlet) same ∙ (ap (λ (w : Waiting). w.outlet) (get_or-set_other s.clients n c x none_waiting other) ∙ outlet), box_of box)
  where
    box_of : (mailbox s c ≡ []) ⊎ (s.world.limits.outlet ≡ 0) → (mailbox t c ≡ []) ⊎ (t.world.limits.outlet ≡ 0)
    box_of (inl none) = inl (ap (λ (y : Talk Global). mailbox y c) same ∙ none)
    box_of (inr narrow) = inr (ap (λ (y : Talk Global). y.world.limits.outlet) same ∙ narrow)

act_quiet : (to n c : ℕ) (x : Act) (s t : Talk Global) → c ≢ n → IsTelling to n x → Acts s x t → IsQuiet s c → IsQuiet t c
act_quiet to n c (did (Give k) NoClient) s t other is st quiet = quiet_at c s t st.1 quiet
act_quiet to n c (did (Give k) NothingPending) s t other is st quiet = quiet_at c s t st.2 quiet
act_quiet to n c (did (Give k) OutletFull) s t other is st quiet = quiet_at c s t st.3 quiet
act_quiet to n c (did (Give k) (Gave seq)) s t other is (inside, room, notice, first, number, same) quiet = gave_quiet c k s t (with_notice (waiting s k) notice) (λ e. other (e ∙ is)) same quiet
act_quiet to n c (did (Give k) _) s t other is st quiet = absurd st
act_quiet to n c (did (Collect k) NothingThere) s t other is st quiet = quiet_at c s t st.2 quiet
act_quiet to n c (did (Collect k) NoClient) s t other is st quiet = quiet_at c s t st.1 quiet
act_quiet to n c (act.told k m notice) s t other is (inside, first, same) quiet = told_quiet c m s t (without_notice (waiting s m)) (λ e. other (e ∙ is.1)) same quiet
act_quiet to n c _ s t other is st quiet = absurd is

runs_quiet : (to n c : ℕ) (acts : List Act) (s t : Talk Global) → c ≢ n → AllByRecursion (IsTelling to n) acts → Runs s acts t → IsQuiet s c → IsQuiet t c
runs_quiet to n c [] s t other all same quiet = quiet_at c s t same quiet
runs_quiet to n c (x ∷ acts) s t other (is, all) (m, one, runs) quiet = runs_quiet to n c acts m t other all runs (act_quiet to n c x s m other is one quiet)

-- ---- one client after another

abbrev Tells : ℕ → ℕ → At → List Act → At → Type 0
Tells to client a acts b = TellsOne to client true a acts b

stays_quiet : (to low len : ℕ) (a : At) (acts : List Act) (b : At) → Each (Tells to) (range_with_len low len) a acts b → (c : ℕ) → c < low → IsQuiet a.fleet.talk c → IsQuiet b.fleet.talk c
stays_quiet to low zero a acts b (none, same) c less quiet = subst (λ (x : At). IsQuiet x.fleet.talk c) (sym same) quiet
stays_quiet to low (suc len) a acts b both c less quiet =
    stays_quiet to (low + 1) len both.mid both.rest b both.after c (omega (arith, less))
    (runs_quiet to low c both.first a.fleet.talk both.mid.fleet.talk (λ e. omega (arith, less, e)) both.before.only both.before.went.runs quiet)

all_quiet : (to low len : ℕ) (a : At) (acts : List Act) (b : At) → Each (Tells to) (range_with_len low len) a acts b → (c : ℕ) → low ≤ c → c < low + len → IsQuiet b.fleet.talk c
all_quiet to low zero a acts b each c above below = absurd (omega (arith, above, below))
all_quiet to low (suc len) a acts b both c above below =
    by_cases (cases_lt low c) (λ more. all_quiet to (low + 1) len both.mid both.rest b both.after c (omega (arith, more)) (omega (arith, below)))
  where
    by_cases : (low < c) ⊎ (c ≤ low) → (low < c → IsQuiet b.fleet.talk c) → IsQuiet b.fleet.talk c
    by_cases (inl more) later = later more
    by_cases (inr same) later =
        let is : low ≡ c = omega (arith, above, same) in
        stays_quiet to (low + 1) len both.mid both.rest b both.after c (omega (arith, same)) (subst (λ (n : ℕ). IsQuiet both.mid.fleet.talk n) is both.before.whole)

tells_quiet : (to : ℕ) (who : Clients) (a : At) (acts : List Act) (b : At) → TellsWhole to who a acts b → (c : ℕ) → who.first ≤ c → c < who.end → IsQuiet b.fleet.talk c
tells_quiet to who a acts b tells c above below = all_quiet to who.first (who.end - who.first) a acts b tells c above (omega (arith, above, below))

said_quiet : (is : Bool) (to : ℕ) (text : List ℕ) (a : At) (acts : List Act) (b : At) (c : ℕ) → SaysThat is to text a acts b → IsQuiet a.fleet.talk c → IsQuiet b.fleet.talk c
said_quiet true to text a acts b c (fits, is, went) quiet =
    let (m, same, last) = subst (λ (l : List Act). Runs a.fleet.talk l b.fleet.talk) is went.runs in quiet_at c a.fleet.talk b.fleet.talk (last ∙ same) quiet
said_quiet false to text a acts b c (crowded, none, same) quiet = subst (λ (x : At). IsQuiet x.fleet.talk c) (sym same) quiet

-- ---- the conversation

no_speaker : {P : Type 0} (x : Speaker) → None ≡ Some x → P
no_speaker x bad = cc

same_speaker : (x y : Speaker) → Some x ≡ Some y → x ≡ y
same_speaker x y e = cc

set_at : (who : List Speaker) (k : ℕ) (x y : Speaker) → slice_get who k ≡ Some y → slice_get (slice_set who k x) k ≡ Some x
set_at [] k x y at = no_speaker y at
set_at (z ∷ who) zero x y at = refl
set_at (z ∷ who) (suc k) x y at = set_at who k x y at

no_end : Ending ≡ Ended → ⊥
no_end bad = cc

not_ended : (who : List Speaker) (k : ℕ) (sp : Speaker) → slice_get who k ≡ Some sp → sp.rest ≡ Ending → HasEnded who k → ⊥
not_ended who k sp at ending ended =
    let is : sp.rest ≡ Ended = subst (λ (o : Option Speaker). MatchOption o ⊥ (λ x. x.rest ≡ Ended)) at ended in no_end (sym ending ∙ is)

-- of a conversation to which not all could be said more is left
more_left : (has_ended : Bool) (k : ℕ) (sp : Speaker) (m t : Stage) → slice_get m.speakers k ≡ Some sp → sp.rest ≡ Ending → EndsAnswer has_ended k m t → HasEnded t.speakers k → ⊥
more_left true k sp m t at ending (x, there, same) ended =
    let is : x ≡ sp = same_speaker x sp (sym there ∙ at) in
    let left : rest_at_end x.rest ≡ Ending = ap (λ (y : Speaker). rest_at_end y.rest) is ∙ ap rest_at_end ending in
    not_ended t.speakers k (at_end x) (ap (λ (y : Stage). slice_get y.speakers k) same ∙ set_at m.speakers k (at_end x) x there) left ended
more_left false k sp m t at ending same ended = not_ended t.speakers k sp (ap (λ (y : Stage). slice_get y.speakers k) same ∙ at) ending ended

ends_quiet : (has_ended : Bool) (k : ℕ) (m t : Stage) (c : ℕ) → EndsAnswer has_ended k m t → IsQuiet m.at.fleet.talk c → IsQuiet t.at.fleet.talk c
ends_quiet true k m t c (x, there, same) quiet = subst (λ (y : Stage). IsQuiet y.at.fleet.talk c) (sym same) quiet
ends_quiet false k m t c same quiet = subst (λ (y : Stage). IsQuiet y.at.fleet.talk c) (sym same) quiet

rest_quiet : (k : ℕ) (sp : Speaker) (s : Stage) (acts : List Act) (m t : Stage) (c : ℕ) → slice_get s.speakers k ≡ Some sp → sp.rest ≡ Ending → TellsRest k sp s acts m → EndsAnswer m.has_ended k m t → HasEnded t.speakers k
    → sp.clients.first ≤ c → c < sp.clients.end → IsQuiet t.at.fleet.talk c
rest_quiet k sp s acts m t c at ending (resting_as.full tells is same) ends ended above below =
    absurd (more_left m.has_ended k sp m t (ap (λ (y : Stage). slice_get y.speakers k) same ∙ at) ending ends ended)
rest_quiet k sp s acts m t c at ending (resting_as.all mid first last is tells says parts same) ends ended above below =
    ends_quiet m.has_ended k m t c ends (said_quiet is k _ mid last m.at c says (tells_quiet k sp.clients s.at first mid tells c above below))

pub end-last : (s t : Stage) (k : ℕ) (sp : Speaker) (acts : List Act) → slice_get s.speakers k ≡ Some sp → sp.rest ≡ Ending → GoesOn k s acts t → HasEnded t.speakers k → (c : ℕ) → sp.clients.first ≤ c → c < sp.clients.end → IsQuiet t.at.fleet.talk c
end-last s t k sp acts at ending (mid, (x, there, continues), ends) ended c above below =
    let is : x ≡ sp = same_speaker x sp (sym there ∙ at) in
    let tells : TellsRest k sp s acts mid = subst (λ (r : Rest). Continues r k sp s acts mid) ending (subst (λ (y : Speaker). Continues y.rest k y s acts mid) is continues) in
    rest_quiet k sp s acts mid t c at ending tells ends ended above below
