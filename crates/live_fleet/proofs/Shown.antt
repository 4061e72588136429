-- A turn tells its notices, and then shows its line.
use Rattle.std.proofs.Common.{◌≡◌, ◌∙◌, ℕ, Bool, true, false, ◌&&◌, List, [], ◌∷◌, ◌++◌, length, Option, Some, None, refl, sym, subst}
use Rattle.std.specs.Prelude.{MatchOption, slice_get}
use Rattle.std.specs.List.{AllByRecursion, range_with_len}
use Rattle.std.specs.declared.alloc.Global.{Global}
use Rattle.fleet_book.specs.declared.event.Event.TheVariants.{Take, Tick, Give, Collect}
use Rattle.fleet_world.specs.declared.reply.Reply.{Reply}
use Rattle.fleet_world.specs.declared.reply.Reply.TheVariants.{NothingThere, NoClient}
use Rattle.fleet_world.specs.Talk.{Talk}
use Rattle.live_fleet.specs.declared.speaker.Clients.{Clients}
use Rattle.live_fleet.specs.declared.speaker.Speaker.{Speaker}
use Rattle.live_fleet.specs.Act.{Act, Runs, did, full, handed}
use Rattle.live_fleet.specs.Act as act
use Rattle.live_fleet.specs.Does.{MakesTurn, ShowsTurn}
use Rattle.live_fleet.specs.Law.{IsShown, IsShownLast, IsUnsaid}
use Rattle.live_fleet.specs.Open.{is_open}
use Rattle.live_fleet.specs.Party.{Stage}
use Rattle.live_fleet.specs.Stepping.{StepsOn, here, next}
use Rattle.live_fleet.specs.Taking.{IsTaking, Takes, TakesOne}
use Rattle.live_fleet.specs.Telling.{IsTelling, TellsAll, TellsAt, TellsOne, TellsTo, TellsWhere, numbers_of}
use Rattle.live_fleet.specs.Turning.{SaysThat, Shows, ShowsAt, ShowsTo, ShowsWhere, Turns, is_ticked, place_line}
use Rattle.live_fleet.specs.Went.{At, Both, Each}
use Rattle.live_fleet.proofs.Fleets.{shows-went}
use Rattle.live_fleet.proofs.Parts.{all-then}

-- ---- acts of one kind, part by part

all_none : (Q : Act → Type 0) (acts : List Act) → acts ≡ [] → AllByRecursion Q acts
all_none Q acts none = subst (λ (l : List Act). AllByRecursion Q l) (sym none) tt

all_if : (P Q : Act → Type 0) → ((x : Act) → P x → Q x) → (acts : List Act) → AllByRecursion P acts → AllByRecursion Q acts
all_if P Q each [] all = tt
all_if P Q each (x ∷ acts) (first, all) = (each x first, all_if P Q each acts all)

all_parts : (Q : Act → Type 0) (acts xs ys : List Act) → acts ≡ xs ++ ys → AllByRecursion Q xs → AllByRecursion Q ys → AllByRecursion Q acts
all_parts Q acts xs ys is first second = subst (λ (l : List Act). AllByRecursion Q l) (sym is) (all-then Q xs ys first second)

all_each : (Q : Act → Type 0) (P : ℕ → At → List Act → At → Type 0) → ((n : ℕ) (a : At) (acts : List Act) (b : At) → P n a acts b → AllByRecursion Q acts) → (numbers : List ℕ) (a : At) (acts : List Act) (b : At) → Each P numbers a acts b
    → AllByRecursion Q acts
all_each Q P one [] a acts b (none, same) = all_none Q acts none
all_each Q P one (n ∷ numbers) a acts b both =
    all_parts Q acts both.first both.rest both.parts (one n a both.first both.mid both.before) (all_each Q P one numbers both.mid both.rest b both.after)

all_both : (Q : Act → Type 0) (P R : At → List Act → At → Type 0) → ((a : At) (acts : List Act) (b : At) → P a acts b → AllByRecursion Q acts) → ((a : At) (acts : List Act) (b : At) → R a acts b → AllByRecursion Q acts)
    → (a : At) (acts : List Act) (b : At) → Both P R a acts b → AllByRecursion Q acts
all_both Q P R one two a acts b both = all_parts Q acts both.first both.rest both.parts (one a both.first both.mid both.before) (two both.mid both.rest b both.after)

-- ---- what comes before the line

telling_unsaid : (to client : ℕ) (x : Act) → IsTelling to client x → IsUnsaid x
telling_unsaid to client (did (Give c) reply) is = tt
telling_unsaid to client (did (Collect c) NothingThere) is = tt
telling_unsaid to client (did (Collect c) NoClient) is = tt
telling_unsaid to client (act.told k c notice) is = tt
telling_unsaid to client _ is = absurd is

taking_unsaid : (client : ℕ) (x : Act) → IsTaking client x → IsUnsaid x
taking_unsaid client (did (Take c) reply) is = tt
taking_unsaid client (full e) is = tt
taking_unsaid client (handed c) is = tt
taking_unsaid client _ is = absurd is

tick_unsaid : (reply : Reply) (a : At) (acts : List Act) (b : At) → StepsOn Tick reply a acts b → AllByRecursion IsUnsaid acts
tick_unsaid reply a acts b (here is last went) = subst (λ (l : List Act). AllByRecursion IsUnsaid l) (sym is) (tt, tt)
tick_unsaid reply a acts b (next is went) = subst (λ (l : List Act). AllByRecursion IsUnsaid l) (sym is) (tt, (tt, (tt, tt)))

where_unsaid : (is : Bool) (to : ℕ) (who : Clients) (a : At) (acts : List Act) (b : At) → TellsWhere is to who a acts b → AllByRecursion IsUnsaid acts
where_unsaid true to who a acts b tells =
    all_each IsUnsaid (λ (client : ℕ) (a : At) (acts : List Act) (b : At). (all : Bool) × TellsOne to client all a acts b) (λ n a acts b one. all_if (IsTelling to n) IsUnsaid (telling_unsaid to n) acts one.1.only) (numbers_of who) a acts b tells
where_unsaid false to who a acts b (none, same) = all_none IsUnsaid acts none

found_unsaid : (o : Option Speaker) (to : ℕ) (a : At) (acts : List Act) (b : At) → MatchOption o ((acts ≡ []) × (b ≡ a)) (λ sp. TellsTo sp to a acts b) → AllByRecursion IsUnsaid acts
found_unsaid None to a acts b (none, same) = all_none IsUnsaid acts none
found_unsaid (Some sp) to a acts b tells = where_unsaid (is_open sp.rest) to sp.clients a acts b tells

tells_unsaid : (who : List Speaker) (a : At) (acts : List Act) (b : At) → TellsAll who a acts b → AllByRecursion IsUnsaid acts
tells_unsaid who a acts b tells = all_each IsUnsaid (TellsAt who) (λ n a acts b one. found_unsaid (slice_get who n) n a acts b one) (range_with_len 0 (length who)) a acts b tells

takes_unsaid : (count : ℕ) (a : At) (acts : List Act) (b : At) → Takes count a acts b → AllByRecursion IsUnsaid acts
takes_unsaid count a acts b takes =
    all_each IsUnsaid (TakesOne a.fleet.talk.world.limits.lane) (λ n a acts b one. all_if (IsTaking n) IsUnsaid (taking_unsaid n) acts one.only) (range_with_len 0 count) a acts b takes

turns_unsaid : (who : List Speaker) (count : ℕ) (reply : Reply) (a : At) (acts : List Act) (b : At) → Turns who count reply a acts b → AllByRecursion IsUnsaid acts
turns_unsaid who count reply a acts b turns =
    all_both IsUnsaid (TellsAll who) (Both (Takes count) (Both (StepsOn Tick reply) (TellsAll who))) (tells_unsaid who)
    (all_both IsUnsaid (Takes count) (Both (StepsOn Tick reply) (TellsAll who)) (takes_unsaid count) (all_both IsUnsaid (StepsOn Tick reply) (TellsAll who) (tick_unsaid reply) (tells_unsaid who))) a acts b turns

-- ---- the line

says_shown : (is : Bool) (to : ℕ) (text : List ℕ) (a : At) (acts : List Act) (b : At) → SaysThat is to text a acts b → AllByRecursion (IsShown text) acts
says_shown true to text a acts b (fits, is, went) = subst (λ (l : List Act). AllByRecursion (IsShown text) l) (sym is) (refl, tt)
says_shown false to text a acts b (crowded, none, same) = all_none (IsShown text) acts none

where_shown : (is : Bool) (to : ℕ) (text : List ℕ) (a : At) (acts : List Act) (b : At) → ShowsWhere is text to a acts b → AllByRecursion (IsShown text) acts
where_shown true to text a acts b (is, says) = says_shown is to text a acts b says
where_shown false to text a acts b (none, same) = all_none (IsShown text) acts none

found_shown : (o : Option Speaker) (text : List ℕ) (to : ℕ) (a : At) (acts : List Act) (b : At) → MatchOption o ((acts ≡ []) × (b ≡ a)) (λ sp. ShowsTo text sp to a acts b) → AllByRecursion (IsShown text) acts
found_shown None text to a acts b (none, same) = all_none (IsShown text) acts none
found_shown (Some sp) text to a acts b shows = where_shown (sp.watching && is_open sp.rest) to text a acts b shows

shows_shown : (who : List Speaker) (a : At) (acts : List Act) (b : At) → Shows who a acts b → AllByRecursion (IsShown (place_line a.fleet.talk)) acts
shows_shown who a acts b shows =
    all_each (IsShown (place_line a.fleet.talk)) (ShowsAt (place_line a.fleet.talk) who) (λ n x xs y one. found_shown (slice_get who n) (place_line a.fleet.talk) n x xs y one) (range_with_len 0 (length who)) a acts b shows

-- what is shown changes nothing
shown_same : (line : List ℕ) (s : Talk Global) (acts : List Act) (t : Talk Global) → AllByRecursion (IsShown line) acts → Runs s acts t → t ≡ s
shown_same line s [] t all same = same
shown_same line s (act.said to text ∷ acts) t (is, all) (m, same, runs) = shown_same line m acts t all runs ∙ same
shown_same line s (_ ∷ acts) t (is, all) runs = absurd is

shows_last : (is : Bool) (s : Stage) (acts : List Act) (t : Stage) → ShowsTurn is s acts t → AllByRecursion (IsShown (place_line t.at.fleet.talk)) acts
shows_last true s acts t (shows, same) =
    let all = shows_shown s.speakers s.at acts t.at shows in
    let still = shown_same (place_line s.at.fleet.talk) s.at.fleet.talk acts t.at.fleet.talk all (shows-went s.speakers s.at acts t.at shows).runs in
    subst (λ (x : Talk Global). AllByRecursion (IsShown (place_line x)) acts) (sym still) all
shows_last false s acts t (none, same) = all_none (IsShown (place_line t.at.fleet.talk)) acts none

pub turn-shown : (s : Stage) (acts : List Act) (t : Stage) → MakesTurn s acts t → IsShownLast acts t.at.fleet.talk
turn-shown s acts t turns = record {
  first = turns.first;
  last = turns.second;
  parts = turns.parts;
  tells = turns_unsaid s.speakers s.clients turns.reply s.at turns.first turns.mid.at turns.turns;
  shows = shows_last (is_ticked turns.reply) turns.mid turns.second t turns.shows;
}
