-- Conversations speak for the same clients all the time, and are told the notices of these.
use Rattle.std.proofs.Common.{◌≡◌, ◌∙◌, ℕ, ◌+◌, ◌-◌, zero, suc, Bool, true, false, List, [], ◌∷◌, ◌++◌, length, map, Option, Some, None, Result, Ok, Err, Vec, refl, sym, ap, subst}
use Rattle.std.specs.Prelude.{MatchBool, ◌==◌, if◌then◌else◌, slice_get, slice_set}
use Rattle.std.specs.List.{range_with_len}
use Rattle.std.specs.declared.alloc.Global.{Global}
use Rattle.std.proofs.lemmas.List.{map-set}
use Rattle.fleet_book.specs.declared.order.Order.{Order}
use Rattle.fleet_lanes.specs.declared.fault.PostFault.{PostFault}
use Rattle.fleet_talk.specs.Ask.{Line}
use Rattle.fleet_world.specs.declared.reply.Reply.{Reply}
use Rattle.live_parts.specs.declared.demand.Demand.{Demand}
use Rattle.live_parts.specs.declared.demand.Demand.TheVariants as demand
use Rattle.live_parts.specs.declared.demand.Numbered.{Numbered}
use Rattle.live_parts.specs.declared.demand.Wanted.{Wanted}
use Rattle.live_parts.specs.declared.demand.Wanted.TheVariants as wanted
use Rattle.live_fleet.specs.declared.rest.Rest.{Rest}
use Rattle.live_fleet.specs.declared.rest.Rest.TheVariants as rest
use Rattle.live_fleet.specs.declared.speaker.Clients.{Clients}
use Rattle.live_fleet.specs.declared.speaker.Speaker.{Speaker}
use Rattle.live_fleet.specs.Act.{Act}
use Rattle.live_fleet.specs.Answering.{Answers, at_once, waits}
use Rattle.live_fleet.specs.Asking.{Grants, ShutsOne, TurnsChapter}
use Rattle.live_fleet.specs.Asking as asking
use Rattle.live_fleet.specs.Does.{Does, HandsDue, ShowsTurn}
use Rattle.live_fleet.specs.Ending.{Ends, IsClosing, TakesLeft, at_end}
use Rattle.live_fleet.specs.Hearing.{Obeys, Opens}
use Rattle.live_fleet.specs.Law.{clients_in}
use Rattle.live_fleet.specs.Numbered.{PostsAs, PostsLetIn, is_let_in, next_order}
use Rattle.live_fleet.specs.Own.{IfOwn, is_own}
use Rattle.live_fleet.specs.Party.{Heard, Stage, resting, with_at, with_rest, with_speaker}
use Rattle.live_fleet.specs.Party as heard
use Rattle.live_fleet.specs.Posting.{Posts, SettlesAll, SettlesIf}
use Rattle.live_fleet.specs.Resting.{Continues, EndsAnswer, KeptAt, KeptFor, TellsRest, TicksOnce, TicksThen, goes_on, last_turn}
use Rattle.live_fleet.specs.Resting as resting_as
use Rattle.live_fleet.specs.Turning.{is_ticked}
use Rattle.live_fleet.specs.Went.{Each}
use Rattle.live_fleet.proofs.ToldRight.{closing-right, hands-right, posted-right, right-if, right-none, right-range, right-then, says-right, settles-right, shows-right, shut-right, tells-at-right, tells-clients-right, tells-whole-right, there-in, turns-right, Right}

-- all is told right, and conversations speak for these clients yet
pub record Rights (whose : List Clients) (acts : List Act) (t : Stage) : Type 0 where
  pub right : Right whose acts
  pub same : clients_in t.speakers ≡ whose

none_there : {P : Type 0} (c : Clients) → None ≡ Some c → P
none_there c bad = cc

same_there : (x y : Clients) → Some x ≡ Some y → x ≡ y
same_there x y e = cc

set_there : (whose : List Clients) (k : ℕ) (c : Clients) → slice_get whose k ≡ Some c → slice_set whose k c ≡ whose
set_there [] k c at = none_there c at
set_there (x ∷ whose) zero c at = ap (λ (y : Clients). y ∷ whose) (sym (same_there x c at))
set_there (x ∷ whose) (suc k) c at = ap (λ (l : List Clients). x ∷ l) (set_there whose k c at)

-- one conversation changed, but not its clients
kept_set : (whose : List Clients) (who : List Speaker) (k : ℕ) (sp : Speaker) → clients_in who ≡ whose → slice_get whose k ≡ Some sp.clients → clients_in (slice_set who k sp) ≡ whose
kept_set whose who k sp at own = map-set (λ (x : Speaker). x.clients) who k sp ∙ (ap (λ (w : List Clients). slice_set w k sp.clients) at ∙ set_there whose k sp.clients own)

ended_same : (who : List Speaker) → clients_in (map at_end who) ≡ clients_in who
ended_same [] = refl
ended_same (sp ∷ who) = ap (λ (l : List Clients). sp.clients ∷ l) (ended_same who)

rights_none : (whose : List Clients) (s t : Stage) (acts : List Act) → clients_in s.speakers ≡ whose → acts ≡ [] → t ≡ s → Rights whose acts t
rights_none whose s t acts at none same = record { right = right-none whose acts none; same = ap (λ (x : Stage). clients_in x.speakers) same ∙ at }

pub rights-then : (whose : List Clients) (m t : Stage) (acts xs ys : List Act) → acts ≡ xs ++ ys → Rights whose xs m → (clients_in m.speakers ≡ whose → Rights whose ys t) → Rights whose acts t
rights-then whose m t acts xs ys is one two = let last = two one.same in record { right = right-then whose acts xs ys is one.right last.right; same = last.same }

rights_at : (whose : List Clients) (s t : Stage) (acts : List Act) → clients_in s.speakers ≡ whose → Right whose acts → t ≡ with_at s t.at → Rights whose acts t
rights_at whose s t acts at right same = record { right = right; same = ap (λ (x : Stage). clients_in x.speakers) same ∙ at }

rights_rest : (whose : List Clients) (s t : Stage) (acts : List Act) (k : ℕ) (sp : Speaker) → clients_in s.speakers ≡ whose → slice_get whose k ≡ Some sp.clients → Right whose acts → t ≡ with_speaker (with_at s t.at) k sp → Rights whose acts t
rights_rest whose s t acts k sp at own right same = record { right = right; same = ap (λ (x : Stage). clients_in x.speakers) same ∙ kept_set whose s.speakers k sp at own }

-- a conversation is changed, and nothing is done
rights_set : (whose : List Clients) (s t : Stage) (acts : List Act) (k : ℕ) (sp : Speaker) → clients_in s.speakers ≡ whose → slice_get whose k ≡ Some sp.clients → acts ≡ [] → t ≡ with_speaker s k sp → Rights whose acts t
rights_set whose s t acts k sp at own none same = record { right = right-none whose acts none; same = ap (λ (x : Stage). clients_in x.speakers) same ∙ kept_set whose s.speakers k sp at own }

-- of conversations that speak for these
of_own : (whose : List Clients) (s : Stage) (acts : List Act) → clients_in s.speakers ≡ whose → Right (clients_in s.speakers) acts → Right whose acts
of_own whose s acts at right = subst (λ (w : List Clients). Right w acts) at right

answers_right : (whose : List Clients) (k : ℕ) (sp : Speaker) (text : List ℕ) (s : Stage) (acts : List Act) (t : Stage) → clients_in s.speakers ≡ whose → slice_get whose k ≡ Some sp.clients → Answers k sp text s acts t → Rights whose acts t
answers_right whose k sp text s acts t at own (at_once fits is went same) = rights_rest whose s t acts k (resting sp rest.Nothing) at own (subst (λ (l : List Act). Right whose l) (sym is) (tt, tt)) same
answers_right whose k sp text s acts t at own (waits crowded none left waiting same) =
    record { right = right-none whose acts none; same = ap (λ (x : Stage). clients_in x.speakers) same ∙ kept_set whose s.speakers k (resting sp left) at own }

settles_stage : (whose : List Clients) (s : Stage) (acts : List Act) (t : Stage) → clients_in s.speakers ≡ whose → SettlesAll s acts t → Rights whose acts t
settles_stage whose s acts t at (settles, same) = rights_at whose s t acts at (of_own whose s acts at (settles-right s.speakers s.clients s.at acts t.at settles)) same

settles_if_right : (whose : List Clients) (posted : Result ℕ PostFault) (s : Stage) (acts : List Act) (t : Stage) → clients_in s.speakers ≡ whose → SettlesIf posted s acts t → Rights whose acts t
settles_if_right whose (Ok n) s acts t at settles = settles_stage whose s acts t at settles
settles_if_right whose (Err fault) s acts t at (none, same) = rights_none whose s t acts at none same

posts_right : (whose : List Clients) (k : ℕ) (sp : Speaker) (mark : Option (List ℕ)) (client : ℕ) (order : Order) (s : Stage) (acts : List Act) (t : Stage) → clients_in s.speakers ≡ whose → slice_get whose k ≡ Some sp.clients
    → Posts k sp mark client order s acts t → Rights whose acts t
posts_right whose k sp mark client order s acts t at own posts =
    rights-then whose posts.one t acts posts.first (posts.second ++ posts.third) posts.parts
    (record { right = posted-right whose client order posts.posted posts.note posts.new s.at.fleet.talk posts.first posts.one.at.fleet.talk posts.is; same = ap (λ (x : Stage). clients_in x.speakers) posts.same ∙ at })
    (λ one. rights-then whose posts.two t (posts.second ++ posts.third) posts.second posts.third refl (answers_right whose k sp _ posts.one posts.second posts.two one own posts.answers)
    (λ two. settles_if_right whose posts.posted posts.two posts.third t two posts.settles))

shuts_right : (whose : List Clients) (k : ℕ) (sp : Speaker) (mark : Option (List ℕ)) (robot : ℕ) (s : Stage) (acts : List Act) (t : Stage) → clients_in s.speakers ≡ whose → slice_get whose k ≡ Some sp.clients → ShutsOne k sp mark robot s acts t
    → Rights whose acts t
shuts_right whose k sp mark robot s acts t at own shuts =
    rights-then whose shuts.mid t acts shuts.first shuts.second shuts.parts (rights_at whose s shuts.mid shuts.first at (shut-right whose robot shuts.shuts.reply s.at shuts.first shuts.mid.at shuts.shuts.step) shuts.same)
    (λ mid. answers_right whose k sp _ shuts.mid shuts.second t mid own shuts.answers)

chapter_right : (whose : List Clients) (k : ℕ) (sp : Speaker) (mark : Option (List ℕ)) (s : Stage) (acts : List Act) (t : Stage) → clients_in s.speakers ≡ whose → slice_get whose k ≡ Some sp.clients → TurnsChapter k sp mark s acts t → Rights whose acts t
chapter_right whose k sp mark s acts t at own (asking.handed hands left keeping same) = rights_rest whose s t acts k (resting sp left) at own (hands-right whose true s.at acts t.at hands) same
chapter_right whose k sp mark s acts t at own (asking.last is answers) = answers_right whose k sp _ s acts t at own answers

grants_right : (whose : List Clients) (k : ℕ) (sp : Speaker) (mark : Option (List ℕ)) (asked : Wanted) (s : Stage) (acts : List Act) (t : Stage) → clients_in s.speakers ≡ whose → slice_get whose k ≡ Some sp.clients → Grants k sp mark asked s acts t
    → Rights whose acts t
grants_right whose k sp mark (wanted.Shut robot) s acts t at own shuts = shuts_right whose k sp mark robot s acts t at own shuts
grants_right whose k sp mark wanted.Look s acts t at own (text, look, answers) = answers_right whose k sp _ s acts t at own answers
grants_right whose k sp mark wanted.Chapter s acts t at own chapter = chapter_right whose k sp mark s acts t at own chapter
grants_right whose k sp mark (wanted.Tick times) s acts t at own (left, ticking, none, same) =
    record { right = right-none whose acts none; same = ap (λ (x : Stage). clients_in x.speakers) same ∙ kept_set whose s.speakers k (resting sp left) at own }
grants_right whose k sp mark (wanted.Open client) s acts t at own (none, same) = rights_none whose s t acts at none same
grants_right whose k sp mark wanted.Settle s acts t at own (none, same) = rights_none whose s t acts at none same

opens_right : (whose : List Clients) (k : ℕ) (sp : Speaker) (mark : Option (List ℕ)) (client : ℕ) (s : Stage) (acts : List Act) (t : Stage) → clients_in s.speakers ≡ whose → slice_get whose k ≡ Some sp.clients → Opens k sp mark client s acts t → Rights whose acts t
opens_right whose k sp mark client s acts t at own opens =
    let settled = settles_stage whose s acts opens.mid at opens.settles in
    record { right = settled.right; same = ap (λ (x : Stage). clients_in x.speakers) opens.is ∙ kept_set whose opens.mid.speakers k (resting sp opens.left) settled.same own }

ends_right : (whose : List Clients) (s : Stage) (acts : List Act) (t : Stage) → clients_in s.speakers ≡ whose → Ends s acts t → Rights whose acts t
ends_right whose s acts t at ends = record {
  right = right-range whose TakesLeft 0 s.clients (λ n above below a acts b one. right-if whose (IsClosing n) (closing-right whose n) acts one.only) s.at acts t.at ends.takes;
  same = ap (λ (x : Stage). clients_in x.speakers) ends.same ∙ (ended_same s.speakers ∙ at);
}

if_own_right : (whose : List Clients) (own_client : Bool) (P : Type 0) (k : ℕ) (sp : Speaker) (mark : Option (List ℕ)) (client : ℕ) (s : Stage) (acts : List Act) (t : Stage) → clients_in s.speakers ≡ whose → slice_get whose k ≡ Some sp.clients
    → (P → Rights whose acts t) → IfOwn own_client P k sp mark client s acts t → Rights whose acts t
if_own_right whose true P k sp mark client s acts t at own rights is = rights is
if_own_right whose false P k sp mark client s acts t at own rights answers = answers_right whose k sp _ s acts t at own answers

let_in_right : (whose : List Clients) (is : Bool) (P : Type 0) (k : ℕ) (sp : Speaker) (text : List ℕ) (s : Stage) (acts : List Act) (t : Stage) → clients_in s.speakers ≡ whose → slice_get whose k ≡ Some sp.clients
    → (P → Rights whose acts t) → MatchBool is P (Answers k sp text s acts t) → Rights whose acts t
let_in_right whose true P k sp text s acts t at own rights is = rights is
let_in_right whose false P k sp text s acts t at own rights answers = answers_right whose k sp text s acts t at own answers

posts_as_right : (whose : List Clients) (k : ℕ) (sp : Speaker) (mark : Option (List ℕ)) (post : Numbered) (s : Stage) (acts : List Act) (t : Stage) → clients_in s.speakers ≡ whose → slice_get whose k ≡ Some sp.clients → PostsAs k sp mark post s acts t
    → Rights whose acts t
posts_as_right whose k sp mark post s acts t at own is =
    let_in_right whose (next_order s.notes post.client == post.number) (PostsLetIn k sp mark post.client post.order s acts t) k sp _ s acts t at own
    (λ posts. let_in_right whose (is_let_in s.door.refused post.order) (Posts k sp mark post.client post.order s acts t) k sp _ s acts t at own (posts_right whose k sp mark post.client post.order s acts t at own) posts) is

obeys_right : (whose : List Clients) (k : ℕ) (sp : Speaker) (line : Line) (asked : Demand) (s : Stage) (acts : List Act) (t : Stage) → clients_in s.speakers ≡ whose → slice_get whose k ≡ Some sp.clients → Obeys k sp line asked s acts t → Rights whose acts t
obeys_right whose k sp line demand.Nothing s acts t at own (none, same) = rights_none whose s t acts at none same
obeys_right whose k sp line (demand.Post client order) s acts t at own hears =
    if_own_right whose (is_own sp.clients s.clients client) _ k sp line.mark client s acts t at own (λ posts. posts_right whose k sp line.mark client order s acts t at own posts) hears
obeys_right whose k sp line (demand.PostAs post) s acts t at own hears =
    if_own_right whose (is_own sp.clients s.clients post.client) _ k sp line.mark post.client s acts t at own (λ posts. posts_as_right whose k sp line.mark post s acts t at own posts) hears
obeys_right whose k sp line (demand.NoRoom client) s acts t at own hears =
    if_own_right whose (is_own sp.clients s.clients client) _ k sp line.mark client s acts t at own (λ answers. answers_right whose k sp _ s acts t at own answers) hears
obeys_right whose k sp line (demand.Open client) s acts t at own hears =
    if_own_right whose (is_own sp.clients s.clients client) _ k sp line.mark client s acts t at own (λ opens. opens_right whose k sp line.mark client s acts t at own opens) hears
obeys_right whose k sp line (demand.Session client) s acts t at own hears =
    if_own_right whose (is_own sp.clients s.clients client) _ k sp line.mark client s acts t at own (λ answers. answers_right whose k sp _ s acts t at own answers) hears
obeys_right whose k sp line (demand.Since client seq) s acts t at own hears =
    if_own_right whose (is_own sp.clients s.clients client) _ k sp line.mark client s acts t at own (λ answers. answers_right whose k sp _ s acts t at own answers) hears
obeys_right whose k sp line demand.Hello s acts t at own answers = answers_right whose k sp _ s acts t at own answers
obeys_right whose k sp line demand.Robots s acts t at own (left, robots, none, same) =
    record { right = right-none whose acts none; same = ap (λ (x : Stage). clients_in x.speakers) same ∙ kept_set whose s.speakers k (resting sp left) at own }
obeys_right whose k sp line (demand.Ask asked) s acts t at own grants = grants_right whose k sp line.mark asked s acts t at own grants
obeys_right whose k sp line (demand.Watch on) s acts t at own answers =
    answers_right whose k (record sp { watching = on }) _ (with_speaker s k (record sp { watching = on })) acts t (kept_set whose s.speakers k (record sp { watching = on }) at own) own answers
obeys_right whose k sp line demand.Quit s acts t at own ends = ends_right whose s acts t at ends
obeys_right whose k sp line demand.Bad s acts t at own answers = answers_right whose k sp _ s acts t at own answers

-- ---- answers that go on

ticks_then_right : (whose : List Clients) (is : Bool) (k : ℕ) (sp : Speaker) (mark : Option (Vec ℕ Global)) (left : ℕ) (reply : Reply) (s : Stage) (acts : List Act) (t : Stage) → clients_in s.speakers ≡ whose → slice_get whose k ≡ Some sp.clients
    → TicksThen is k sp mark left reply s acts t → Rights whose acts t
ticks_then_right whose true k sp mark left reply s acts t at own (shows, same) = rights_rest whose s t acts k _ at own (shows-right whose s.speakers s.at acts t.at shows) same
ticks_then_right whose false k sp mark left reply s acts t at own answers = answers_right whose k sp _ s acts t at own answers

ticks_right : (whose : List Clients) (k : ℕ) (sp : Speaker) (mark : Option (Vec ℕ Global)) (left : ℕ) (s : Stage) (acts : List Act) (t : Stage) → clients_in s.speakers ≡ whose → slice_get whose k ≡ Some sp.clients → TicksOnce k sp mark left s acts t
    → Rights whose acts t
ticks_right whose k sp mark left s acts t at own ticks =
    rights-then whose ticks.mid t acts ticks.first ticks.second ticks.parts
    (rights_at whose s ticks.mid ticks.first at (of_own whose s ticks.first at (turns-right s.speakers s.clients ticks.reply s.at ticks.first ticks.mid.at ticks.turns)) ticks.same)
    (λ mid. ticks_then_right whose (goes_on ticks.reply left) k sp mark left ticks.reply ticks.mid ticks.second t mid own ticks.goes)

ended_or_right : (whose : List Clients) (is : Bool) (s t : Stage) (acts : List Act) (k : ℕ) (sp : Speaker) → clients_in s.speakers ≡ whose → slice_get whose k ≡ Some sp.clients → Right whose acts
    → t ≡ (if is then with_rest (with_at s t.at) k sp rest.Ended else with_at s t.at) → Rights whose acts t
ended_or_right whose true s t acts k sp at own right same = rights_rest whose s t acts k (resting sp rest.Ended) at own right same
ended_or_right whose false s t acts k sp at own right same = rights_at whose s t acts at right same

tells_rest_right : (whose : List Clients) (k : ℕ) (sp : Speaker) (s : Stage) (acts : List Act) (t : Stage) → clients_in s.speakers ≡ whose → slice_get whose k ≡ Some sp.clients → TellsRest k sp s acts t → Rights whose acts t
tells_rest_right whose k sp s acts t at own (resting_as.full tells is same) = rights_at whose s t acts at (tells-clients-right whose k sp.clients own s.at acts t.at tells) same
tells_rest_right whose k sp s acts t at own (resting_as.all mid first last is tells says parts same) =
    ended_or_right whose is s t acts k sp at own (right-then whose acts first last parts (tells-whole-right whose k sp.clients own s.at first mid tells) (says-right whose is k _ mid last t.at says)) same

continues_right : (whose : List Clients) (left : Rest) (k : ℕ) (sp : Speaker) (s : Stage) (acts : List Act) (t : Stage) → clients_in s.speakers ≡ whose → slice_get whose k ≡ Some sp.clients → Continues left k sp s acts t → Rights whose acts t
continues_right whose rest.Nothing k sp s acts t at own (none, same) = rights_none whose s t acts at none same
continues_right whose (rest.Line line) k sp s acts t at own answers = answers_right whose k sp line.items s acts t at own answers
continues_right whose (rest.Ticking mark left) k sp s acts t at own ticks = ticks_right whose k sp mark left s acts t at own ticks
continues_right whose (rest.Listing list) k sp s acts t at own (is, left, lists, same, says) = rights_rest whose s t acts k (resting sp left) at own (says-right whose is k _ s.at acts t.at says) same
continues_right whose (rest.Keeping mark chapter entries) k sp s acts t at own (none, same) = rights_none whose s t acts at none same
continues_right whose rest.Ending k sp s acts t at own tells = tells_rest_right whose k sp s acts t at own tells
continues_right whose rest.Ended k sp s acts t at own (none, same) = rights_none whose s t acts at none same

match_bool : (is : Bool) (P Q R : Type 0) → (P → R) → (Q → R) → MatchBool is P Q → R
match_bool true P Q R one two it = one it
match_bool false P Q R one two it = two it

kept_right : (whose : List Clients) (left : Rest) (number k : ℕ) (sp : Speaker) (s : Stage) (acts : List Act) (t : Stage) → clients_in s.speakers ≡ whose → slice_get whose k ≡ Some sp.clients → KeptFor left number k sp s acts t → Rights whose acts t
kept_right whose (rest.Keeping mark n entries) number k sp s acts t at own kept =
    match_bool (n == number) _ _ (Rights whose acts t) (λ answers. answers_right whose k sp _ s acts t at own answers) (λ same. rights_none whose s t acts at same.0 same.1) kept
kept_right whose rest.Nothing number k sp s acts t at own (none, same) = rights_none whose s t acts at none same
kept_right whose (rest.Line line) number k sp s acts t at own (none, same) = rights_none whose s t acts at none same
kept_right whose (rest.Ticking mark left) number k sp s acts t at own (none, same) = rights_none whose s t acts at none same
kept_right whose (rest.Listing list) number k sp s acts t at own (none, same) = rights_none whose s t acts at none same
kept_right whose rest.Ending number k sp s acts t at own (none, same) = rights_none whose s t acts at none same
kept_right whose rest.Ended number k sp s acts t at own (none, same) = rights_none whose s t acts at none same

-- ---- events

-- the conversation that is there speaks for its clients
own_there : (whose : List Clients) (s : Stage) (k : ℕ) (sp : Speaker) → clients_in s.speakers ≡ whose → slice_get s.speakers k ≡ Some sp → slice_get whose k ≡ Some sp.clients
own_there whose s k sp at there = ap (λ (w : List Clients). slice_get w k) (sym at) ∙ there-in s.speakers k sp there

notes_right : (whose : List Clients) (chapter : ℕ) (numbers : List ℕ) (s : Stage) (acts : List Act) (t : Stage) → clients_in s.speakers ≡ whose → Each (KeptAt chapter) numbers s acts t → Rights whose acts t
notes_right whose chapter [] s acts t at (none, same) = rights_none whose s t acts at none same
notes_right whose chapter (n ∷ numbers) s acts t at parts =
    let (sp, there, kept) = parts.before in
    rights-then whose parts.mid t acts parts.first parts.rest parts.parts (kept_right whose sp.rest chapter n sp s parts.first parts.mid at (own_there whose s n sp at there) kept)
    (λ mid. notes_right whose chapter numbers parts.mid parts.rest t mid parts.after)

shows_turn_right : (whose : List Clients) (is : Bool) (s : Stage) (acts : List Act) (t : Stage) → clients_in s.speakers ≡ whose → ShowsTurn is s acts t → Rights whose acts t
shows_turn_right whose true s acts t at (shows, same) = rights_at whose s t acts at (shows-right whose s.speakers s.at acts t.at shows) same
shows_turn_right whose false s acts t at (none, same) = record { right = right-none whose acts none; same = ap (λ (x : Stage). clients_in x.speakers) same ∙ at }

hands_due_right : (whose : List Clients) (none : Bool) (s : Stage) (acts : List Act) (t : Stage) → clients_in s.speakers ≡ whose → HandsDue none s acts t → Rights whose acts t
hands_due_right whose true s acts t at (none, same) = rights_none whose s t acts at none same
hands_due_right whose false s acts t at (is, hands, same) = rights_at whose s t acts at (hands-right whose is s.at acts t.at hands) same

ends_answer_right : (whose : List Clients) (is : Bool) (k : ℕ) (m t : Stage) (acts : List Act) → Rights whose acts m → EndsAnswer is k m t → Rights whose acts t
ends_answer_right whose true k m t acts rights (sp, there, same) =
    record { right = rights.right; same = ap (λ (x : Stage). clients_in x.speakers) same ∙ kept_set whose m.speakers k (at_end sp) rights.same (own_there whose m k sp rights.same there) }
ends_answer_right whose false k m t acts rights same = subst (λ (x : Stage). Rights whose acts x) (sym same) rights

pub does-right : (whose : List Clients) (s : Stage) (event : Heard) (acts : List Act) (t : Stage) → clients_in s.speakers ≡ whose → Does s event acts t → Rights whose acts t
does-right whose s (heard.line from bytes) acts t at hears =
    let own = own_there whose s from hears.before at hears.speaks ∙ ap (λ (x : Speaker). Some x.clients) (sym hears.counts) in
    obeys_right whose from hears.speaker hears.line _ (with_speaker s from hears.speaker) acts t (kept_set whose s.speakers from hears.speaker at own) own hears.obeys
does-right whose s (heard.room to) acts t at (tells, same) = rights_at whose s t acts at (of_own whose s acts at (tells-at-right s.speakers to s.at acts t.at tells)) same
does-right whose s (heard.rest from) acts t at (mid, (sp, there, continues), ends) =
    ends_answer_right whose mid.has_ended from mid t acts (continues_right whose sp.rest from sp s acts mid at (own_there whose s from sp at there) continues) ends
does-right whose s (heard.last from) acts t at (none, (sp, there, same)) = rights_set whose s t acts from (resting sp (last_turn sp.rest)) at (own_there whose s from sp at there) none same
does-right whose s heard.turn acts t at turns =
    rights-then whose turns.mid t acts turns.first turns.second turns.parts
    (rights_at whose s turns.mid turns.first at (of_own whose s turns.first at (turns-right s.speakers s.clients turns.reply s.at turns.first turns.mid.at turns.turns)) turns.same)
    (λ mid. shows_turn_right whose (is_ticked turns.reply) turns.mid turns.second t mid turns.shows)
does-right whose s heard.due acts t at hands = hands_due_right whose _ s acts t at hands
does-right whose s (heard.kept chapter) acts t at notes = notes_right whose chapter (range_with_len 0 (length s.speakers)) s acts t at notes
does-right whose s heard.end acts t at ends = ends_right whose s acts t at ends
