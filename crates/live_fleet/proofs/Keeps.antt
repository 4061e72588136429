-- What each part of what a fleet does keeps, and that it went on so.
use Rattle.std.proofs.Common.{◌≡◌, ◌∙◌, ℕ, ◌+◌, Bool, true, false, List, [], ◌∷◌, ◌++◌, length, Option, Result, Ok, Err, Vec, refl, sym, ap, subst}
use Rattle.std.specs.Prelude.{MatchBool, ◌==◌, if◌then◌else◌}
use Rattle.std.specs.List.{range_with_len}
use Rattle.std.specs.declared.alloc.Global.{Global}
use Rattle.std.proofs.lemmas.List.{length-map, length-set}
use Rattle.fleet_book.specs.declared.event.Event.TheVariants.{Shut}
use Rattle.fleet_book.specs.declared.order.Order.{Order}
use Rattle.fleet_lanes.specs.declared.fault.PostFault.{PostFault}
use Rattle.fleet_talk.specs.Ask.{Line}
use Rattle.fleet_world.specs.declared.reply.Reply.{Reply}
use Rattle.live_parts.specs.declared.demand.Demand.{Demand}
use Rattle.live_parts.specs.declared.demand.Demand.TheVariants as demand
use Rattle.live_parts.specs.declared.demand.Numbered.{Numbered}
use Rattle.live_parts.specs.declared.demand.Wanted.{Wanted}
use Rattle.live_parts.specs.declared.demand.Wanted.TheVariants as wanted
use Rattle.live_fleet.specs.declared.rest.Rest.{Rest}
use Rattle.live_fleet.specs.declared.rest.Rest.TheVariants as rest
use Rattle.live_fleet.specs.declared.speaker.Speaker.{Speaker}
use Rattle.live_fleet.specs.Act.{Act}
use Rattle.live_fleet.specs.Answering.{Answers, at_once, waits}
use Rattle.live_fleet.specs.Asking.{Grants, ShutsOne, TurnsChapter}
use Rattle.live_fleet.specs.Asking as asking
use Rattle.live_fleet.specs.Does.{Does, HandsDue, PlaysUnread, ShowsTurn}
use Rattle.live_fleet.specs.Ending.{Ends, TakesLeft, at_end}
use Rattle.live_fleet.specs.Hearing.{Obeys, Opens}
use Rattle.live_fleet.specs.Numbered.{PostsAs, PostsLetIn, is_let_in, next_order}
use Rattle.live_fleet.specs.Own.{IfOwn, is_own}
use Rattle.live_fleet.specs.Party.{Heard, Stage, with_at, with_rest, with_speaker, resting}
use Rattle.live_fleet.specs.Party as heard
use Rattle.live_fleet.specs.Posting.{Posts, SettlesAll, SettlesIf}
use Rattle.live_fleet.specs.Resting.{Continues, EndsAnswer, KeptAt, KeptFor, TellsRest, TicksOnce, TicksThen, goes_on, last_turn}
use Rattle.live_fleet.specs.Resting as resting_as
use Rattle.live_fleet.specs.Turning.{is_ticked}
use Rattle.live_fleet.specs.Went.{At, Each, Went}
use Rattle.live_fleet.proofs.Going.{went-then}
use Rattle.live_fleet.proofs.Parts.{each-went}
use Rattle.live_fleet.proofs.Steps.{steps-went}
use Rattle.live_fleet.proofs.Fleets.{hands-went, none-went, says-that-went, settles-went, shows-went, tells-at-went, tells-clients-went, tells-whole-went, turns-went}

-- it went on by these acts, over the same conversations and clients
pub record Keeps (s : Stage) (acts : List Act) (t : Stage) : Type 0 where
  pub went : Went s.at acts t.at
  pub speakers : length t.speakers ≡ length s.speakers
  pub notes : length t.notes ≡ length s.notes
  pub clients : t.clients ≡ s.clients
  pub door : t.door ≡ s.door

keeps_none : (s t : Stage) (acts : List Act) → acts ≡ [] → t ≡ s → Keeps s acts t
keeps_none s t acts none same = record {
  went = none-went s.at t.at acts none (ap (λ (x : Stage). x.at) same);
  speakers = ap (λ (x : Stage). length x.speakers) same;
  notes = ap (λ (x : Stage). length x.notes) same;
  clients = ap (λ (x : Stage). x.clients) same;
  door = ap (λ (x : Stage). x.door) same;
}

keeps_then : (s m t : Stage) (acts xs ys : List Act) → acts ≡ xs ++ ys → Keeps s xs m → Keeps m ys t → Keeps s acts t
keeps_then s m t acts xs ys is one two = record {
  went = subst (λ (l : List Act). Went s.at l t.at) (sym is) (went-then s.at m.at t.at xs ys one.went two.went);
  speakers = two.speakers ∙ one.speakers;
  notes = two.notes ∙ one.notes;
  clients = two.clients ∙ one.clients;
  door = two.door ∙ one.door;
}

keeps_at : (s t : Stage) (acts : List Act) → Went s.at acts t.at → t ≡ with_at s t.at → Keeps s acts t
keeps_at s t acts went same = record {
  went = went;
  speakers = ap (λ (x : Stage). length x.speakers) same;
  notes = ap (λ (x : Stage). length x.notes) same;
  clients = ap (λ (x : Stage). x.clients) same;
  door = ap (λ (x : Stage). x.door) same;
}

keeps_rest : (s t : Stage) (acts : List Act) (k : ℕ) (sp : Speaker) → Went s.at acts t.at → t ≡ with_speaker (with_at s t.at) k sp → Keeps s acts t
keeps_rest s t acts k sp went same = record {
  went = went;
  speakers = ap (λ (x : Stage). length x.speakers) same ∙ length-set s.speakers k sp;
  notes = ap (λ (x : Stage). length x.notes) same;
  clients = ap (λ (x : Stage). x.clients) same;
  door = ap (λ (x : Stage). x.door) same;
}

-- a conversation is changed, and nothing is done
keeps_set : (s t : Stage) (acts : List Act) (k : ℕ) (sp : Speaker) → acts ≡ [] → t ≡ with_speaker s k sp → Keeps s acts t
keeps_set s t acts k sp none same = record {
  went = none-went s.at t.at acts none (ap (λ (x : Stage). x.at) same);
  speakers = ap (λ (x : Stage). length x.speakers) same ∙ length-set s.speakers k sp;
  notes = ap (λ (x : Stage). length x.notes) same;
  clients = ap (λ (x : Stage). x.clients) same;
  door = ap (λ (x : Stage). x.door) same;
}

-- a stage on which a conversation was changed first
keeps_from : (s t : Stage) (acts : List Act) (k : ℕ) (sp : Speaker) → Keeps (with_speaker s k sp) acts t → Keeps s acts t
keeps_from s t acts k sp keeps = record {
  went = keeps.went;
  speakers = keeps.speakers ∙ length-set s.speakers k sp;
  notes = keeps.notes;
  clients = keeps.clients;
  door = keeps.door;
}

answers-keeps : (k : ℕ) (sp : Speaker) (text : List ℕ) (s : Stage) (acts : List Act) (t : Stage) → Answers k sp text s acts t → Keeps s acts t
answers-keeps k sp text s acts t (at_once fits is went same) = keeps_rest s t acts k (resting sp rest.Nothing) went same
answers-keeps k sp text s acts t (waits full none left waiting same) =
    let at : t.at ≡ s.at = ap (λ (x : Stage). x.at) same in
    keeps_rest s t acts k (resting sp left) (none-went s.at t.at acts none at) (same ∙ ap (λ (a : At). with_speaker (with_at s a) k (resting sp left)) (sym at))

settles-keeps : (s : Stage) (acts : List Act) (t : Stage) → SettlesAll s acts t → Keeps s acts t
settles-keeps s acts t (settles, same) = keeps_at s t acts (settles-went s.speakers s.clients s.at acts t.at settles) same

settles_if : (posted : Result ℕ PostFault) (s : Stage) (acts : List Act) (t : Stage) → SettlesIf posted s acts t → Keeps s acts t
settles_if (Ok n) s acts t settles = settles-keeps s acts t settles
settles_if (Err fault) s acts t (none, same) = keeps_none s t acts none same

posts-keeps : (k : ℕ) (sp : Speaker) (mark : Option (List ℕ)) (client : ℕ) (order : Order) (s : Stage) (acts : List Act) (t : Stage) → Posts k sp mark client order s acts t → Keeps s acts t
posts-keeps k sp mark client order s acts t posts =
    let same = posts.same in
    let one : Keeps s posts.first posts.one = record {
      went = posts.went;
      speakers = ap (λ (x : Stage). length x.speakers) same;
      notes = ap (λ (x : Stage). length x.notes) same ∙ length-set s.notes client posts.new;
      clients = ap (λ (x : Stage). x.clients) same;
      door = ap (λ (x : Stage). x.door) same;
    } in
    keeps_then s posts.one t acts posts.first (posts.second ++ posts.third) posts.parts one
    (keeps_then posts.one posts.two t (posts.second ++ posts.third) posts.second posts.third refl (answers-keeps k sp _ posts.one posts.second posts.two posts.answers) (settles_if posts.posted posts.two posts.third t posts.settles))

shuts-keeps : (k : ℕ) (sp : Speaker) (mark : Option (List ℕ)) (robot : ℕ) (s : Stage) (acts : List Act) (t : Stage) → ShutsOne k sp mark robot s acts t → Keeps s acts t
shuts-keeps k sp mark robot s acts t shuts =
    keeps_then s shuts.mid t acts shuts.first shuts.second shuts.parts (keeps_at s shuts.mid shuts.first (steps-went (Shut robot) shuts.shuts.reply s.at shuts.first shuts.mid.at shuts.shuts.step) shuts.same)
    (answers-keeps k sp _ shuts.mid shuts.second t shuts.answers)

chapter-keeps : (k : ℕ) (sp : Speaker) (mark : Option (List ℕ)) (s : Stage) (acts : List Act) (t : Stage) → TurnsChapter k sp mark s acts t → Keeps s acts t
chapter-keeps k sp mark s acts t (asking.handed hands left keeping same) = keeps_rest s t acts k (resting sp left) (hands-went true s.at acts t.at hands) same
chapter-keeps k sp mark s acts t (asking.last is answers) = answers-keeps k sp _ s acts t answers

grants-keeps : (k : ℕ) (sp : Speaker) (mark : Option (List ℕ)) (asked : Wanted) (s : Stage) (acts : List Act) (t : Stage) → Grants k sp mark asked s acts t → Keeps s acts t
grants-keeps k sp mark (wanted.Shut robot) s acts t shuts = shuts-keeps k sp mark robot s acts t shuts
grants-keeps k sp mark wanted.Look s acts t (text, look, answers) = answers-keeps k sp _ s acts t answers
grants-keeps k sp mark wanted.Chapter s acts t chapter = chapter-keeps k sp mark s acts t chapter
grants-keeps k sp mark (wanted.Tick times) s acts t (left, ticking, none, same) =
    let at : t.at ≡ s.at = ap (λ (x : Stage). x.at) same in
    keeps_rest s t acts k (resting sp left) (none-went s.at t.at acts none at) (same ∙ ap (λ (a : At). with_speaker (with_at s a) k (resting sp left)) (sym at))
grants-keeps k sp mark (wanted.Open client) s acts t (none, same) = keeps_none s t acts none same
grants-keeps k sp mark wanted.Settle s acts t (none, same) = keeps_none s t acts none same

opens-keeps : (k : ℕ) (sp : Speaker) (mark : Option (List ℕ)) (client : ℕ) (s : Stage) (acts : List Act) (t : Stage) → Opens k sp mark client s acts t → Keeps s acts t
opens-keeps k sp mark client s acts t opens =
    let settled = settles-keeps s acts opens.mid opens.settles in
    let is = opens.is in
    record {
      went = subst (λ (a : At). Went s.at acts a) (sym (ap (λ (x : Stage). x.at) is)) settled.went;
      speakers = ap (λ (x : Stage). length x.speakers) is ∙ (length-set opens.mid.speakers k (resting sp opens.left) ∙ settled.speakers);
      notes = ap (λ (x : Stage). length x.notes) is ∙ settled.notes;
      clients = ap (λ (x : Stage). x.clients) is ∙ settled.clients;
      door = ap (λ (x : Stage). x.door) is ∙ settled.door;
    }

ends-keeps : (s : Stage) (acts : List Act) (t : Stage) → Ends s acts t → Keeps s acts t
ends-keeps s acts t ends = record {
  went = each-went TakesLeft (λ n a acts b one. one.went) (range_with_len 0 s.clients) s.at acts t.at ends.takes;
  speakers = ap (λ (x : Stage). length x.speakers) ends.same ∙ length-map s.speakers at_end;
  notes = ap (λ (x : Stage). length x.notes) ends.same;
  clients = ap (λ (x : Stage). x.clients) ends.same;
  door = ap (λ (x : Stage). x.door) ends.same;
}

if_own : (own : Bool) (P : Type 0) (k : ℕ) (sp : Speaker) (mark : Option (List ℕ)) (client : ℕ) (s : Stage) (acts : List Act) (t : Stage) → (P → Keeps s acts t) → IfOwn own P k sp mark client s acts t → Keeps s acts t
if_own true P k sp mark client s acts t keeps is = keeps is
if_own false P k sp mark client s acts t keeps answers = answers-keeps k sp _ s acts t answers

let_in : (is : Bool) (P : Type 0) (k : ℕ) (sp : Speaker) (text : List ℕ) (s : Stage) (acts : List Act) (t : Stage) → (P → Keeps s acts t) → MatchBool is P (Answers k sp text s acts t) → Keeps s acts t
let_in true P k sp text s acts t keeps is = keeps is
let_in false P k sp text s acts t keeps answers = answers-keeps k sp text s acts t answers

posts-as-keeps : (k : ℕ) (sp : Speaker) (mark : Option (List ℕ)) (post : Numbered) (s : Stage) (acts : List Act) (t : Stage) → PostsAs k sp mark post s acts t → Keeps s acts t
posts-as-keeps k sp mark post s acts t is =
    let_in (next_order s.notes post.client == post.number) (PostsLetIn k sp mark post.client post.order s acts t) k sp _ s acts t
    (λ posts. let_in (is_let_in s.door.refused post.order) (Posts k sp mark post.client post.order s acts t) k sp _ s acts t (posts-keeps k sp mark post.client post.order s acts t) posts) is

-- a conversation is left with something to say, and nothing is done
keeps_left : (s t : Stage) (acts : List Act) (k : ℕ) (sp : Speaker) (left : Rest) → acts ≡ [] → t ≡ with_rest s k sp left → Keeps s acts t
keeps_left s t acts k sp left none same =
    let at : t.at ≡ s.at = ap (λ (x : Stage). x.at) same in
    keeps_rest s t acts k (resting sp left) (none-went s.at t.at acts none at) (same ∙ ap (λ (a : At). with_speaker (with_at s a) k (resting sp left)) (sym at))

obeys-keeps : (k : ℕ) (sp : Speaker) (line : Line) (asked : Demand) (s : Stage) (acts : List Act) (t : Stage) → Obeys k sp line asked s acts t → Keeps s acts t
obeys-keeps k sp line demand.Nothing s acts t (none, same) = keeps_none s t acts none same
obeys-keeps k sp line (demand.Post client order) s acts t hears = if_own (is_own sp.clients s.clients client) _ k sp line.mark client s acts t (λ posts. posts-keeps k sp line.mark client order s acts t posts) hears
obeys-keeps k sp line (demand.PostAs post) s acts t hears = if_own (is_own sp.clients s.clients post.client) _ k sp line.mark post.client s acts t (λ posts. posts-as-keeps k sp line.mark post s acts t posts) hears
obeys-keeps k sp line (demand.NoRoom client) s acts t hears = if_own (is_own sp.clients s.clients client) _ k sp line.mark client s acts t (λ answers. answers-keeps k sp _ s acts t answers) hears
obeys-keeps k sp line (demand.Open client) s acts t hears = if_own (is_own sp.clients s.clients client) _ k sp line.mark client s acts t (λ opens. opens-keeps k sp line.mark client s acts t opens) hears
obeys-keeps k sp line (demand.Session client) s acts t hears = if_own (is_own sp.clients s.clients client) _ k sp line.mark client s acts t (λ answers. answers-keeps k sp _ s acts t answers) hears
obeys-keeps k sp line (demand.Since client seq) s acts t hears = if_own (is_own sp.clients s.clients client) _ k sp line.mark client s acts t (λ answers. answers-keeps k sp _ s acts t answers) hears
obeys-keeps k sp line demand.Hello s acts t answers = answers-keeps k sp _ s acts t answers
obeys-keeps k sp line demand.Robots s acts t (left, robots, none, same) = keeps_left s t acts k sp left none same
obeys-keeps k sp line (demand.Ask asked) s acts t grants = grants-keeps k sp line.mark asked s acts t grants
obeys-keeps k sp line (demand.Watch on) s acts t answers =
    keeps_from s t acts k (record sp { watching = on }) (answers-keeps k (record sp { watching = on }) _ (with_speaker s k (record sp { watching = on })) acts t answers)
obeys-keeps k sp line demand.Quit s acts t ends = ends-keeps s acts t ends
obeys-keeps k sp line demand.Bad s acts t answers = answers-keeps k sp _ s acts t answers

-- ---- answers that go on

ticks_then : (is : Bool) (k : ℕ) (sp : Speaker) (mark : Option (Vec ℕ Global)) (left : ℕ) (reply : Reply) (s : Stage) (acts : List Act) (t : Stage) → TicksThen is k sp mark left reply s acts t → Keeps s acts t
ticks_then true k sp mark left reply s acts t (shows, same) = keeps_rest s t acts k _ (shows-went s.speakers s.at acts t.at shows) same
ticks_then false k sp mark left reply s acts t answers = answers-keeps k sp _ s acts t answers

ticks-keeps : (k : ℕ) (sp : Speaker) (mark : Option (Vec ℕ Global)) (left : ℕ) (s : Stage) (acts : List Act) (t : Stage) → TicksOnce k sp mark left s acts t → Keeps s acts t
ticks-keeps k sp mark left s acts t ticks =
    keeps_then s ticks.mid t acts ticks.first ticks.second ticks.parts (keeps_at s ticks.mid ticks.first (turns-went s.speakers s.clients ticks.reply s.at ticks.first ticks.mid.at ticks.turns) ticks.same)
    (ticks_then (goes_on ticks.reply left) k sp mark left ticks.reply ticks.mid ticks.second t ticks.goes)

ended_or : (is : Bool) (s t : Stage) (acts : List Act) (k : ℕ) (sp : Speaker) → Went s.at acts t.at → t ≡ (if is then with_rest (with_at s t.at) k sp rest.Ended else with_at s t.at) → Keeps s acts t
ended_or true s t acts k sp went same = keeps_rest s t acts k (resting sp rest.Ended) went same
ended_or false s t acts k sp went same = keeps_at s t acts went same

tells-rest-keeps : (k : ℕ) (sp : Speaker) (s : Stage) (acts : List Act) (t : Stage) → TellsRest k sp s acts t → Keeps s acts t
tells-rest-keeps k sp s acts t (resting_as.full tells is same) = keeps_at s t acts (tells-clients-went k sp.clients s.at acts t.at tells) same
tells-rest-keeps k sp s acts t (resting_as.all mid first last is tells says parts same) =
    ended_or is s t acts k sp (subst (λ (l : List Act). Went s.at l t.at) (sym parts) (went-then s.at mid t.at first last (tells-whole-went k sp.clients s.at first mid tells) (says-that-went is k _ mid last t.at says))) same

continues-keeps : (left : Rest) (k : ℕ) (sp : Speaker) (s : Stage) (acts : List Act) (t : Stage) → Continues left k sp s acts t → Keeps s acts t
continues-keeps rest.Nothing k sp s acts t (none, same) = keeps_none s t acts none same
continues-keeps (rest.Line line) k sp s acts t answers = answers-keeps k sp line.items s acts t answers
continues-keeps (rest.Ticking mark left) k sp s acts t ticks = ticks-keeps k sp mark left s acts t ticks
continues-keeps (rest.Listing list) k sp s acts t (is, left, lists, same, says) = keeps_rest s t acts k (resting sp left) (says-that-went is k _ s.at acts t.at says) same
continues-keeps (rest.Keeping mark chapter entries) k sp s acts t (none, same) = keeps_none s t acts none same
continues-keeps rest.Ending k sp s acts t tells = tells-rest-keeps k sp s acts t tells
continues-keeps rest.Ended k sp s acts t (none, same) = keeps_none s t acts none same

match_bool : (is : Bool) (P Q R : Type 0) → (P → R) → (Q → R) → MatchBool is P Q → R
match_bool true P Q R one two it = one it
match_bool false P Q R one two it = two it

kept-keeps : (left : Rest) (number k : ℕ) (sp : Speaker) (s : Stage) (acts : List Act) (t : Stage) → KeptFor left number k sp s acts t → Keeps s acts t
kept-keeps (rest.Keeping mark n entries) number k sp s acts t kept = match_bool (n == number) _ _ (Keeps s acts t) (λ answers. answers-keeps k sp _ s acts t answers) (λ same. keeps_none s t acts same.0 same.1) kept
kept-keeps rest.Nothing number k sp s acts t (none, same) = keeps_none s t acts none same
kept-keeps (rest.Line line) number k sp s acts t (none, same) = keeps_none s t acts none same
kept-keeps (rest.Ticking mark left) number k sp s acts t (none, same) = keeps_none s t acts none same
kept-keeps (rest.Listing list) number k sp s acts t (none, same) = keeps_none s t acts none same
kept-keeps rest.Ending number k sp s acts t (none, same) = keeps_none s t acts none same
kept-keeps rest.Ended number k sp s acts t (none, same) = keeps_none s t acts none same

each_keeps : (P : ℕ → Stage → List Act → Stage → Type 0) → ((n : ℕ) (s : Stage) (acts : List Act) (t : Stage) → P n s acts t → Keeps s acts t) → (numbers : List ℕ) (s : Stage) (acts : List Act) (t : Stage) → Each P numbers s acts t → Keeps s acts t
each_keeps P one [] s acts t (none, same) = keeps_none s t acts none same
each_keeps P one (n ∷ numbers) s acts t parts =
    keeps_then s parts.mid t acts parts.first parts.rest parts.parts (one n s parts.first parts.mid parts.before) (each_keeps P one numbers parts.mid parts.rest t parts.after)

-- ---- events

-- after what a stage keeps one conversation is changed
keeps_after : (s m t : Stage) (acts : List Act) (k : ℕ) (sp : Speaker) → Keeps s acts m → t ≡ with_speaker m k sp → Keeps s acts t
keeps_after s m t acts k sp keeps same = record {
  went = subst (λ (a : At). Went s.at acts a) (sym (ap (λ (x : Stage). x.at) same)) keeps.went;
  speakers = ap (λ (x : Stage). length x.speakers) same ∙ (length-set m.speakers k sp ∙ keeps.speakers);
  notes = ap (λ (x : Stage). length x.notes) same ∙ keeps.notes;
  clients = ap (λ (x : Stage). x.clients) same ∙ keeps.clients;
  door = ap (λ (x : Stage). x.door) same ∙ keeps.door;
}

ends_answer : (is : Bool) (k : ℕ) (s m t : Stage) (acts : List Act) → Keeps s acts m → EndsAnswer is k m t → Keeps s acts t
ends_answer true k s m t acts keeps (sp, at, same) = keeps_after s m t acts k (at_end sp) keeps same
ends_answer false k s m t acts keeps same = subst (λ (x : Stage). Keeps s acts x) (sym same) keeps

shows_turn : (is : Bool) (s : Stage) (acts : List Act) (t : Stage) → ShowsTurn is s acts t → Keeps s acts t
shows_turn true s acts t (shows, same) = keeps_at s t acts (shows-went s.speakers s.at acts t.at shows) same
shows_turn false s acts t (none, same) = record {
  went = none-went s.at t.at acts none (ap (λ (x : Stage). x.at) same);
  speakers = ap (λ (x : Stage). length x.speakers) same;
  notes = ap (λ (x : Stage). length x.notes) same;
  clients = ap (λ (x : Stage). x.clients) same;
  door = ap (λ (x : Stage). x.door) same;
}

hands_due : (none : Bool) (s : Stage) (acts : List Act) (t : Stage) → HandsDue none s acts t → Keeps s acts t
hands_due true s acts t (none, same) = keeps_none s t acts none same
hands_due false s acts t (is, hands, same) = keeps_at s t acts (hands-went is s.at acts t.at hands) same

pub does-keeps : (s : Stage) (event : Heard) (acts : List Act) (t : Stage) → Does s event acts t → Keeps s acts t
does-keeps s (heard.line from bytes) acts t hears = keeps_from s t acts from hears.speaker (obeys-keeps from hears.speaker hears.line _ (with_speaker s from hears.speaker) acts t hears.obeys)
does-keeps s (heard.room to) acts t (tells, same) = keeps_at s t acts (tells-at-went s.speakers to s.at acts t.at tells) same
does-keeps s (heard.rest from) acts t (mid, (sp, at, continues), ends) = ends_answer mid.has_ended from s mid t acts (continues-keeps sp.rest from sp s acts mid continues) ends
does-keeps s (heard.last from) acts t (none, (sp, at, same)) = keeps_set s t acts from (resting sp (last_turn sp.rest)) none same
does-keeps s heard.turn acts t turns =
    keeps_then s turns.mid t acts turns.first turns.second turns.parts (keeps_at s turns.mid turns.first (turns-went s.speakers s.clients turns.reply s.at turns.first turns.mid.at turns.turns) turns.same)
    (shows_turn (is_ticked turns.reply) turns.mid turns.second t turns.shows)
does-keeps s heard.due acts t hands = hands_due _ s acts t hands
does-keeps s (heard.kept chapter) acts t notes =
    each_keeps (KeptAt chapter) (λ n s acts t one. kept-keeps one.0.rest chapter n one.0 s acts t one.2) (range_with_len 0 (length s.speakers)) s acts t notes
does-keeps s heard.end acts t ends = ends-keeps s acts t ends

pub unread-keeps : (s : Stage) (events : List Heard) (acts : List Act) (t : Stage) → PlaysUnread s events acts t → Keeps s acts t
unread-keeps s [] acts t (none, same) = keeps_none s t acts none same
unread-keeps s (event ∷ events) acts t (mid, first, more, does, plays, parts) = keeps_then s mid t acts first more parts (does-keeps s event first mid does) (unread-keeps mid events more t plays)
