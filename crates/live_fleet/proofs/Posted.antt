-- Posts, and shuts.
use Rattle.std.proofs.Common.{◌≡◌, ◌∙◌, ℕ, ◌+◌, ◌≤◌, ◌<◌, Bool, true, false, ◌||◌, List, [], ◌∷◌, ◌++◌, length, get_or, Option, Some, None, Result, Ok, Err, refl, sym, ap, subst, arith}
use Rattle.std.proofs.lemmas.Option.{slice_get_read}
use Rattle.std.specs.Prelude.{IsTrue, ◌↔◌, OnOk, slice_get, slice_set}
use Rattle.std.specs.Result.{is_ok}
use Rattle.std.specs.declared.alloc.Global.{Global}
use Rattle.fleet_book.specs.declared.event.Event.TheVariants.{Post, Shut}
use Rattle.fleet_book.specs.declared.order.Order.{Order}
use Rattle.fleet_book.specs.declared.limits.Limits.{Limits}
use Rattle.fleet_core.specs.declared.faults.ShutFault.{ShutFault}
use Rattle.fleet_history.specs.History.{clients}
use Rattle.fleet_lanes.specs.declared.fault.PostFault.{PostFault}
use Rattle.fleet_text.specs.Answers.{post_text, shut_text}
use Rattle.fleet_talk.specs.Says.{marked}
use Rattle.fleet_world.specs.declared.reply.Reply.{Reply}
use Rattle.fleet_world.specs.declared.reply.Reply.TheVariants.{LaneFull, NoClient, Posted, ShutDone, ShutRefused}
use Rattle.fleet_world.specs.Talk.{Talk, TalkStep}
use Rattle.live_fleet.specs.declared.notes.Note.{Note}
use Rattle.live_fleet.specs.declared.speaker.Speaker.{Speaker}
use Rattle.live_fleet.specs.Act.{Act, did}
use Rattle.live_fleet.specs.Answering.{Answers}
use Rattle.live_fleet.specs.Out.{Out}
use Rattle.live_fleet.specs.Party.{Stage, with_at}
use Rattle.live_fleet.specs.Posting.{AreSpent, IsPosted, Posts, SettlesAll, SettlesIf, closed, full, is_close, ok, spent}
use Rattle.live_fleet.specs.Went.{At, Went}
use Rattle.live_fleet.proofs.Answered.{answered-as}
use Rattle.live_fleet.proofs.Going.{went-did, went-none}
use Rattle.live_fleet.specs.Asking.{IsShutResult, Shuts}
use Rattle.live_fleet.specs.Stepping.{StepsOn}
use Rattle.live_fleet.proofs.Steps.{at-same, last-step}

or_no : (v : Bool) → v ≡ (v || false)
or_no true = refl
or_no false = refl

-- a post of a client that there is, which was not accepted, found the lane full
pub not-posted : (s t : Talk Global) (c : ℕ) (order : Order) (reply : Reply) → c < clients s.world.history → TalkStep s (Post c order) reply t → ((n : ℕ) → reply ≡ Posted n → ⊥) → TalkStep s (Post c order) LaneFull t
not-posted s t c order NoClient inside st other = absurd (let past = st.0 in omega (arith, inside, past))
not-posted s t c order LaneFull inside st other = st
not-posted s t c order (Posted n) inside st other = absurd (other n refl)
not-posted s t c order _ inside st other = absurd st

pub was-posted : (s t : Talk Global) (c : ℕ) (order : Order) (reply : Reply) (n : ℕ) → TalkStep s (Post c order) reply t → reply ≡ Posted n → TalkStep s (Post c order) (Posted n) t
was-posted s t c order reply n st is = subst (λ (r : Reply). TalkStep s (Post c order) r t) is st

none_done : (a b : At) (acts : List Act) → acts ≡ [] → b.fleet.talk ≡ a.fleet.talk → b.fleet.met ≡ a.fleet.met → b.fleet.recalls ≡ a.fleet.recalls → b.out ≡ a.out → Went a acts b
none_done a b acts none talk met recalls out =
    subst (λ (l : List Act). Went a l b) (sym none) (subst (λ (x : At). Went a [] x) (sym (at-same a b talk met recalls (ap (λ (o : Out). o.texts) out) (ap (λ (o : Out). o.chapters) out))) (went-none a))

pub posted-went : (client : ℕ) (order : Order) (posted : Result ℕ PostFault) (note new : Note) (a b : At) (acts : List Act) → IsPosted client order posted note new a.fleet.talk acts b.fleet.talk → b.fleet.met ≡ a.fleet.met → b.fleet.recalls ≡ a.fleet.recalls → b.out ≡ a.out → Went a acts b
posted-went client order posted note new a b acts (closed is fault none same stays) met recalls out = none_done a b acts none same met recalls out
posted-went client order posted note new a b acts (spent is other few fault none same stays) met recalls out = none_done a b acts none same met recalls out
posted-went client order posted note new a b acts (full is many fault one step stays) met recalls out = subst (λ (l : List Act). Went a l b) (sym one) (went-did a b (Post client order) LaneFull step (met ∙ or_no a.fleet.met) recalls out)
posted-went client order posted note new a b acts (ok is many n number one step stays) met recalls out = subst (λ (l : List Act). Went a l b) (sym one) (went-did a b (Post client order) (Posted n) step (met ∙ or_no a.fleet.met) recalls out)

-- ---- a post that is answered and judged

is_true : {P : Type 0} → true ≡ false → P
is_true bad = cc

is_false : {P : Type 0} → false ≡ true → P
is_false bad = cc

pub settles-then : (posted : Result ℕ PostFault) (s t : Stage) → is_ok posted ≡ true → ((acts : List Act) × SettlesAll s acts t) → (acts : List Act) × SettlesIf posted s acts t
settles-then (Ok n) s t is settles = settles
settles-then (Err fault) s t is settles = is_false is

pub settles-not : (posted : Result ℕ PostFault) (s : Stage) → is_ok posted ≡ false → (acts : List Act) × SettlesIf posted s acts s
settles-not (Ok n) s is = is_true is
settles-not (Err fault) s is = ([], (refl, refl))

pub posts-of : (k : ℕ) (sp : Speaker) (mark : Option (List ℕ)) (client : ℕ) (order : Order) (posted : Result ℕ PostFault) (note new : Note) (s one two t : Stage) (first : List Act) → slice_get s.notes client ≡ Some note
    → IsPosted client order posted note new s.at.fleet.talk first one.at.fleet.talk → one.at.fleet.met ≡ s.at.fleet.met → one.at.fleet.recalls ≡ s.at.fleet.recalls → one.at.out ≡ s.at.out → one ≡ record s { at = one.at; notes = slice_set s.notes client new }
    → ((acts : List Act) × Answers k sp (marked mark (post_text client posted)) one acts two) → ((acts : List Act) × SettlesIf posted two acts t) → (acts : List Act) × Posts k sp mark client order s acts t
posts-of k sp mark client order posted note new s one two t first known is met recalls out same (second, answers) (third, settles) = (
  first ++ (second ++ third),
  record {
    posted = posted;
    note = note;
    new = new;
    known = known;
    first = first;
    one = one;
    is = is;
    went = posted-went client order posted note new s.at one.at first is met recalls out;
    same = same;
    second = second;
    two = two;
    answers = answers;
    third = third;
    settles = settles;
    parts = refl;
  },
)

-- the same, from what each call says
pub posts-from : (k : ℕ) (sp : Speaker) (mark : Option (List ℕ)) (client : ℕ) (order : Order) (text line : List ℕ) (said : Bool) (note new : Note) (s one two t : Stage) → client < length s.notes → note ≡ get_or s.notes client note
    → ((posted : Result ℕ PostFault) × (acts : List Act) × IsPosted client order posted note new s.at.fleet.talk acts one.at.fleet.talk × (text ≡ post_text client posted) × (said ≡ is_ok posted)) → one.at.fleet.met ≡ s.at.fleet.met → one.at.fleet.recalls ≡ s.at.fleet.recalls → one.at.out ≡ s.at.out
    → one ≡ record s { at = one.at; notes = slice_set s.notes client new } → line ≡ text → ((acts : List Act) × Answers k sp (marked mark line) one acts two)
    → ((posted : Result ℕ PostFault) → said ≡ is_ok posted → (acts : List Act) × SettlesIf posted two acts t) → (acts : List Act) × Posts k sp mark client order s acts t
posts-from k sp mark client order text line said note new s one two t inside at (posted, first, is, told, good) met recalls out same shown answers settles =
    posts-of k sp mark client order posted note new s one two t first (slice_get_read s.notes (length s.notes) client note refl inside at) is met recalls out same
    (answered-as k sp (marked mark line) (marked mark (post_text client posted)) one two (ap (marked mark) (shown ∙ told)) answers) (settles posted good)

-- the numbers are not spent
pub not-spent : (order : Order) (note : Note) (s : Talk Global) (limits : Limits) (spent_now : Bool) → limits ≡ s.world.limits → (IsTrue spent_now ↔ ((is_close order ≡ false) × (limits.orders ≤ note.last + 1))) → spent_now ≡ false
    → is_close order ≡ false → AreSpent note s → ⊥
not-spent order note s limits spent_now same is other close few =
    let few_here : limits.orders ≤ note.last + 1 = subst (λ (l : Limits). l.orders ≤ note.last + 1) (sym same) few in
    let bad : true ≡ false = sym (is.1 (close, few_here)) ∙ other in
    is_true bad

-- ---- shuts

pub shuts-of : (robot : ℕ) (reply : Reply) (done : Result (Option ℕ) ShutFault) (text : List ℕ) (a b : At) → ((acts : List Act) × StepsOn (Shut robot) reply a acts b) → IsShutResult reply done → text ≡ shut_text robot done → (acts : List Act) × Shuts robot text a acts b
shuts-of robot reply done text a b (acts, step) comes is = (acts, record { reply = reply; done = done; comes = comes; step = step; is = is })

no_other : (s t : Talk Global) (robot : ℕ) (reply : Reply) → TalkStep s (Shut robot) reply t → ((f : Option ℕ) → reply ≡ ShutDone f → ⊥) → ((f : ShutFault) → reply ≡ ShutRefused f → ⊥) → ⊥
no_other s t robot (ShutDone f) st not_done not_refused = not_done f refl
no_other s t robot (ShutRefused f) st not_done not_refused = not_refused f refl
no_other s t robot _ st not_done not_refused = absurd st

pub shuts-no-other : (robot : ℕ) (reply : Reply) (a b : At) → ((acts : List Act) × StepsOn (Shut robot) reply a acts b) → ((f : Option ℕ) → reply ≡ ShutDone f → ⊥) → ((f : ShutFault) → reply ≡ ShutRefused f → ⊥) → ⊥
shuts-no-other robot reply a b (acts, step) not_done not_refused = let (s, last) = last-step (Shut robot) reply a acts b step in no_other s b.fleet.talk robot reply last not_done not_refused
