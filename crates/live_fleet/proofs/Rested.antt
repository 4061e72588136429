-- How answers go on, on a stage.
use Rattle.std.proofs.Common.{◌≡◌, ◌∙◌, ℕ, ◌<◌, zero, suc, Bool, true, false, ◌&&◌, List, [], ◌∷◌, ◌++◌, length, get_or, Option, Some, None, Result, Ok, Err, Vec, refl, sym, ap, subst}
use Rattle.std.proofs.lemmas.Option.{slice_get_read}
use Rattle.std.specs.Prelude.{MatchBool, OnOk, ◌==◌, slice_get, slice_set, if◌then◌else◌}
use Rattle.std.specs.declared.alloc.Global.{Global}
use Rattle.fleet_history.specs.History.{clock}
use Rattle.fleet_text.specs.Answers.{ended_line}
use Rattle.fleet_world.specs.declared.reply.Reply.{Reply}
use Rattle.live_fleet.specs.declared.rest.Rest.{Rest}
use Rattle.live_fleet.specs.declared.rest.Rest.TheVariants as rest
use Rattle.live_fleet.specs.declared.speaker.Speaker.{Speaker}
use Rattle.live_fleet.specs.Act.{Act}
use Rattle.live_fleet.specs.Answering.{Answers, AnswersIn}
use Rattle.live_fleet.specs.Does.{MakesTurn, ShowsTurn}
use Rattle.live_fleet.specs.Ending.{at_end}
use Rattle.live_fleet.specs.Open.{is_ending, turns_left}
use Rattle.live_fleet.specs.Out.{Out}
use Rattle.live_fleet.specs.Party.{Stage, resting, with_at, with_rest, with_speaker}
use Rattle.live_fleet.specs.Resting.{Continues, EndsAnswer, GoesOn, GoesOnce, Hastens, KeptAt, KeptFor, KeptIn, SaysOn, TellsRest, TicksOnce, TicksThen, all, goes_on, last_turn, line_of}
use Rattle.live_fleet.specs.Telling.{TellsWhole}
use Rattle.live_fleet.specs.Turning.{SaysOrNot, SaysThat, Turns, is_ticked}
use Rattle.live_fleet.specs.Went.{At}
use Rattle.live_fleet.proofs.Answered.{answers-of, read-there, same-at, with-new}
use Rattle.live_fleet.proofs.Shows.{says-that}

none_some : {P X : Type 0} (x : X) → Some x ≡ None → P
none_some x bad = cc

some_none : {P X : Type 0} (x : X) → None ≡ Some x → P
some_none x bad = cc

is_true : {P : Type 0} → true ≡ false → P
is_true bad = cc

same_some : (x y : Speaker) → Some x ≡ Some y → x ≡ y
same_some x y e = cc

-- what is put where it is
pub set-there : (xs : List Speaker) (k : ℕ) (x : Speaker) → slice_get xs k ≡ Some x → slice_set xs k x ≡ xs
set-there [] k x at = some_none x at
set-there (y ∷ ys) zero x at = ap (λ (z : Speaker). z ∷ ys) (sym (same_some y x at))
set-there (y ∷ ys) (suc k) x at = ap (λ (l : List Speaker). y ∷ l) (set-there ys k x at)

put : Stage → List Speaker → Stage
put s speakers = record s { speakers = speakers }

same_put : (s : Stage) (k : ℕ) (sp : Speaker) → slice_get s.speakers k ≡ Some sp → with_speaker s k sp ≡ s
unfolding put
same_put s k sp at = ap (put s) (set-there s.speakers k sp at)

-- nothing of a conversation changed
pub unchanged : (k : ℕ) (sp : Speaker) (s t : Stage) (before left : Rest) → slice_get s.speakers k ≡ Some sp → sp.rest ≡ before → t.at ≡ s.at → left ≡ before → t ≡ with_rest (with_at s t.at) k sp left → t ≡ s
unchanged k sp s t before left there was at same is =
    let first : t ≡ with_rest s k sp left = is ∙ ap (λ (a : At). with_rest (with_at s a) k sp left) at in
    let second : with_rest s k sp left ≡ with_speaker s k sp = ap (λ (l : Rest). with_rest s k sp l) (same ∙ sym was) in
    first ∙ (second ∙ same_put s k sp there)

-- ---- what is left of an answer

pub continues-of : (before : Rest) (k : ℕ) (sp : Speaker) (s t : Stage) (left : Rest) → k < length s.at.out.texts → t.at.fleet ≡ s.at.fleet → slice_get s.speakers k ≡ Some sp → sp.rest ≡ before → turns_left before ≡ None → is_ending before ≡ false
    → SaysOn k before s.at.out t.at.out left → t ≡ with_rest (with_at s t.at) k sp left → (acts : List Act) × Continues before k sp s acts t
continues-of rest.Nothing k sp s t left inside fleet there was none other (out, same) is = ([], (refl, unchanged k sp s t rest.Nothing left there was (same-at s.at t.at fleet out) same is))
continues-of (rest.Line line) k sp s t left inside fleet there was none other says is = answers-of k sp line.items s t left inside fleet says is
continues-of (rest.Ticking mark turns) k sp s t left inside fleet there was none other says is = none_some turns none
continues-of (rest.Listing list) k sp s t left inside fleet there was none other (said, lists, says) is =
    let (acts, that) = says-that said k (line_of list) s.at t.at inside fleet says in
    (acts, (said, left, lists, is, that))
continues-of (rest.Keeping mark n entries) k sp s t left inside fleet there was none other (out, same) is = ([], (refl, unchanged k sp s t (rest.Keeping mark n entries) left there was (same-at s.at t.at fleet out) same is))
continues-of rest.Ending k sp s t left inside fleet there was none other says is = is_true other
continues-of rest.Ended k sp s t left inside fleet there was none other (out, same) is = ([], (refl, unchanged k sp s t rest.Ended left there was (same-at s.at t.at fleet out) same is))

kept_case : (b : Bool) (k : ℕ) (sp : Speaker) (text : List ℕ) (s t : Stage) (before left : Rest) → k < length s.at.out.texts → t.at.fleet ≡ s.at.fleet → slice_get s.speakers k ≡ Some sp → sp.rest ≡ before
    → MatchBool b (AnswersIn k text s.at.out t.at.out left) ((t.at.out ≡ s.at.out) × (left ≡ before)) → t ≡ with_rest (with_at s t.at) k sp left → (acts : List Act) × MatchBool b (Answers k sp text s acts t) ((acts ≡ []) × (t ≡ s))
kept_case true k sp text s t before left inside fleet there was answers is = answers-of k sp text s t left inside fleet answers is
kept_case false k sp text s t before left inside fleet there was (out, same) is = ([], (refl, unchanged k sp s t before left there was (same-at s.at t.at fleet out) same is))

pub kept-of : (before : Rest) (number k : ℕ) (sp : Speaker) (s t : Stage) (left : Rest) → k < length s.at.out.texts → t.at.fleet ≡ s.at.fleet → slice_get s.speakers k ≡ Some sp → sp.rest ≡ before → KeptIn before number k s.at.out t.at.out left
    → t ≡ with_rest (with_at s t.at) k sp left → (acts : List Act) × KeptFor before number k sp s acts t
kept-of (rest.Keeping mark n entries) number k sp s t left inside fleet there was kept is = kept_case (n == number) k sp _ s t (rest.Keeping mark n entries) left inside fleet there was kept is
kept-of rest.Nothing number k sp s t left inside fleet there was (out, same) is = ([], (refl, unchanged k sp s t rest.Nothing left there was (same-at s.at t.at fleet out) same is))
kept-of (rest.Line line) number k sp s t left inside fleet there was (out, same) is = ([], (refl, unchanged k sp s t (rest.Line line) left there was (same-at s.at t.at fleet out) same is))
kept-of (rest.Ticking mark turns) number k sp s t left inside fleet there was (out, same) is = ([], (refl, unchanged k sp s t (rest.Ticking mark turns) left there was (same-at s.at t.at fleet out) same is))
kept-of (rest.Listing list) number k sp s t left inside fleet there was (out, same) is = ([], (refl, unchanged k sp s t (rest.Listing list) left there was (same-at s.at t.at fleet out) same is))
kept-of rest.Ending number k sp s t left inside fleet there was (out, same) is = ([], (refl, unchanged k sp s t rest.Ending left there was (same-at s.at t.at fleet out) same is))
kept-of rest.Ended number k sp s t left inside fleet there was (out, same) is = ([], (refl, unchanged k sp s t rest.Ended left there was (same-at s.at t.at fleet out) same is))

-- ---- turns

pub ticks-then : (b : Bool) (k : ℕ) (sp : Speaker) (mark : Option (Vec ℕ Global)) (left : ℕ) (reply : Reply) (s t : Stage) (result : Bool) → result ≡ b → result ≡ goes_on reply left → ((acts : List Act) × TicksThen b k sp mark left reply s acts t)
    → (acts : List Act) × TicksThen (goes_on reply left) k sp mark left reply s acts t
ticks-then b k sp mark left reply s t result is goes it = subst (λ (x : Bool). (acts : List Act) × TicksThen x k sp mark left reply s acts t) (sym is ∙ goes) it

pub ticks-of : (k : ℕ) (sp : Speaker) (mark : Option (Vec ℕ Global)) (left : ℕ) (reply : Reply) (s mid t : Stage) → ((acts : List Act) × Turns s.speakers s.clients reply s.at acts mid.at) → mid ≡ with_at s mid.at
    → ((acts : List Act) × TicksThen (goes_on reply left) k sp mark left reply mid acts t) → (acts : List Act) × TicksOnce k sp mark left s acts t
ticks-of k sp mark left reply s mid t (first, turns) same (second, ticks) =
    (first ++ second, record { reply = reply; first = first; mid = mid; turns = turns; same = same; second = second; goes = ticks; parts = refl })

pub turn-of : (b : Bool) (reply : Reply) (s mid t : Stage) (result : Bool) → result ≡ b → result ≡ is_ticked reply → ((acts : List Act) × Turns s.speakers s.clients reply s.at acts mid.at) → mid ≡ with_at s mid.at
    → ((acts : List Act) × ShowsTurn b mid acts t) → (acts : List Act) × MakesTurn s acts t
turn-of b reply s mid t result is ticked (first, turns) same (second, shows) =
    (first ++ second, record { reply = reply; first = first; mid = mid; turns = turns; same = same; second = second; shows = subst (λ (x : Bool). ShowsTurn x mid second t) (sym is ∙ ticked) shows; parts = refl })

-- ---- the end

pub tells-rest : (k : ℕ) (sp : Speaker) (s t : Stage) (mid : At) (is : Bool) → ((acts : List Act) × TellsWhole k sp.clients s.at acts mid) → ((acts : List Act) × SaysThat is k (ended_line (clock mid.fleet.talk.world.history)) mid acts t.at)
    → t ≡ (if is then with_rest (with_at s t.at) k sp rest.Ended else with_at s t.at) → (acts : List Act) × TellsRest k sp s acts t
tells-rest k sp s t mid is (first, tells) (last, says) same = (first ++ last, all mid first last is tells says refl same)

-- all was told, and that the fleet ended had room or not
tells_last : (k : ℕ) (sp read : Speaker) (s t : Stage) (mid : At) (line : List ℕ) (is : Bool) → k < length mid.out.texts → read ≡ sp → ((acts : List Act) × TellsWhole k read.clients s.at acts mid) → line ≡ ended_line (clock mid.fleet.talk.world.history)
    → t.at.fleet ≡ mid.fleet → SaysOrNot k line is mid.out t.at.out → t ≡ (if is then with_rest (with_at s t.at) k sp rest.Ended else with_at s t.at) → (acts : List Act) × TellsRest k sp s acts t
tells_last k sp read s t mid line is inside one whole ended fleet says same =
    tells-rest k sp s t mid is (subst (λ (x : Speaker). (acts : List Act) × TellsWhole k x.clients s.at acts mid) one whole)
    (subst (λ (l : List ℕ). (acts : List Act) × SaysThat is k l mid acts t.at) ended (says-that is k line mid t.at inside fleet says)) same

pub tells-last-no : (k : ℕ) (sp read : Speaker) (s t : Stage) (mid : At) (line : List ℕ) (is : Bool) → k < length mid.out.texts → k < length s.speakers → read ≡ get_or s.speakers k read → slice_get s.speakers k ≡ Some sp
    → ((acts : List Act) × TellsWhole k read.clients s.at acts mid) → line ≡ ended_line (clock mid.fleet.talk.world.history) → t.at.fleet ≡ mid.fleet → SaysOrNot k line is mid.out t.at.out → is ≡ false → t ≡ with_at s t.at
    → (acts : List Act) × TellsRest k sp s acts t
tells-last-no k sp read s t mid line true inside less at there whole ended fleet says none same = is_true none
tells-last-no k sp read s t mid line false inside less at there whole ended fleet says none same = tells_last k sp read s t mid line false inside (read-there s.speakers k read sp less at there) whole ended fleet says same

pub tells-last-yes : (k : ℕ) (sp read again : Speaker) (s t : Stage) (mid : At) (line : List ℕ) (is : Bool) → k < length mid.out.texts → k < length s.speakers → read ≡ get_or s.speakers k read → again ≡ get_or s.speakers k again
    → slice_get s.speakers k ≡ Some sp → ((acts : List Act) × TellsWhole k read.clients s.at acts mid) → line ≡ ended_line (clock mid.fleet.talk.world.history) → t.at.fleet ≡ mid.fleet → SaysOrNot k line is mid.out t.at.out → is ≡ true
    → t ≡ with_speaker (with_at s t.at) k (resting again rest.Ended) → (acts : List Act) × TellsRest k sp s acts t
tells-last-yes k sp read again s t mid line false inside less at at_again there whole ended fleet says some same = is_true (sym some)
tells-last-yes k sp read again s t mid line true inside less at at_again there whole ended fleet says some same =
    tells_last k sp read s t mid line true inside (read-there s.speakers k read sp less at there) whole ended fleet says
    (same ∙ with-new (with_at s t.at) k sp again (resting again rest.Ended) rest.Ended (read-there s.speakers k again sp less at_again there) refl)

-- ---- one conversation goes on

-- the answer of the conversation that is there goes on
goes_of : {T E : Type 0} (r : Result T E) (k : ℕ) (s t : Stage) (read : Speaker) → k < length s.speakers → read ≡ get_or s.speakers k read → OnOk r ((acts : List Act) × Continues read.rest k read s acts t) → OnOk r ((acts : List Act) × GoesOnce k s acts t)
goes_of (Ok v) k s t read less at (acts, on) = (acts, (read, slice_get_read s.speakers (length s.speakers) k read refl less at, on))
goes_of (Err e) k s t read less at on = tt

some_left : {P : Type 0} (n : ℕ) → None ≡ Some n → P
some_left n bad = cc

same_left : (m n : ℕ) → Some m ≡ Some n → m ≡ n
same_left m n e = cc

none_other : (o : Option ℕ) → ((n : ℕ) → o ≡ Some n → ⊥) → o ≡ None
none_other None others = refl
none_other (Some n) others = absurd (others n refl)

goes_ticking : (before : Rest) (left k : ℕ) (sp : Speaker) (s t : Stage) → turns_left before ≡ Some left → ((mark : Option (Vec ℕ Global)) → before ≡ rest.Ticking mark left → (acts : List Act) × TicksOnce k sp mark left s acts t)
    → (acts : List Act) × Continues before k sp s acts t
goes_ticking (rest.Ticking mark n) left k sp s t is it =
    let same : n ≡ left = same_left n left is in
    subst (λ (m : ℕ). (acts : List Act) × TicksOnce k sp mark m s acts t) (sym same) (it mark (ap (rest.Ticking mark) same))
goes_ticking rest.Nothing left k sp s t is it = some_left left is
goes_ticking (rest.Line line) left k sp s t is it = some_left left is
goes_ticking (rest.Listing list) left k sp s t is it = some_left left is
goes_ticking (rest.Keeping mark n entries) left k sp s t is it = some_left left is
goes_ticking rest.Ending left k sp s t is it = some_left left is
goes_ticking rest.Ended left k sp s t is it = some_left left is

goes_ending : (before : Rest) (k : ℕ) (sp : Speaker) (s t : Stage) → is_ending before ≡ true → ((acts : List Act) × TellsRest k sp s acts t) → (acts : List Act) × Continues before k sp s acts t
goes_ending rest.Ending k sp s t is it = it
goes_ending rest.Nothing k sp s t is it = is_true (sym is)
goes_ending (rest.Line line) k sp s t is it = is_true (sym is)
goes_ending (rest.Ticking mark n) k sp s t is it = is_true (sym is)
goes_ending (rest.Listing list) k sp s t is it = is_true (sym is)
goes_ending (rest.Keeping mark n entries) k sp s t is it = is_true (sym is)
goes_ending rest.Ended k sp s t is it = is_true (sym is)

-- a turn was made for it
pub goes-ticking : {T E : Type 0} (r : Result T E) (k left : ℕ) (s t : Stage) (read : Speaker) → k < length s.speakers → read ≡ get_or s.speakers k read → turns_left read.rest ≡ Some left
    → OnOk r ((sp : Speaker) (mark : Option (Vec ℕ Global)) → slice_get s.speakers k ≡ Some sp → sp.rest ≡ rest.Ticking mark left → (acts : List Act) × TicksOnce k sp mark left s acts t) → OnOk r ((acts : List Act) × GoesOnce k s acts t)
goes-ticking (Ok v) k left s t read less at is it =
    goes_of {E = ℕ} (Ok v) k s t read less at (goes_ticking read.rest left k read s t is (λ mark was. it read mark (slice_get_read s.speakers (length s.speakers) k read refl less at) was))
goes-ticking (Err e) k left s t read less at is it = tt

-- it was told what is left
pub goes-ending : {T E : Type 0} (r : Result T E) (k : ℕ) (s t : Stage) (read : Speaker) → k < length s.speakers → read ≡ get_or s.speakers k read → is_ending read.rest ≡ true
    → OnOk r ((sp : Speaker) → slice_get s.speakers k ≡ Some sp → (acts : List Act) × TellsRest k sp s acts t) → OnOk r ((acts : List Act) × GoesOnce k s acts t)
goes-ending (Ok v) k s t read less at is it = goes_of {E = ℕ} (Ok v) k s t read less at (goes_ending read.rest k read s t is (it read (slice_get_read s.speakers (length s.speakers) k read refl less at)))
goes-ending (Err e) k s t read less at is it = tt

-- a text of it was said, or it waits
pub goes-else : {T E : Type 0} (r : Result T E) (k : ℕ) (s t : Stage) (first second : Speaker) → k < length s.speakers → first ≡ get_or s.speakers k first → second ≡ get_or s.speakers k second → ((n : ℕ) → turns_left first.rest ≡ Some n → ⊥)
    → is_ending second.rest ≡ false
    → OnOk r ((sp : Speaker) → slice_get s.speakers k ≡ Some sp → turns_left sp.rest ≡ None → is_ending sp.rest ≡ false → (acts : List Act) × Continues sp.rest k sp s acts t) → OnOk r ((acts : List Act) × GoesOnce k s acts t)
goes-else (Ok v) k s t first second less at at_again none other it =
    let there : slice_get s.speakers k ≡ Some first = slice_get_read s.speakers (length s.speakers) k first refl less at in
    let one : second ≡ first = read-there s.speakers k second first less at_again there in
    goes_of {E = ℕ} (Ok v) k s t first less at (it first there (none_other (turns_left first.rest) none) (subst (λ (x : Speaker). is_ending x.rest ≡ false) one other))
goes-else (Err e) k s t first second less at at_again none other it = tt

-- with what was said of its answer
pub left-of : {T E : Type 0} (r : Result T E) (k : ℕ) (s t : Stage) (read new : Speaker) → k < length s.at.out.texts → t.at.fleet ≡ s.at.fleet → t ≡ with_speaker (with_at s t.at) k new → k < length s.speakers → read ≡ get_or s.speakers k read
    → new ≡ resting read new.rest → OnOk r (SaysOn k read.rest s.at.out t.at.out new.rest)
    → OnOk r ((sp : Speaker) → slice_get s.speakers k ≡ Some sp → turns_left sp.rest ≡ None → is_ending sp.rest ≡ false → (acts : List Act) × Continues sp.rest k sp s acts t)
left-of (Ok v) k s t read new inside fleet is less at same says = λ sp there none other.
    let one : read ≡ sp = read-there s.speakers k read sp less at there in
    continues-of sp.rest k sp s t new.rest inside fleet there refl none other (subst (λ (x : Speaker). SaysOn k x.rest s.at.out t.at.out new.rest) one says) (is ∙ with-new (with_at s t.at) k sp read new new.rest one same)
left-of (Err e) k s t read new inside fleet is less at same says = tt

-- whether it was told that its chapter is kept
pub kept-step : (number k : ℕ) (s t : Stage) (read new : Speaker) → k < length s.at.out.texts → t.at.fleet ≡ s.at.fleet → t ≡ with_speaker (with_at s t.at) k new → k < length s.speakers → read ≡ get_or s.speakers k read
    → new ≡ resting read new.rest → KeptIn read.rest number k s.at.out t.at.out new.rest → (acts : List Act) × KeptAt number k s acts t
kept-step number k s t read new inside fleet is less at same kept =
    let there : slice_get s.speakers k ≡ Some read = slice_get_read s.speakers (length s.speakers) k read refl less at in
    let (acts, one) = kept-of read.rest number k read s t new.rest inside fleet there refl kept (is ∙ with-new (with_at s t.at) k read read new new.rest refl same) in
    (acts, (read, there, one))

-- ---- once the fleet has ended

ends_if : (is : Bool) (k : ℕ) (mid t : Stage) (sp : Speaker) → is ≡ true → slice_get mid.speakers k ≡ Some sp → t ≡ with_speaker mid k (at_end sp) → EndsAnswer is k mid t
ends_if true k mid t sp ended there is = (sp, there, is)
ends_if false k mid t sp ended there is = is_true (sym ended)

ends_not : (is : Bool) (k : ℕ) (mid : Stage) → is ≡ false → EndsAnswer is k mid mid
ends_not true k mid other = is_true other
ends_not false k mid other = refl

-- the conversation went on, and what is left is told from now on
pub goes-then-ends : (k : ℕ) (s mid t : Stage) (read new : Speaker) → k < length mid.speakers → read ≡ get_or mid.speakers k read → new ≡ at_end read → mid.has_ended ≡ true → t ≡ with_speaker mid k new → ((acts : List Act) × GoesOnce k s acts mid)
    → (acts : List Act) × GoesOn k s acts t
goes-then-ends k s mid t read new less at ends ended is (acts, once) =
    (acts, (mid, once, ends_if mid.has_ended k mid t read ended (slice_get_read mid.speakers (length mid.speakers) k read refl less at) (is ∙ ap (with_speaker mid k) ends)))

pub goes-on-yet : (k : ℕ) (s mid : Stage) → mid.has_ended ≡ false → ((acts : List Act) × GoesOnce k s acts mid) → (acts : List Act) × GoesOn k s acts mid
goes-on-yet k s mid other (acts, once) = (acts, (mid, once, ends_not mid.has_ended k mid other))

-- of the turns no more than one is to be made
pub hastens-of : (k : ℕ) (s t : Stage) (read new : Speaker) → k < length s.speakers → read ≡ get_or s.speakers k read → new ≡ resting read (last_turn read.rest) → t ≡ with_speaker s k new → Hastens k s t
hastens-of k s t read new less at is same = (read, slice_get_read s.speakers (length s.speakers) k read refl less at, same ∙ ap (with_speaker s k) is)
