-- Answers that are said, or wait for room, and what that makes of a stage.
use Rattle.std.proofs.Common.{◌≡◌, ◌∙◌, ℕ, ◌<◌, Bool, true, false, List, [], ◌∷◌, ◌++◌, length, get_or, Option, Some, Result, Ok, Err, refl, sym, ap, subst}
use Rattle.std.proofs.lemmas.Option.{slice_get_read}
use Rattle.std.specs.Prelude.{MatchBool, OnOk, IfOk, slice_get, slice_set}
use Rattle.std.specs.declared.alloc.Global.{Global}
use Rattle.live_fleet.specs.declared.rest.Rest.{Rest}
use Rattle.live_fleet.specs.declared.rest.Rest.TheVariants.{Nothing, Line}
use Rattle.live_fleet.specs.declared.speaker.Speaker.{Speaker}
use Rattle.live_fleet.specs.Act.{Act, said}
use Rattle.live_fleet.specs.Answering.{Answers, AnswersIn, at_once, later, now, waits}
use Rattle.live_fleet.specs.Out.{Out, Fits, text_at}
use Rattle.live_fleet.specs.Party.{Stage, resting, with_at, with_rest, with_speaker}
use Rattle.live_fleet.specs.Went.{At, FleetView}
use Rattle.live_fleet.proofs.Going.{went-said}
use Rattle.live_fleet.proofs.Steps.{at-same}

pub same-at : (a b : At) → b.fleet ≡ a.fleet → b.out ≡ a.out → b ≡ a
same-at a b fleet out = at-same a b (ap (λ (f : FleetView). f.talk) fleet) (ap (λ (f : FleetView). f.met) fleet) (ap (λ (f : FleetView). f.recalls) fleet) (ap (λ (o : Out). o.texts) out) (ap (λ (o : Out). o.chapters) out)

-- it was said
pub answered-now : {T E : Type 0} (r : Result T E) (to : ℕ) (text : List ℕ) (old new : Out) → Fits (text_at old to) (length text) → OnOk r (new.texts ≡ slice_set old.texts to (text_at old to ++ text)) → new.chapters ≡ old.chapters
    → OnOk r (AnswersIn to text old new Nothing)
answered-now (Ok v) to text old new fits texts chapters = now fits (texts, chapters) refl
answered-now (Err e) to text old new fits texts chapters = tt

-- the only speaker that a place can have
pub one-there : (o : Option Speaker) (x y : Speaker) → o ≡ Some x → o ≡ Some y → x ≡ y
one-there o x y one two = some_same x y (sym one ∙ two)
  where
    some_same : (x y : Speaker) → Some x ≡ Some y → x ≡ y
    some_same x y e = cc

-- one conversation's rest changed
pub with-new : (s : Stage) (k : ℕ) (sp read new : Speaker) (left : Rest) → read ≡ sp → new ≡ resting read left → with_speaker s k new ≡ with_rest s k sp left
with-new s k sp read new left same is = ap (with_speaker s k) (is ∙ ap (λ (x : Speaker). resting x left) same)

pub answers-of : (k : ℕ) (sp : Speaker) (text : List ℕ) (s t : Stage) (left : Rest) → k < length s.at.out.texts → t.at.fleet ≡ s.at.fleet → AnswersIn k text s.at.out t.at.out left → t ≡ with_rest (with_at s t.at) k sp left
    → (acts : List Act) × Answers k sp text s acts t
answers-of k sp text s t left inside fleet (now fits (texts, chapters) none) is =
    (said k text ∷ [], at_once fits refl (went-said s.at t.at k text inside fits fleet texts chapters) (is ∙ ap (with_rest (with_at s t.at) k sp) none))
answers-of k sp text s t left inside fleet (later full same waiting) is =
    let at : t.at ≡ s.at = same-at s.at t.at fleet same in
    ([], waits full refl left waiting (is ∙ ap (λ (a : At). with_rest (with_at s a) k sp left) at))

-- what follows in either case of a test
pub match-true : (b : Bool) (P Q : List Act → Type 0) → b ≡ true → ((acts : List Act) × P acts) → (acts : List Act) × MatchBool b (P acts) (Q acts)
match-true true P Q is it = it
match-true false P Q is it = absurd (let bad : false ≡ true = is in cc)

pub match-false : (b : Bool) (P Q : List Act → Type 0) → b ≡ false → ((acts : List Act) × Q acts) → (acts : List Act) × MatchBool b (P acts) (Q acts)
match-false false P Q is it = it
match-false true P Q is it = absurd (let bad : true ≡ false = is in cc)

-- what is read of the speakers at this place is the one that is there
pub read-there : (who : List Speaker) (k : ℕ) (read sp : Speaker) → k < length who → read ≡ get_or who k read → slice_get who k ≡ Some sp → read ≡ sp
read-there who k read sp less is at = one-there (slice_get who k) read sp (slice_get_read who (length who) k read refl less is) at

-- one conversation was answered
pub say-of : {T E : Type 0} (r : Result T E) (k : ℕ) (text : List ℕ) (s t : Stage) (read new : Speaker) → k < length s.at.out.texts → t.at.fleet ≡ s.at.fleet → t ≡ with_speaker (with_at s t.at) k new → k < length s.speakers
    → read ≡ get_or s.speakers k read → new ≡ resting read new.rest → OnOk r (AnswersIn k text s.at.out t.at.out new.rest) → OnOk r ((sp : Speaker) → slice_get s.speakers k ≡ Some sp → (acts : List Act) × Answers k sp text s acts t)
say-of (Ok v) k text s t read new inside fleet is less at same answers = λ sp there.
    answers-of k sp text s t new.rest inside fleet answers (is ∙ with-new (with_at s t.at) k sp read new new.rest (read-there s.speakers k read sp less at there) same)
say-of (Err e) k text s t read new inside fleet is less at same answers = tt

-- the same answer
pub answered-as : (k : ℕ) (sp : Speaker) (text same : List ℕ) (s t : Stage) → text ≡ same → ((acts : List Act) × Answers k sp text s acts t) → (acts : List Act) × Answers k sp same s acts t
answered-as k sp text same s t is it = subst (λ (l : List ℕ). (acts : List Act) × Answers k sp l s acts t) is it
