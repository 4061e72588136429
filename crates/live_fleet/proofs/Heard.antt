-- Lines that are heard.
use Rattle.std.proofs.Common.{◌≡◌, ◌∙◌, ℕ, ◌<◌, zero, suc, Bool, true, false, List, [], ◌∷◌, length, get_or, Option, Some, None, Result, Ok, Err, refl, sym, ap, subst, arith}
use Rattle.std.specs.Prelude.{MatchBool, OnOk, slice_get, slice_set}
use Rattle.fleet_talk.specs.Ask.{Line}
use Rattle.fleet_talk.specs.Door.{line_let_in}
use Rattle.live_parts.specs.Demand.{demand_of}
use Rattle.live_parts.specs.declared.demand.Demand.{Demand}
use Rattle.live_fleet.specs.declared.speaker.Speaker.{Speaker}
use Rattle.live_fleet.specs.Act.{Act}
use Rattle.live_fleet.specs.Hearing.{HearsLine, Obeys, numbered}
use Rattle.live_fleet.specs.Own.{is_own}
use Rattle.live_fleet.specs.Party.{Stage, with_speaker}
use Rattle.std.proofs.lemmas.Option.{slice_get_read}

some_none : {P : Type 0} (x : Speaker) → None ≡ Some x → P
some_none x bad = cc

-- what was put there is there
pub put-there : (who : List Speaker) (k : ℕ) (sp : Speaker) → k < length who → slice_get (slice_set who k sp) k ≡ Some sp
put-there [] k sp less = absurd (omega (arith, less))
put-there (x ∷ who) zero sp less = refl
put-there (x ∷ who) (suc k) sp less = put-there who k sp (omega (arith, less))

-- of a client for whom the conversation does not speak, and of one for whom it does
pub own-no : {T E : Type 0} (r : Result T E) (who : List Speaker) (k client count : ℕ) (own : Bool) (P Q : Speaker → List Act → Type 0) → own ≡ false → ((sp : Speaker) → slice_get who k ≡ Some sp → own ≡ is_own sp.clients count client)
    → OnOk r ((sp : Speaker) → slice_get who k ≡ Some sp → (acts : List Act) × Q sp acts)
    → OnOk r ((sp : Speaker) → slice_get who k ≡ Some sp → (acts : List Act) × MatchBool (is_own sp.clients count client) (P sp acts) (Q sp acts))
own-no (Ok v) who k client count own P Q none is it = λ sp there. let (acts, q) = it sp there in (acts, subst (λ (b : Bool). MatchBool b (P sp acts) (Q sp acts)) (sym none ∙ is sp there) q)
own-no (Err e) who k client count own P Q none is it = tt

pub own-yes : {T E : Type 0} (r : Result T E) (who : List Speaker) (k client count : ℕ) (own : Bool) (P Q : Speaker → List Act → Type 0) → own ≡ true → ((sp : Speaker) → slice_get who k ≡ Some sp → own ≡ is_own sp.clients count client)
    → OnOk r ((sp : Speaker) → slice_get who k ≡ Some sp → (acts : List Act) × P sp acts)
    → OnOk r ((sp : Speaker) → slice_get who k ≡ Some sp → (acts : List Act) × MatchBool (is_own sp.clients count client) (P sp acts) (Q sp acts))
own-yes (Ok v) who k client count own P Q some is it = λ sp there. let (acts, p) = it sp there in (acts, subst (λ (b : Bool). MatchBool b (P sp acts) (Q sp acts)) (sym some ∙ is sp there) p)
own-yes (Err e) who k client count own P Q some is it = tt

-- the same of another test
pub if-no : {T E : Type 0} (r : Result T E) (who : List Speaker) (k : ℕ) (test is : Bool) (P Q : Speaker → List Act → Type 0) → test ≡ false → test ≡ is → OnOk r ((sp : Speaker) → slice_get who k ≡ Some sp → (acts : List Act) × Q sp acts)
    → OnOk r ((sp : Speaker) → slice_get who k ≡ Some sp → (acts : List Act) × MatchBool is (P sp acts) (Q sp acts))
if-no (Ok v) who k test is P Q none same it = λ sp there. let (acts, q) = it sp there in (acts, subst (λ (b : Bool). MatchBool b (P sp acts) (Q sp acts)) (sym none ∙ same) q)
if-no (Err e) who k test is P Q none same it = tt

pub if-yes : {T E : Type 0} (r : Result T E) (who : List Speaker) (k : ℕ) (test is : Bool) (P Q : Speaker → List Act → Type 0) → test ≡ true → test ≡ is → OnOk r ((sp : Speaker) → slice_get who k ≡ Some sp → (acts : List Act) × P sp acts)
    → OnOk r ((sp : Speaker) → slice_get who k ≡ Some sp → (acts : List Act) × MatchBool is (P sp acts) (Q sp acts))
if-yes (Ok v) who k test is P Q some same it = λ sp there. let (acts, p) = it sp there in (acts, subst (λ (b : Bool). MatchBool b (P sp acts) (Q sp acts)) (sym some ∙ same) p)
if-yes (Err e) who k test is P Q some same it = tt

-- what a line asks is done
pub obeys-as : {T E : Type 0} (r : Result T E) (k : ℕ) (line : Line) (asked demand : Demand) (s t : Stage) → asked ≡ demand → OnOk r ((sp : Speaker) → slice_get s.speakers k ≡ Some sp → (acts : List Act) × Obeys k sp line demand s acts t)
    → OnOk r ((sp : Speaker) → slice_get s.speakers k ≡ Some sp → (acts : List Act) × Obeys k sp line asked s acts t)
obeys-as r k line asked demand s t is it = subst (λ (d : Demand). OnOk r ((sp : Speaker) → slice_get s.speakers k ≡ Some sp → (acts : List Act) × Obeys k sp line d s acts t)) (sym is) it

pub hears-of : {T E : Type 0} (r : Result T E) (k : ℕ) (bytes : List ℕ) (s t : Stage) (read new : Speaker) (line : Line) (asked : Demand) → k < length s.speakers → read ≡ get_or s.speakers k read → new ≡ numbered read
    → line ≡ line_let_in s.door.refused new.lines bytes → asked ≡ demand_of new.rights line.asked line.told
    → OnOk r ((sp : Speaker) → slice_get (slice_set s.speakers k new) k ≡ Some sp → (acts : List Act) × Obeys k sp line asked (with_speaker s k new) acts t) → OnOk r ((acts : List Act) × HearsLine k bytes s acts t)
hears-of (Ok v) k bytes s t read new line asked less at counts is asks it =
    let (acts, obeys) = it new (put-there s.speakers k new less) in (
      acts,
      record {
        before = read;
        speaks = slice_get_read s.speakers (length s.speakers) k read refl less at;
        speaker = new;
        counts = counts;
        line = line;
        is = is;
        obeys = subst (λ (d : Demand). Obeys k new line d (with_speaker s k new) acts t) asks obeys;
      },
    )
hears-of (Err e) k bytes s t read new line asked less at counts is asks it = tt
