-- A dialogue goes on, line by line, and how it ends.
use Rattle.std.proofs.Common.{◌≡◌, ℕ, ◌+◌, ◌<◌, Bool, true, false, inl, inr, List, [], ◌∷◌, ◌++◌, length, Option, Some, None, IfSome, IsTrue, ◌↔◌, refl, sym, ◌∙◌, ap, subst, append_assoc, append-nil}
use Rattle.std.specs.Prelude.{if◌then◌else◌, Result, Ok, Err, IfErr}
use Rattle.std.proofs.lemmas.List.{length-append}
use Rattle.std.proofs.KnownBytes.{Appends-nil, Appends-trans}
use Rattle.std.specs.Io.KnownBytes.{Appends}
use Rattle.fleet_execution.specs.Course.{Course}
use Rattle.fleet_execution.specs.Desk.{Desk}
use Rattle.fleet_execution.specs.Executes.{Executes}
use Rattle.fleet_text.specs.Transfer.{AppendsPrefix}
use Rattle.fleet_talk.specs.Heard.{heard_lines, IsNext}
use Rattle.fleet_talk.proofs.Saying.{prefix-after}
use Rattle.fleet_execute.specs.declared.fault.HoldFault.{HoldFault}
use Rattle.fleet_execute.specs.declared.fault.HoldFault.TheVariants.{Input, Output, NoMemory, Conflict}
use Rattle.fleet_execute.specs.declared.heard.Heard.{Heard}
use Rattle.fleet_execute.specs.declared.heard.Heard.TheVariants.{Nothing, Reached, Other}
use Rattle.fleet_execute.specs.declared.plan.Plan.{Plan}
use Rattle.fleet_execute.specs.Answers.{HasAnswered}
use Rattle.fleet_execute.specs.Goes.{HasTurned, IsDone}
use Rattle.fleet_execute.specs.Heard.{said_by}
use Rattle.fleet_execute.specs.Dialogue.{Turns, Answers, Hears, HasHeard, IsDialogue, IsBegun, BreaksOff, done_text}
use Rattle.fleet_execute.specs.Dialogue.Hears.{opens, hears}
use Rattle.fleet_execute.specs.Dialogue.IsDialogue.{done, over}
use Rattle.fleet_execute.specs.Dialogue.IsBegun.{unopened, heard}
use Rattle.fleet_execute.specs.Dialogue.BreaksOff.{unread, full, conflict, unwritten, undone}
use Rattle.fleet_execute.specs.inside.Held.{IsHeld, IsStuck, IsUnread}

-- what is held, of each course that was executed at first
abbrev pub Held : Plan → Desk → Option (List ℕ) → Option (List ℕ) → ℕ → Desk → Option (List ℕ) → Option (List ℕ) → List ℕ → Type 0
Held plan d0 known left number d before after told = IfSome known (λ bytes. (o : Course) → Executes d0 o → IsHeld plan o bytes left number d before after told)

abbrev pub Broken : Plan → Desk → Option (List ℕ) → Option (List ℕ) → Option (List ℕ) → HoldFault → Type 0
Broken plan d0 known before after fault = IfSome known (λ bytes. (o : Course) → Executes d0 o → BreaksOff plan o bytes before after fault)

abbrev pub Ended : Plan → Desk → Option (List ℕ) → Option (List ℕ) → Option (List ℕ) → Type 0
Ended plan d0 known before after = IfSome known (λ bytes. (o : Course) → Executes d0 o → (text : List ℕ) × IsDialogue plan o bytes text × Appends before after text)

-- no line was read
pub held_first : (plan : Plan) (d0 d : Desk) (known before : Option (List ℕ)) (told : List ℕ) → ((o : Course) → Executes d0 o → HasTurned plan o [] told d) → Held plan d0 known known 1 d before before told
held_first plan d0 d None before told turned = tt
held_first plan d0 d (Some bytes) before told turned = λ o x.
    let t = turned o x in
    record {
      rest = bytes;
      at = refl;
      lines = [];
      parts = refl;
      count = refl;
      last = t.gone.course;
      executes = t.gone.executes;
      text = told;
      hears = opens told t.gone.course (record { moves = t.moves; goes = t.gone.goes; written = t.written; returned = t.returned; none = t.none });
      written = [];
      taken = Appends-nil before;
      whole = refl;
      begun = unopened refl;
    }

heard_of : (plan : Plan) (o : Course) (bytes : List ℕ) (left : Option (List ℕ)) (number : ℕ) (d : Desk) (before after : Option (List ℕ)) (told : List ℕ)
    → (h : IsHeld plan o bytes left number d before after told) → HasHeard plan o bytes h.text h.last (heard_lines h.rest)
heard_of plan o bytes left number d before after told h = record { lines = h.lines; parts = h.parts; hears = h.hears }

-- all that was said is written
taken_of : (plan : Plan) (o : Course) (bytes : List ℕ) (left : Option (List ℕ)) (number : ℕ) (d : Desk) (before mid after : Option (List ℕ)) (told : List ℕ)
    → (h : IsHeld plan o bytes left number d before mid told) → Appends mid after told → Appends before after h.text
taken_of plan o bytes left number d before mid after told h more =
    subst (λ (l : List ℕ). Appends before after l) (sym h.whole) (Appends-trans before mid after h.written told h.taken more)

-- all is done, and that is said too
whole_of : (plan : Plan) (o : Course) (bytes : List ℕ) (left : Option (List ℕ)) (number : ℕ) (d : Desk) (before after : Option (List ℕ)) (told : List ℕ)
    → (h : IsHeld plan o bytes left number d before after told) → h.text ++ done_text ≡ h.written ++ (told ++ done_text)
whole_of plan o bytes left number d before after told h = ap (λ (l : List ℕ). l ++ done_text) h.whole ∙ append_assoc h.written told done_text

pub held_done : (plan : Plan) (d0 d : Desk) (known left : Option (List ℕ)) (number : ℕ) (before mid after : Option (List ℕ)) (told all : List ℕ) → Held plan d0 known left number d before mid told
    → ((o : Course) → Executes d o → IsDone plan o) → all ≡ told ++ done_text → Appends mid after all → Ended plan d0 known before after
held_done plan d0 d None left number before mid after told all held is_done is more = tt
held_done plan d0 d (Some bytes) left number before mid after told all held is_done is more = λ o x.
    let h = held o x in (
      h.text ++ done_text,
      done h.text h.last (heard_lines h.rest) (heard_of plan o bytes left number d before mid told h) (is_done h.last h.executes) refl,
      subst (λ (l : List ℕ). Appends before after l) (sym (whole_of plan o bytes left number d before mid told h ∙ ap (λ (l : List ℕ). h.written ++ l) (sym is)))
          (Appends-trans before mid after h.written all h.taken more),
    )

pub held_undone : (plan : Plan) (d0 d : Desk) (known left : Option (List ℕ)) (number : ℕ) (before mid after : Option (List ℕ)) (told all : List ℕ) (fault : HoldFault)
    → Held plan d0 known left number d before mid told → ((o : Course) → Executes d o → IsDone plan o) → all ≡ told ++ done_text → (fault ≡ Output) × AppendsPrefix mid after all
    → Broken plan d0 known before after fault
held_undone plan d0 d None left number before mid after told all fault held is_done is cut = tt
held_undone plan d0 d (Some bytes) left number before mid after told all fault held is_done is cut = λ o x.
    let h = held o x in
    subst (λ (f : HoldFault). BreaksOff plan o bytes before after f) (sym cut.0)
    (undone (h.text ++ done_text) (done h.text h.last (heard_lines h.rest) (heard_of plan o bytes left number d before mid told h) (is_done h.last h.executes) refl)
    (subst (λ (l : List ℕ). AppendsPrefix before after l) (sym (whole_of plan o bytes left number d before mid told h ∙ ap (λ (l : List ℕ). h.written ++ l) (sym is)))
    (prefix-after before mid after h.written all h.taken cut.1)))

-- what was said is not written
pub held_unwritten : (plan : Plan) (d0 d : Desk) (known left : Option (List ℕ)) (number : ℕ) (before mid after : Option (List ℕ)) (told : List ℕ) (fault : HoldFault)
    → Held plan d0 known left number d before mid told → (fault ≡ Output) × AppendsPrefix mid after told → Broken plan d0 known before after fault
held_unwritten plan d0 d None left number before mid after told fault held cut = tt
held_unwritten plan d0 d (Some bytes) left number before mid after told fault held cut = λ o x.
    let h = held o x in
    subst (λ (f : HoldFault). BreaksOff plan o bytes before after f) (sym cut.0)
    (unwritten h.text (heard h.last (heard_lines h.rest) (heard_of plan o bytes left number d before mid told h))
    (subst (λ (l : List ℕ). AppendsPrefix before after l) (sym h.whole) (prefix-after before mid after h.written told h.taken cut.1)))

-- how it breaks off with a text
broken_stuck : (plan : Plan) (o : Course) (bytes : List ℕ) (before after : Option (List ℕ)) (fault : HoldFault) (text : List ℕ) → IsBegun plan o bytes text → Appends before after text → IsStuck fault
    → BreaksOff plan o bytes before after fault
broken_stuck plan o bytes before after fault text begun taken (inl is) = subst (λ (f : HoldFault). BreaksOff plan o bytes before after f) (sym is) (full text begun taken)
broken_stuck plan o bytes before after fault text begun taken (inr (tick, is)) =
    subst (λ (f : HoldFault). BreaksOff plan o bytes before after f) (sym is) (conflict text tick begun taken)

broken_unread : (plan : Plan) (o : Course) (bytes : List ℕ) (before after : Option (List ℕ)) (fault : HoldFault) (text : List ℕ) → IsBegun plan o bytes text → Appends before after text → IsUnread fault
    → BreaksOff plan o bytes before after fault
broken_unread plan o bytes before after fault text begun taken (inl is) = subst (λ (f : HoldFault). BreaksOff plan o bytes before after f) (sym is) (unread text begun taken)
broken_unread plan o bytes before after fault text begun taken (inr is) = subst (λ (f : HoldFault). BreaksOff plan o bytes before after f) (sym is) (full text begun taken)

pub never_held : (plan : Plan) (d0 : Desk) (known before : Option (List ℕ)) (fault : HoldFault) → IsStuck fault → Broken plan d0 known before before fault
never_held plan d0 None before fault stuck = tt
never_held plan d0 (Some bytes) before fault stuck = λ o x. broken_stuck plan o bytes before before fault [] (unopened refl) (Appends-nil before) stuck

-- before what was said is written
pub held_before : (plan : Plan) (d0 d : Desk) (known left : Option (List ℕ)) (number : ℕ) (before after : Option (List ℕ)) (told : List ℕ) (fault : HoldFault)
    → Held plan d0 known left number d before after told → IsUnread fault → Broken plan d0 known before after fault
held_before plan d0 d None left number before after told fault held why = tt
held_before plan d0 d (Some bytes) left number before after told fault held why = λ o x.
    let h = held o x in broken_unread plan o bytes before after fault h.written h.begun h.taken why

-- after it
pub held_unread : (plan : Plan) (d0 d : Desk) (known left : Option (List ℕ)) (number : ℕ) (before mid after : Option (List ℕ)) (told : List ℕ) (fault : HoldFault)
    → Held plan d0 known left number d before mid told → Appends mid after told → IsUnread fault → Broken plan d0 known before after fault
held_unread plan d0 d None left number before mid after told fault held more why = tt
held_unread plan d0 d (Some bytes) left number before mid after told fault held more why = λ o x.
    let h = held o x in
    broken_unread plan o bytes before after fault h.text (heard h.last (heard_lines h.rest) (heard_of plan o bytes left number d before mid told h)) (taken_of plan o bytes left number d before mid after told h more) why

pub held_stuck : (plan : Plan) (d0 d : Desk) (known left : Option (List ℕ)) (number : ℕ) (before mid after : Option (List ℕ)) (told : List ℕ) (fault : HoldFault)
    → Held plan d0 known left number d before mid told → Appends mid after told → IsStuck fault → Broken plan d0 known before after fault
held_stuck plan d0 d None left number before mid after told fault held more why = tt
held_stuck plan d0 d (Some bytes) left number before mid after told fault held more why = λ o x.
    let h = held o x in
    broken_stuck plan o bytes before after fault h.text (heard h.last (heard_lines h.rest) (heard_of plan o bytes left number d before mid told h)) (taken_of plan o bytes left number d before mid after told h more) why

-- the line that comes next
abbrev pub Next : Option (List ℕ) → Option (List ℕ) → Bool → List ℕ → Type 0
Next left after found line = IfSome left (λ xs. IsNext xs after found line)

next_of : (left after : Option (List ℕ)) (found : Bool) (line rest : List ℕ) → left ≡ Some rest → Next left after found line → IsNext rest after found line
next_of left after found line rest at next = subst (λ (l : Option (List ℕ)). Next l after found line) at next

-- no line is left
pub held_over : (plan : Plan) (d0 d : Desk) (known left left_after : Option (List ℕ)) (number : ℕ) (before mid after : Option (List ℕ)) (told line : List ℕ) (found : Bool)
    → Held plan d0 known left number d before mid told → ((o : Course) → Executes d o → IsDone plan o → ⊥) → Appends mid after told → Next left left_after found line → found ≡ false
    → Ended plan d0 known before after
held_over plan d0 d None left left_after number before mid after told line found held not_done more next none = tt
held_over plan d0 d (Some bytes) left left_after number before mid after told line found held not_done more next none = λ o x.
    let h = held o x in
    let n = next_of left left_after found line h.rest h.at next in
    let empty : heard_lines h.rest ≡ [] = subst (λ (b : Bool). heard_lines h.rest ≡ (if b then line ∷ heard_lines n.0 else [])) none n.2 in (
      h.text,
      over h.last (record { lines = h.lines; parts = h.parts ∙ ap (λ (ls : List (List ℕ)). h.lines ++ ls) empty; hears = h.hears }) (not_done h.last h.executes),
      taken_of plan o bytes left number d before mid after told h more,
    )

-- the answer as courses have it
answered : (plan : Plan) (number : ℕ) (asked : Heard) (o : Course) (more : List ℕ) (d : Desk) → HasAnswered plan number asked o [] more d
    → (q : Course) × Executes d q × Answers plan number asked o more q
answered plan number Nothing o more d (is, x) = (o, x, (is, refl))
answered plan number Other o more d (is, x) = (o, x, (is, refl))
answered plan number (Reached r) o more d (inl (c, reports, t)) =
    (t.gone.course, t.gone.executes, inl (c, reports, record { moves = t.moves; goes = t.gone.goes; written = t.written; returned = t.returned; none = t.none }))
answered plan number (Reached r) o more d (inr (idle, is, x)) = (o, x, inr (idle, is, refl))

-- one more line was answered
pub held_next : (plan : Plan) (d0 d e : Desk) (known left left_after : Option (List ℕ)) (number : ℕ) (before mid after : Option (List ℕ)) (told line more : List ℕ) (found : Bool)
    → Held plan d0 known left number d before mid told → ((o : Course) → Executes d o → IsDone plan o → ⊥) → Appends mid after told → Next left left_after found line → found ≡ true
    → ((o : Course) → Executes d o → HasAnswered plan number (said_by line) o [] more e) → Held plan d0 known left_after (number + 1) e before after more
held_next plan d0 d e None left left_after number before mid after told line more found held not_done taken next some asked = tt
held_next plan d0 d e (Some bytes) left left_after number before mid after told line more found held not_done taken next some asked = λ o x.
    let h = held o x in
    let n = next_of left left_after found line h.rest h.at next in
    let one : heard_lines h.rest ≡ line ∷ heard_lines n.0 = subst (λ (b : Bool). heard_lines h.rest ≡ (if b then line ∷ heard_lines n.0 else [])) some n.2 in
    let (q, runs, answers) = answered plan number (said_by line) h.last more e (asked h.last h.executes) in
    record {
      rest = n.0;
      at = n.1;
      lines = h.lines ++ line ∷ [];
      parts = h.parts ∙ (ap (λ (ls : List (List ℕ)). h.lines ++ ls) one ∙ sym (append_assoc h.lines (line ∷ []) (heard_lines n.0)));
      count = ap (λ (k : ℕ). k + 1) h.count ∙ ap (λ (k : ℕ). k + 1) (sym (length-append h.lines (line ∷ [])));
      last = q;
      executes = runs;
      text = h.text ++ more;
      hears = hears h.lines h.text h.last line more q h.hears (not_done h.last h.executes) (subst (λ (k : ℕ). Answers plan k (said_by line) h.last more q) h.count answers);
      written = h.text;
      taken = taken_of plan o bytes left number d before mid after told h taken;
      whole = refl;
      begun = heard h.last (heard_lines h.rest) (heard_of plan o bytes left number d before mid told h);
    }

pub err_weaker : {X E : Type 0} (r : Result X E) (P Q : E → Type 0) → ((e : E) → P e → Q e) → IfErr r P → IfErr r Q
err_weaker (Ok x) P Q f p = tt
err_weaker (Err e) P Q f p = f e p
