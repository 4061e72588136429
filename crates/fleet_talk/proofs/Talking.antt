-- Acts one after another, and what is said of them.
use Rattle.std.proofs.Common.{◌≡◌, ◌∙◌, ℕ, ◌+◌, Bool, true, false, cond, List, [], ◌∷◌, ◌++◌, Option, Result, refl, sym, ap, subst}
use Rattle.std.specs.Prelude.{replicate, OnOk}
use Rattle.std.proofs.lemmas.List.{append-nil, append_assoc, replicate_more}
use Rattle.std.proofs.lemmas.Result.{on_ok_weaker}
use Rattle.fleet_book.specs.declared.event.Event.{Event}
use Rattle.fleet_history.specs.declared.history.Entry.{Entry}
use Rattle.fleet_world.specs.declared.reply.Reply.{Reply}
use Rattle.fleet_text.specs.Output.{event_text}
use Rattle.fleet_world.specs.Talk.{Talk}
use Rattle.fleet_talk.specs.declared.ends.Settings.{Settings}
use Rattle.fleet_talk.specs.declared.pen.Pen.{Pen}
use Rattle.fleet_talk.specs.declared.ask.Line.{Line}
use Rattle.fleet_talk.specs.Act.{Act, acts_asked, acts_end, acts_on, say}
use Rattle.fleet_talk.specs.Acts.{Does, Talks, last_entry}
use Rattle.fleet_talk.specs.Fleet.{Fleet}
use Rattle.fleet_talk.specs.Lines.{line_shown}
use Rattle.fleet_talk.specs.Look.{IsLook}
use Rattle.fleet_talk.specs.Said.{IsAdded, under, end_said}
use Rattle.fleet_talk.specs.Says.{Says, marked, end_line}
use Rattle.fleet_talk.proofs.Saying.{says-then, says-added}

-- ---- acts

module _ {A : Type 0} (roll : Option ℕ) where
  pub talks-one : (s t : Fleet A) (act : Act) (text : List ℕ) → Does roll s act text t → Talks roll s (act ∷ []) text t
  talks-one s t act text does = (t, text, [], does, (refl, refl), sym (append-nil text))

  pub talks-append : (s m t : Fleet A) (xs ys : List Act) (first rest : List ℕ) → Talks roll s xs first m → Talks roll m ys rest t → Talks roll s (xs ++ ys) (first ++ rest) t
  talks-append s m t [] ys first rest (none, same) more =
      subst (λ (x : List ℕ). Talks roll s ys (x ++ rest) t) (sym none) (subst (λ (x : Fleet A). Talks roll x ys rest t) same more)
  talks-append s m t (act ∷ xs) ys first rest (mid, one, others, does, talks, is) more =
      (mid, one, others ++ rest, does, talks-append mid m t xs ys others rest talks more, ap (λ l. l ++ rest) is ∙ append_assoc one others rest)

  -- the same act once more
  pub talks-more : (s m t : Fleet A) (act : Act) (n : ℕ) (first rest : List ℕ) → Talks roll s (replicate n act) first m → Does roll m act rest t → Talks roll s (replicate (n + 1) act) (first ++ rest) t
  talks-more s m t act n first rest talks does =
      subst (λ (acts : List Act). Talks roll s acts (first ++ rest) t) (replicate_more n act)
      (talks-append s m t (replicate n act) (act ∷ []) first rest talks (talks-one m t act rest does))

  -- the end of a line's answer
  pub talks-end : (settings : Settings) (line : Line) (s : Fleet A) → Talks roll s (acts_end settings (line_shown line)) (end_said settings line) s
  talks-end settings line s = by settings.marks
    where
      by : (b : Bool) → Talks {A = A} roll s (cond b (say (under line.mark) (end_line line.number) ∷ []) []) (cond b (marked (under line.mark) (end_line line.number)) []) s
      by true = talks-one s s (say (under line.mark) (end_line line.number)) _ (refl, refl)
      by false = (refl, refl)

-- ---- what is said

-- one text after another that waits
pub added-then : (a b d : Pen) (first rest : List ℕ) → IsAdded a b first → IsAdded b d rest → IsAdded a d (first ++ rest)
added-then a b d first rest x y = record {
  out = y.out ∙ (ap (λ l. l ++ rest) x.out ∙ append_assoc a.out.items first rest);
  settings = y.settings ∙ x.settings;
}

-- ---- single acts

-- what is done at a line, and the end of its answer
pub answered : {A : Type 0} (settings : Settings) (s t : Fleet A) (line : Line) (a b : Option (List ℕ)) (o p q text : List ℕ) →
    Talks settings.roll s (acts_asked (line_shown line) line.asked) text t → Says a b o p text → q ≡ p ++ end_said settings line
    → (x : List ℕ) × Talks settings.roll s (acts_on settings (line_shown line)) x t × Says a b o q x
answered settings s t line a b o p q text talks says added = (
  text ++ end_said settings line,
  talks-append settings.roll s t t (acts_asked (line_shown line) line.asked) (acts_end settings (line_shown line)) text (end_said settings line) talks (talks-end settings.roll settings line t),
  says-then a b b o p q text (end_said settings line) says (says-added b p q (end_said settings line) added),
)

pub shown : {A E : Type 0} (r : Result (Unit {0}) E) (s : Fleet A) (mark : Option (List ℕ)) (line said : List ℕ) (old new : Pen) → said ≡ line → IsLook s.talk.world line
    → OnOk r (IsAdded old new (marked mark said))
    → OnOk r ((text : List ℕ) × ((l : List ℕ) × IsLook s.talk.world l × (text ≡ marked mark l) × (s ≡ s)) × IsAdded old new text)
shown r s mark line said old new e look = on_ok_weaker r (λ h. (marked mark said, (line, look, ap (marked mark) e, refl), h))

pub told : {A E : Type 0} (r : Result (Unit {0}) E) (t : Talk A) (mark : Option (List ℕ)) (e : Event) (reply : Reply) (text before said : List ℕ) (entry : Option (Entry A)) (old mid new : Pen) →
    before ≡ [] → text ≡ before ++ event_text e reply entry → entry ≡ last_entry t → said ≡ text →
    mid.out ≡ old.out → mid.settings ≡ old.settings → OnOk r (IsAdded mid new (marked mark said))
    → OnOk r (IsAdded old new (marked mark (event_text e reply (last_entry t))))
told r t mark e reply text before said entry old mid new none is last same out settings =
    let texts : said ≡ event_text e reply (last_entry t) = same ∙ (is ∙ (ap (λ l. l ++ event_text e reply entry) none ∙ ap (event_text e reply) last)) in
    on_ok_weaker r (λ h. record { out = h.out ∙ (ap (λ v. v.items ++ marked mark said) out ∙ ap (λ l. old.out.items ++ marked mark l) texts); settings = h.settings ∙ settings })
