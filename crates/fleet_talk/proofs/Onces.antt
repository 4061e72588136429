-- One act of a line, in two parts where a chapter is to be kept in between.
use Rattle.std.proofs.Common.{◌≡◌, ◌∙◌, ℕ, Bool, true, List, [], ◌∷◌, Option, Some, None, refl, sym, ap, subst, append-nil}
use Rattle.std.specs.Prelude.{replicate, MatchOption}
use Rattle.std.specs.declared.alloc.Global.{Global}
use Rattle.fleet_history.specs.declared.history.Chapter.{Chapter}
use Rattle.fleet_history.specs.History.{history_of}
use Rattle.fleet_history.specs.Legal.{IsLegal}
use Rattle.fleet_bound.specs.Roomy.{AdvancesIfRoomy}
use Rattle.fleet_core.specs.Core.{ServesInTurns}
use Rattle.fleet_book.specs.declared.event.Event.{Event}
use Rattle.fleet_world.specs.declared.reply.Reply.{Reply}
use Rattle.fleet_world.specs.Talk.{Talk, TalkStep, next_talk}
use Rattle.fleet_talk.specs.declared.ask.Asked.{Asked}
use Rattle.fleet_talk.specs.declared.ask.Asked.TheVariants.{Nothing, Events, Chapter as TheChapter, Look, Open, Quit, Other, Long, NoRoom}
use Rattle.fleet_talk.specs.declared.ends.Settings.{Settings}
use Rattle.fleet_talk.specs.declared.fault.TalkFault.{TalkFault}
use Rattle.fleet_talk.specs.declared.pen.Pen.{Pen}
use Rattle.fleet_talk.specs.Act.{Act, act_asked, acts_asked, acts_end, acts_on, list, play, refuse, say, show, times_asked, turn}
use Rattle.fleet_talk.specs.Acts.{Does, IsDue, Plays, Talks, handed, rolls, wants_room}
use Rattle.fleet_talk.specs.Ask.{Line}
use Rattle.fleet_talk.specs.Chapters.{Adds, ChapterView, KeepsTurned, beginning, chapter_in, chapter_shown}
use Rattle.fleet_talk.specs.Fleet.{Fleet}
use Rattle.fleet_talk.specs.Once.{Comes, GoesOn, Hands, Wants, handed_text}
use Rattle.fleet_talk.specs.Long.{IsLong}
use Rattle.fleet_talk.specs.Said.{IsAdded, IsKept}
use Rattle.fleet_talk.specs.Talked.{TalksUntil}
use Rattle.fleet_talk.proofs.Breaking.{until-more}
use Rattle.fleet_talk.proofs.Keeping.{keeps-one, keeps-same, keeps-then}
use Rattle.fleet_talk.proofs.Rolling.{long-due, needed}
use Rattle.fleet_talk.proofs.Talking.{added-then}

-- a line's acts are one act, so many times
pub asked-times : (line : Line) (asked : Asked) → acts_asked line asked ≡ replicate (times_asked asked) (act_asked line asked)
asked-times line Nothing = refl
asked-times line (Events more) = refl
asked-times line TheChapter = refl
asked-times line Look = refl
asked-times line (Open client) = refl
asked-times line Quit = refl
asked-times line Other = refl
asked-times line Long = refl
asked-times line (NoRoom client) = refl

-- a chapter was handed out for an event that was refused, and changed nothing
pub comes-handed : (roll : Option ℕ) (s m t : Talk Global) (e : Event) (reply : Reply) (found : Option (Chapter Global)) (chapter : Chapter Global) → TalkStep s e reply m → wants_room roll reply ≡ true
    → Hands m found t → found ≡ Some chapter → IsDue roll s e × Hands s (Some chapter) t
comes-handed roll s m t e reply found chapter step wants hands is =
    let (due, same) = needed roll s m e reply step wants in
    (due, subst (λ (x : Talk Global). Hands x (Some chapter) t) same (subst (λ (o : Option (Chapter Global)). Hands m o t) is hands))

-- the chapter is the last, so nothing was handed out
pub hands-none : (m t : Talk Global) (found : Option (Chapter Global)) → Hands m found t → found ≡ None → Hands m None t
hands-none m t found hands is = subst (λ (o : Option (Chapter Global)). Hands m o t) is hands

-- all of a line's acts were done
pub all-asked : {A : Type 0} (roll : Option ℕ) (s m : Fleet A) (line : Line) (asked : Asked) (n : ℕ) (text : List ℕ) → n ≡ times_asked asked → Talks roll s (replicate n (act_asked line asked)) text m
    → Talks roll s (acts_asked line asked) text m
all-asked roll s m line asked n text same talks =
    subst (λ (acts : List Act). Talks roll s acts text m) (ap (λ (k : ℕ). replicate k (act_asked line asked)) same ∙ sym (asked-times line asked)) talks

-- some of them were, before a fault
pub until-asked : {A : Type 0} (fault : TalkFault) (settings : Settings) (s : Fleet A) (line : Line) (n : ℕ) (a b : Option (List ℕ)) (o p : List ℕ) → n ≡ times_asked line.asked
    → TalksUntil fault settings.roll s (replicate n (act_asked line line.asked)) a b o p → TalksUntil fault settings.roll s (acts_on settings line) a b o p
until-asked fault settings s line n a b o p same u =
    until-more fault settings.roll s (acts_asked line line.asked) (acts_end settings line) a b o p
    (subst (λ (acts : List Act). TalksUntil fault settings.roll s acts a b o p) (ap (λ (k : ℕ). replicate k (act_asked line line.asked)) same ∙ sym (asked-times line line.asked)) u)

pub kept-added : (old new : Pen) → IsKept old new → IsAdded old new []
kept-added old new kept = record { out = kept.out ∙ sym (append-nil old.out.items); settings = kept.settings }

-- the chapter that was handed out is the one that the world was in
pub hands-over : (s t : Talk Global) (chapter : Chapter Global) → chapter.number ≡ s.world.number → history_of chapter ≡ s.world.history → IsLegal s.world.floor s.world.history
    → (s.world.turns ≡ None → AdvancesIfRoomy s.world.floor s.world.history) → ServesInTurns s.world.turns s.world.floor s.world.history → t ≡ next_talk s → Hands s (Some chapter) t
hands-over s t chapter number history legal advancing served next = (
  rw (number, history) refl,
  record { legal = legal; advancing = advancing; served = served },
  next,
)

-- the event was done in the fleet as it is, whatever was met before
with_met : {A : Type 0} (m : Fleet A) (met : Bool) → m.met ≡ met → m ≡ record { talk = m.talk; met = met }
with_met m met same = ap (λ (b : Bool). record { talk = m.talk; met = b }) same

pub does-turned : (roll : Option ℕ) (s m t : Fleet Global) (act : Act) (chapter : Chapter Global) (text : List ℕ) → Wants roll s act → Hands s.talk (Some chapter) m.talk → m.met ≡ s.met
    → GoesOn m act (chapter_shown chapter) text t → Does roll s act text t
does-turned roll s m t (turn mark) chapter text wants (is, sound, next) met (said, same) =
    let texts : text ≡ handed_text mark (chapter_in s.talk.world) = said ∙ ap (λ (c : ChapterView Global). handed_text mark c) is in
    (handed (ap (λ (f : Fleet Global). f.talk) same ∙ next) texts, ap (λ (f : Fleet Global). f.met) same ∙ met)
does-turned roll s m t (play mark e) chapter text due (is, sound, next) met (after, plays, said) =
    let first : handed_text mark (chapter_shown chapter) ≡ handed_text mark (chapter_in s.talk.world) = ap (λ (c : ChapterView Global). handed_text mark c) is in (
      m.talk,
      handed_text mark (chapter_shown chapter),
      after,
      rolls due next first,
      subst (λ (f : Fleet Global). Plays f mark e after t) (with_met m s.met met) plays,
      said,
    )
does-turned roll s m t (say mark line) chapter text wants hands met goes = absurd wants
does-turned roll s m t (show mark) chapter text wants hands met goes = absurd wants
does-turned roll s m t (list mark client) chapter text wants hands met goes = absurd wants
does-turned roll s m t (refuse mark client) chapter text wants hands met goes = absurd wants

-- the same of what one call came to, and the call after it
pub once-turned : (roll : Option ℕ) (s m t : Fleet Global) (act : Act) (found : Option (Chapter Global)) (chapter : Chapter Global) (old mid new : Pen) → Comes roll s act found old mid m → found ≡ Some chapter
    → (text : List ℕ) × GoesOn m act (chapter_shown chapter) text t × IsAdded mid new text → (text : List ℕ) × Does roll s act text t × IsAdded old new text
once-turned roll s m t act found chapter old mid new comes is (text, goes, added) =
    let (wants, hands, met, kept) = subst (λ (o : Option (Chapter Global)). Comes roll s act o old mid m) is comes in
    (text, does-turned roll s m t act chapter text wants hands met goes, added-then old mid new [] text (kept-added old mid kept) added)

-- the chapter was kept, and nothing after it began another
pub once-kept : (roll : Option ℕ) (a b : Option (List (ChapterView Global))) (s m t : Fleet Global) (act : Act) (found : Option (Chapter Global)) (chapter : Chapter Global) (old mid : Pen) → Comes roll s act found old mid m → found ≡ Some chapter
    → Adds a b (chapter_shown chapter ∷ []) → beginning t.talk.world ≡ beginning m.talk.world → KeepsTurned a b s.talk t.talk
once-kept roll a b s m t act found chapter old mid comes is added same =
    let (wants, (shown, sound, next), met, kept) = subst (λ (o : Option (Chapter Global)). Comes roll s act o old mid m) is comes in
    keeps-then a b b s.talk m.talk t.talk
    (keeps-one a b s.talk m.talk s.talk.world.number s.talk.world.history refl refl sound next (subst (λ (c : ChapterView Global). Adds a b (c ∷ [])) shown added))
    (keeps-same b m.talk t.talk same)

-- ---- an event before which the chapter may be too long

-- the chapter was handed out, since its text may be too long
pub comes-long : (roll : Option ℕ) (s t : Talk Global) (e : Event) (found : Option (Chapter Global)) (chapter : Chapter Global) → MatchOption roll ⊥ (λ r. IsLong r s e) → Hands s found t → found ≡ Some chapter
    → IsDue roll s e × Hands s (Some chapter) t
comes-long roll s t e found chapter long hands is = (long-due roll s e long, subst (λ (o : Option (Chapter Global)). Hands s o t) is hands)

-- the chapter is the last, so it goes on
pub comes-on : (roll : Option ℕ) (s m t : Fleet Global) (act : Act) (found : Option (Chapter Global)) (old new : Pen) → m.talk ≡ s.talk → m.met ≡ s.met → Comes roll m act found old new t → Comes roll s act found old new t
comes-on roll s m t act found old new same met comes = subst (λ (f : Fleet Global). Comes roll f act found old new t) (with_met m s.met met ∙ ap (λ (x : Talk Global). record { talk = x; met = s.met }) same) comes
