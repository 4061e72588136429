-- Events that may find the chapter full, and orders that are judged.
use Rattle.std.proofs.Common.{◌≡◌, ◌∙◌, ℕ, ◌+◌, ◌≤◌, ◌<◌, Bool, true, false, ◌||◌, ◌⊎◌, inl, inr, List, [], ◌∷◌, ◌++◌, length, Result, Ok, Err, refl, sym, ap, subst, arith, length-append}
use Rattle.std.specs.List.{AllByRecursion}
use Rattle.std.specs.Prelude.{IfOk, map}
use Rattle.std.proofs.lemmas.List.{map-append}
use Rattle.std.proofs.lemmas.Result.{IfOk-weaker}
use Rattle.fleet_history.specs.declared.history.Chapter.{Chapter}
use Rattle.fleet_history.specs.History.{History, history_of}
use Rattle.std.specs.declared.alloc.Global.{Global}
use Rattle.fleet_book.specs.declared.event.Event.{Event}
use Rattle.fleet_book.specs.declared.event.Event.TheVariants.{Take}
use Rattle.fleet_core.specs.declared.faults.TakeFault.TheVariants as take_fault
use Rattle.fleet_text.specs.Output.{is_limit_met}
use Rattle.fleet_world.specs.declared.reply.Reply.{Reply}
use Rattle.fleet_world.specs.declared.reply.Reply.TheVariants.{Took, LaneEmpty, TakeRefused, NoClient}
use Rattle.fleet_world.specs.Talk.{Talk, TalkStep, next_talk, waiting}
use Rattle.fleet_talk.specs.Acts.{NeedsRoom}
use Rattle.fleet_talk.specs.Chapters.{ChapterView, IsSound, chapter_in, chapter_shown}
use Rattle.live_parts.specs.Recalls.{Recalls}
use Rattle.live_fleet.proofs.Rolling.{needed}
use Rattle.live_fleet.specs.Act.{Act, Runs, did, full, handed}
use Rattle.live_fleet.specs.Out.{Out}
use Rattle.live_fleet.specs.Stepping.{HandsOut, HandsOver, IsLast, StepsOn, here, next, wants_room}
use Rattle.live_fleet.specs.Taking.{AllTaken, HasNoOrder, IsTaking, TakesOne, is_took}
use Rattle.live_fleet.specs.Went.{At, FleetView, Went}
use Rattle.live_fleet.proofs.Going.{went-did, went-full, went-handed, went-none, went-then}
use Rattle.live_fleet.proofs.Parts.{all-then, nothing-in}

fleet_with : Talk Global → Bool → Recalls → FleetView
fleet_with talk met recalls = record { talk = talk; met = met; recalls = recalls }

fleet_same : (a b : FleetView) → b.talk ≡ a.talk → b.met ≡ a.met → b.recalls ≡ a.recalls → b ≡ a
unfolding fleet_with
fleet_same a b t m r =
    let one : fleet_with b.talk b.met b.recalls ≡ fleet_with a.talk b.met b.recalls = ap (λ (v : Talk Global). fleet_with v b.met b.recalls) t in
    let two : fleet_with a.talk b.met b.recalls ≡ fleet_with a.talk a.met b.recalls = ap (λ v. fleet_with a.talk v b.recalls) m in
    one ∙ (two ∙ ap (λ (v : Recalls). fleet_with a.talk a.met v) r)

at_with : FleetView → List (List ℕ) → List (ChapterView Global) → At
at_with fleet texts chapters = record { fleet = fleet; out = record { texts = texts; chapters = chapters } }

at_of_parts : (a b : At) → b.fleet ≡ a.fleet → b.out.texts ≡ a.out.texts → b.out.chapters ≡ a.out.chapters → b ≡ a
unfolding at_with
at_of_parts a b f x c =
    let one : at_with b.fleet b.out.texts b.out.chapters ≡ at_with a.fleet b.out.texts b.out.chapters = ap (λ (v : FleetView). at_with v b.out.texts b.out.chapters) f in
    let two : at_with a.fleet b.out.texts b.out.chapters ≡ at_with a.fleet a.out.texts b.out.chapters = ap (λ v. at_with a.fleet v b.out.chapters) x in
    one ∙ (two ∙ ap (λ v. at_with a.fleet a.out.texts v) c)

pub at-same : (a b : At) → b.fleet.talk ≡ a.fleet.talk → b.fleet.met ≡ a.fleet.met → b.fleet.recalls ≡ a.fleet.recalls → b.out.texts ≡ a.out.texts → b.out.chapters ≡ a.out.chapters → b ≡ a
at-same a b t m r x c = at_of_parts a b (fleet_same a.fleet b.fleet t m r) x c

pub hands-out : (a b : At) (is : Bool) (chapters : List (ChapterView Global)) → chapters ≡ a.out.chapters → HandsOver a.fleet.talk chapters is b.fleet.talk b.out.chapters → b.fleet.met ≡ a.fleet.met → b.fleet.recalls ≡ a.fleet.recalls → b.out.texts ≡ a.out.texts
    → (acts : List Act) × HandsOut a is acts b
hands-out a b true chapters same (sound, follows, grown) met recalls texts =
    (handed (chapter_in a.fleet.talk.world) ∷ [], (refl, went-handed a b sound follows met recalls texts (grown ∙ ap (λ (l : List (ChapterView Global)). l ++ chapter_in a.fleet.talk.world ∷ []) same)))
hands-out a b false chapters same (last, stays, kept) met recalls texts = ([], (last, refl, at-same a b stays met recalls texts (kept ∙ same)))

-- ---- events

pub steps-here : (a b : At) (e : Event) (reply : Reply) → TalkStep a.fleet.talk e reply b.fleet.talk → b.fleet.met ≡ (a.fleet.met || is_limit_met reply) → b.fleet.recalls ≡ a.fleet.recalls → b.out ≡ a.out → wants_room reply ≡ false
    → (acts : List Act) × StepsOn e reply a acts b
steps-here a b e reply step met recalls same other = (did e reply ∷ [], here refl (λ wants. absurd (let bad : false ≡ true = sym other ∙ wants in cc)) (went-did a b e reply step met recalls same))

-- the chapter was the last
pub steps-last : (a m b : At) (e : Event) (reply : Reply) → TalkStep a.fleet.talk e reply m.fleet.talk → m.fleet.met ≡ a.fleet.met → m.fleet.recalls ≡ a.fleet.recalls → wants_room reply ≡ true → ((none : List Act) × HandsOut m false none b) → (c : At) → c.fleet.talk ≡ b.fleet.talk
    → c.fleet.met ≡ (b.fleet.met || is_limit_met reply) → c.fleet.recalls ≡ b.fleet.recalls → c.out ≡ b.out → m.out ≡ a.out → (acts : List Act) × StepsOn e reply a acts c
steps-last a m b e reply step met recalls wants (none, (last, is_none, stays)) c talk limited kept out same =
    let found = needed a.fleet.talk m.fleet.talk e reply step wants in
    let there : c.fleet.talk ≡ m.fleet.talk = talk ∙ ap (λ (x : At). x.fleet.talk) stays in (
      did e reply ∷ [],
      here refl (λ _. subst (λ (x : Talk Global). IsLast x.world) found.1 last)
          (went-did a c e reply (subst (λ (x : Talk Global). TalkStep a.fleet.talk e reply x) (sym there) step)
          (limited ∙ ap (λ v. v || is_limit_met reply) (ap (λ (x : At). x.fleet.met) stays ∙ met)) (kept ∙ (ap (λ (x : At). x.fleet.recalls) stays ∙ recalls)) (out ∙ (ap (λ (x : At). x.out) stays ∙ same))),
    )

-- the event was done in the next chapter
pub steps-next : (a m n b : At) (e : Event) (first reply : Reply) → TalkStep a.fleet.talk e first m.fleet.talk → m.fleet.met ≡ a.fleet.met → m.fleet.recalls ≡ a.fleet.recalls → m.out ≡ a.out → wants_room first ≡ true → ((one : List Act) × HandsOut m true one n)
    → TalkStep n.fleet.talk e reply b.fleet.talk → b.fleet.met ≡ (n.fleet.met || is_limit_met reply) → b.fleet.recalls ≡ n.fleet.recalls → b.out ≡ n.out → (acts : List Act) × StepsOn e reply a acts b
steps-next a m n b e first reply step met recalls same wants (one, (is, hands)) again limited kept out =
    let found = needed a.fleet.talk m.fleet.talk e first step wants in
    let at : m ≡ a = at-same a m found.1 met recalls (ap (λ (o : Out). o.texts) same) (ap (λ (o : Out). o.chapters) same) in
    let handed_on : Went a (handed (chapter_in a.fleet.talk.world) ∷ []) n = subst (λ (x : At). Went x (handed (chapter_in x.fleet.talk.world) ∷ []) n) at (subst (λ (l : List Act). Went m l n) is hands) in (
      full e ∷ handed (chapter_in a.fleet.talk.world) ∷ did e reply ∷ [],
      next refl (went-then a a b (full e ∷ []) (handed (chapter_in a.fleet.talk.world) ∷ did e reply ∷ []) (went-full a e found.0)
          (went-then a n b (handed (chapter_in a.fleet.talk.world) ∷ []) (did e reply ∷ []) handed_on (went-did n b e reply again limited kept out))),
    )

pub steps-went : (e : Event) (reply : Reply) (a : At) (acts : List Act) (b : At) → StepsOn e reply a acts b → Went a acts b
steps-went e reply a acts b (here is last went) = went
steps-went e reply a acts b (next is went) = went

-- the event's own step
pub last-step : (e : Event) (reply : Reply) (a : At) (acts : List Act) (b : At) → StepsOn e reply a acts b → (s : Talk Global) × TalkStep s e reply b.fleet.talk
last-step e reply a acts b (here is last went) =
    let (m, step, at) = subst (λ (l : List Act). Runs a.fleet.talk l b.fleet.talk) is went.runs in
    (a.fleet.talk, subst (λ (x : Talk Global). TalkStep a.fleet.talk e reply x) (sym at) step)
last-step e reply a acts b (next is went) =
    let (m, needs, (n, hands, (o, step, at))) = subst (λ (l : List Act). Runs a.fleet.talk l b.fleet.talk) is went.runs in
    (n, subst (λ (x : Talk Global). TalkStep n e reply x) (sym at) step)

-- ---- orders

is_false : {P : Type 0} → true ≡ false → P
is_false bad = cc

none_taken : (s t : Talk Global) (client : ℕ) (reply : Reply) → TalkStep s (Take client) reply t → is_took reply ≡ false → AllTaken t client
none_taken s t c NoClient st other = subst (λ (x : Talk Global). AllTaken x c) (sym st.1) (inl st.0)
none_taken s t c LaneEmpty st other = subst (λ (x : Talk Global). AllTaken x c) (sym st.2) (inr (inl st.1))
none_taken s t c (TakeRefused take_fault.MailboxFull) st other = subst (λ (x : Talk Global). AllTaken x c) (sym st.3) (inr (inr (inl st.2)))
none_taken s t c (TakeRefused take_fault.ChapterFull) st other = subst (λ (x : Talk Global). AllTaken x c) (sym st.4) (inr (inr (inr st.3)))
none_taken s t c (Took number verdict) st other = is_false other
none_taken s t c _ st other = absurd st

only_take : (client : ℕ) (reply : Reply) (a : At) (acts : List Act) (b : At) → StepsOn (Take client) reply a acts b → AllByRecursion (IsTaking client) acts
only_take client reply a acts b (here is last went) = subst (λ (l : List Act). AllByRecursion (IsTaking client) l) (sym is) (refl, tt)
only_take client reply a acts b (next is went) = subst (λ (l : List Act). AllByRecursion (IsTaking client) l) (sym is) (refl, (tt, (refl, tt)))

one_act : (e : Event) (reply : Reply) (a : At) (acts : List Act) (b : At) → StepsOn e reply a acts b → 1 ≤ length acts
one_act e reply a acts b (here is last went) = subst (λ (l : List Act). 1 ≤ length l) (sym is) (omega arith)
one_act e reply a acts b (next is went) = subst (λ (l : List Act). 1 ≤ length l) (sym is) (omega arith)

-- of a client of whom no order waits none is judged
pub takes-none : (most client : ℕ) (a : At) → HasNoOrder a.fleet.talk client → (acts : List Act) × TakesOne most client a acts a
takes-none most client a none = ([], record { went = went-none a; only = tt; whole = inl (taken none) })
  where
    taken : HasNoOrder a.fleet.talk client → AllTaken a.fleet.talk client
    taken (inl past) = inl past
    taken (inr lane) = inr (inl (nothing-in (waiting a.fleet.talk client).lane lane))

-- some orders of a client were judged, each by an act
pub record Taking (client count : ℕ) (a : At) (acts : List Act) (b : At) : Type 0 where
  pub went : Went a acts b
  pub only : AllByRecursion (IsTaking client) acts
  pub many : count ≤ length acts

pub taking-none : (client : ℕ) (a : At) → Taking client 0 a [] a
taking-none client a = record { went = went-none a; only = tt; many = omega arith }

pub taking-more : (client count : ℕ) (reply : Reply) (a m b : At) (acts more : List Act) → Taking client count a acts m → StepsOn (Take client) reply m more b → Taking client (count + 1) a (acts ++ more) b
taking-more client count reply a m b acts more so step =
    let one = one_act (Take client) reply m more b step in
    let many = so.many in
    let sum = length-append acts more in
    record {
      went = went-then a m b acts more so.went (steps-went (Take client) reply m more b step);
      only = all-then (IsTaking client) acts more so.only (only_take client reply m more b step);
      many = omega (arith, one, many, sum);
    }

pub taking-last : (client count most : ℕ) (reply : Reply) (a m b : At) (acts more : List Act) → Taking client count a acts m → StepsOn (Take client) reply m more b → is_took reply ≡ false → (all : List Act) × TakesOne most client a all b
taking-last client count most reply a m b acts more so step other =
    let (s, last) = last-step (Take client) reply m more b step in (
      acts ++ more,
      record {
        went = went-then a m b acts more so.went (steps-went (Take client) reply m more b step);
        only = all-then (IsTaking client) acts more so.only (only_take client reply m more b step);
        whole = inl (none_taken s b.fleet.talk client reply last other);
      },
    )

pub taking-many : (client count most : ℕ) (a b : At) (acts : List Act) → Taking client count a acts b → most ≤ count → TakesOne most client a acts b
taking-many client count most a b acts so enough = let many = so.many in record { went = so.went; only = so.only; whole = inr (omega (arith, many, enough)) }

-- ---- chapters

shown_in : (s : Talk Global) (n : ℕ) (h : History Global) → n ≡ s.world.number → h ≡ s.world.history → record { number = n; history = h } ≡ chapter_in s.world
shown_in s n h number history = rw (number, history) refl

pub hands-over : (s t : Talk Global) (xs ys : List (Chapter Global)) (chapter : Chapter Global) → chapter.number ≡ s.world.number → history_of chapter ≡ s.world.history → IsSound s.world.turns s.world.floor s.world.history → t ≡ next_talk s → ys ≡ xs ++ chapter ∷ []
    → HandsOver s (map chapter_shown xs) true t (map chapter_shown ys)
hands-over s t xs ys chapter number history sound follows grown =
    (sound, follows, ap (map chapter_shown) grown ∙ (map-append chapter_shown xs (chapter ∷ []) ∙ ap (λ (c : ChapterView Global). map chapter_shown xs ++ c ∷ []) (shown_in s chapter.number (history_of chapter) number history)))

pub hands-out-if : {E : Type 0} (r : Result Bool E) (a b : At) (chapters : List (ChapterView Global)) → chapters ≡ a.out.chapters → IfOk r (λ is. HandsOver a.fleet.talk chapters is b.fleet.talk b.out.chapters) → b.fleet.met ≡ a.fleet.met → b.fleet.recalls ≡ a.fleet.recalls → b.out.texts ≡ a.out.texts
    → IfOk r (λ is. (acts : List Act) × HandsOut a is acts b)
hands-out-if r a b chapters same h met recalls texts = IfOk-weaker r (λ is. HandsOver a.fleet.talk chapters is b.fleet.talk b.out.chapters) (λ is. (acts : List Act) × HandsOut a is acts b) (λ is over. hands-out a b is chapters same over met recalls texts) h

pub steps-next-if : {E : Type 0} (r : Result Reply E) (a m n b : At) (e : Event) (first : Reply) → TalkStep a.fleet.talk e first m.fleet.talk → m.fleet.met ≡ a.fleet.met → m.fleet.recalls ≡ a.fleet.recalls → m.out ≡ a.out → wants_room first ≡ true → ((one : List Act) × HandsOut m true one n)
    → IfOk r (λ reply. TalkStep n.fleet.talk e reply b.fleet.talk) → IfOk r (λ reply. b.fleet.met ≡ (n.fleet.met || is_limit_met reply)) → b.fleet.recalls ≡ n.fleet.recalls → b.out ≡ n.out → IfOk r (λ reply. (acts : List Act) × StepsOn e reply a acts b)
steps-next-if (Ok reply) a m n b e first step met recalls same wants hands again limited kept out = steps-next a m n b e first reply step met recalls same wants hands again limited kept out
steps-next-if (Err fault) a m n b e first step met recalls same wants hands again limited kept out = tt

pub at-hand : (is : Bool) (a b : At) (P : Bool) → ((acts : List Act) × HandsOut a is acts b) → is ≡ P → (acts : List Act) × HandsOut a P acts b
at-hand is a b P hands same = subst (λ x. (acts : List Act) × HandsOut a x acts b) same hands
