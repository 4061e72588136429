-- What is told follows from entries that the journal has.
use Rattle.std.proofs.Common.{◌≡◌, ◌∙◌, ◌⊎◌, inl, inr, ℕ, ◌+◌, ◌-◌, ◌≤◌, ◌<◌, ◌==◌, Bool, true, false, true≢false, List, [], ◌∷◌, ◌++◌, length, take, Option, Some, None, IfSome, Result, Ok, Err, refl, sym, ap, subst, arith, append_assoc, append-nil}
use Rattle.std.specs.Prelude.{IfErr, if◌then◌else◌, replicate}
use borrow.Author.Tests.{eq-eqb, ne_eqb}
use Rattle.std.specs.declared.alloc.Global.{Global}
use Rattle.std.specs.Result.{IsErrAnd}
use Rattle.std.specs.Io.KnownBytes.{Appends}
use Rattle.std.proofs.KnownBytes.{Appends-nil, Appends-trans}
use Rattle.std.proofs.lemmas.List.{replicate_more}
use Rattle.fleet_history.specs.declared.history.Chapter.{Chapter}
use Rattle.fleet_history.specs.History.{History, history_of}
use Rattle.fleet_core.specs.Core.{World}
use Rattle.fleet_text.specs.Transfer.{AppendsPrefix}
use Rattle.fleet_talk.specs.declared.ends.Settings.{Settings}
use Rattle.fleet_talk.specs.declared.fault.TalkFault.{TalkFault}
use Rattle.fleet_talk.specs.declared.fault.TalkFault.TheVariants.{Output}
use Rattle.fleet_talk.specs.Act.{Act, act_asked, acts_asked, acts_end, acts_on, times_asked}
use Rattle.fleet_talk.specs.Acts.{Does, Talks}
use Rattle.fleet_talk.specs.Ask.{Line}
use Rattle.fleet_talk.specs.Backed.{AllBacked, BacksUp, Follows, GoesBacked, GoesOnce, Holds, IsBacked, PartBacked, Stands, Tells}
use Rattle.fleet_talk.specs.Broken.{IsMidway}
use Rattle.fleet_talk.specs.Chapters.{AreTurned, ChapterView, beginning, chapter_in, chapter_shown}
use Rattle.fleet_talk.specs.Fleet.{Fleet}
use Rattle.fleet_talk.specs.Journal.{HasAll, IsAt, JournalView, Logs, count_in, with_each, with_first, with_whole}
use Rattle.fleet_talk.specs.Says.{Says}
use Rattle.fleet_talk.proofs.Breaking.{replicate-split}
use Rattle.fleet_talk.proofs.Finishing.{take_none, written_none}
use Rattle.fleet_talk.proofs.Keeping.{turned-then}
use Rattle.fleet_talk.proofs.Onces.{asked-times}
use Rattle.fleet_talk.proofs.Saying.{until-then}
use Rattle.fleet_talk.proofs.Talking.{talks-append, talks-one}

-- ---- how far a journal is

abbrev chapter_of : ℕ → History Global → ChapterView Global
chapter_of n h = record { number = n; history = h }

pub shown-in : (c : Chapter Global) (w : World Global) → c.number ≡ w.number → history_of c ≡ w.history → chapter_shown c ≡ chapter_in w
shown-in c w number history = ap (λ (n : ℕ). chapter_of n (history_of c)) number ∙ ap (λ (h : History Global). chapter_of w.number h) history

count_same : (j : JournalView) (n : ℕ) → j.number ≡ n → count_in j n ≡ j.entries
count_same j n same = ap (λ (b : Bool). if b then j.entries else 0) (eq-eqb n j.number (sym same))

module _ (j : JournalView) (before : List (ChapterView Global)) (c : ChapterView Global) where
  abbrev All : List (ChapterView Global) → Type 0
  All logged = (j.number ≡ c.number) × (j.entries ≡ length c.history.entries) × (logged ≡ with_whole before c)

  at_in : (logged : Option (List (ChapterView Global))) → IfSome logged All → IfSome logged (λ logged. (count_in j c.number ≤ length c.history.entries) × (logged ≡ with_first before c (count_in j c.number)))
  at_in None has = tt
  at_in (Some l) (same, count, is) =
      let all : count_in j c.number ≡ length c.history.entries = count_same j c.number same ∙ count in
      (omega (arith, all), is ∙ ap (λ n. with_first before c n) (sym all))

  holds_in : (logged : Option (List (ChapterView Global))) → IfSome logged All → IfSome logged (λ logged. logged ≡ with_whole before c)
  holds_in None has = tt
  holds_in (Some l) (same, count, is) = is

  -- a journal that has all entries of a chapter is at its end
  pub has-at : HasAll j before c → IsAt j before c
  has-at has = at_in j.logged has

  pub has-holds : HasAll j before c → Holds j before c
  has-holds has = holds_in j.logged has

  abbrev Ends : Type 0
  Ends = Stands j before c × Holds j before c

-- a chapter was brought down to it
pub logs-all : (j k : JournalView) (before : List (ChapterView Global)) (c : ChapterView Global) → Logs j k c true → Stands j before c → Ends k before c
logs-all j k before c (well, still, all) (inl failed) = absurd (true≢false (sym failed ∙ well))
logs-all j k before c (well, still, all) (inr at) = (inr (has-at k before c (all before at)), has-holds k before c (all before at))

-- ---- before a text is written

module _ (j k : JournalView) (chapters : List (ChapterView Global)) (c : ChapterView Global) where
  pub backs-none : (text : List ℕ) (is_mute : Bool) → text ≡ [] → Stands j chapters c → BacksUp j j chapters c text is_mute
  backs-none text is_mute none stands = (stands, inl (none, refl))

  pub backs-logged : (text : List ℕ) (is_mute : Bool) (x : ChapterView Global) (logged : Bool) → x ≡ c → logged ≡ true → Logs j k x logged → Stands j chapters c → BacksUp j k chapters c text is_mute
  backs-logged text is_mute x logged same is logs stands =
      let (on, holds) = logs-all j k chapters c (subst (λ (y : ChapterView Global). Logs j k y true) same (subst (λ (b : Bool). Logs j k x b) is logs)) stands in
      (on, inr (inl holds))

  pub backs-mute : (text : List ℕ) (x : ChapterView Global) (logged : Bool) → logged ≡ false → Logs j k x logged → BacksUp j k chapters c text true
  backs-mute text x logged is logs =
      let (failed, same) = subst (λ (b : Bool). Logs j k x b) is logs in
      (inl failed, inr (inr (refl, same)))

  prefix_none : (a b : Option (List ℕ)) (text : List ℕ) → text ≡ [] → AppendsPrefix a b text → Appends a b []
  prefix_none a b text none (n, within, taken) = subst (λ (l : List ℕ). Appends a b l) (ap (take n) none ∙ take_none n) taken

  pub tells-all : (a b : Option (List ℕ)) (text : List ℕ) (is_mute : Bool) → BacksUp j k chapters c text is_mute → AppendsPrefix a b text → (is_mute ≡ true → b ≡ a) → Tells j k chapters c a b text
  tells-all a b text is_mute (stands, inl (none, same)) prefix mute = (stands, inl (prefix_none a b text none prefix, same))
  tells-all a b text is_mute (stands, inr (inl holds)) prefix mute = (stands, inr (prefix, holds))
  tells-all a b text is_mute (stands, inr (inr (is, same))) prefix mute = (stands, inl (subst (λ (x : Option (List ℕ)). Appends a x []) (sym (mute is)) (Appends-nil a), same))

pub tells-none : (j : JournalView) (chapters : List (ChapterView Global)) (c : ChapterView Global) (a : Option (List ℕ)) (text : List ℕ) → Stands j chapters c → Tells j j chapters c a a text
tells-none j chapters c a text stands = (stands, inl (Appends-nil a, refl))

-- ---- acts one after another

each_append : (before xs ys : List (ChapterView Global)) → with_each before (xs ++ ys) ≡ with_each (with_each before xs) ys
each_append before [] ys = refl
each_append before (x ∷ xs) ys = each_append (with_whole before x) xs ys

prefix_of : (a b c : Option (List ℕ)) (o p text : List ℕ) → Says a b o p text → Appends b c [] → AppendsPrefix a c (o ++ text)
prefix_of a b c o p text says none =
    subst (λ (l : List ℕ). AppendsPrefix a c (o ++ l)) (append-nil text) (until-then Output a b c o p [] text [] says ((0, omega arith, none), refl)).0

module _ (roll : Option ℕ) where
  -- none was done
  pub none-backed : (s : Fleet Global) (acts : List Act) (a : Option (List ℕ)) (o : List ℕ) (chapters : List (ChapterView Global)) (j : JournalView) → Stands j chapters (chapter_in s.talk.world) → GoesBacked roll s s acts a a o chapters j j
  none-backed s acts a o chapters j stands = record { handed_out = []; turned = refl; stands = stands; backed = inl (Appends-nil a, refl) }

  -- others were to be done after
  pub backed-more : (s : Fleet Global) (xs ys : List Act) (a b : Option (List ℕ)) (o : List ℕ) (chapters : List (ChapterView Global)) (j k : JournalView) → IsBacked roll s xs a b o chapters j k → IsBacked roll s (xs ++ ys) a b o chapters j k
  backed-more s xs ys a b o chapters j k (inl none) = inl none
  backed-more s xs ys a b o chapters j k (inr f) = inr (record {
    done = f.done;
    left = f.left ++ ys;
    parts = ap (λ l. l ++ ys) f.parts ∙ append_assoc f.done f.left ys;
    text = f.text;
    last = f.last;
    talks = f.talks;
    tells = f.tells;
    handed_out = f.handed_out;
    turned = f.turned;
    holds = f.holds;
  })

  module _ (s m : Fleet Global) (xs ys : List Act) (a b c : Option (List ℕ)) (o p text : List ℕ) (chapters : List (ChapterView Global)) (j k l : JournalView) (talks : Talks roll s xs text m) (says : Says a b o p text)
      (one : GoesBacked roll s m xs a b o chapters j k) where
    abbrev next : List (ChapterView Global)
    next = with_each chapters one.handed_out

    later : Follows roll s xs a b o chapters k → Appends b c [] → l.logged ≡ k.logged → Follows roll s (xs ++ ys) a c o chapters l
    later f none same = record {
      done = f.done;
      left = f.left ++ ys;
      parts = ap (λ l. l ++ ys) f.parts ∙ append_assoc f.done f.left ys;
      text = f.text;
      last = f.last;
      talks = f.talks;
      tells = written_none a b c (o ++ f.text) f.tells none;
      handed_out = f.handed_out;
      turned = f.turned;
      holds = subst (λ (x : Option (List (ChapterView Global))). IfSome x (λ logged. logged ≡ with_whole (with_each chapters f.handed_out) (chapter_in f.last.talk.world))) (sym same) f.holds;
    }

    after : Follows roll m ys b c p next l → Follows roll s (xs ++ ys) a c o chapters l
    after f = record {
      done = xs ++ f.done;
      left = f.left;
      parts = ap (λ l. xs ++ l) f.parts ∙ sym (append_assoc xs f.done f.left);
      text = text ++ f.text;
      last = f.last;
      talks = talks-append roll s m f.last xs f.done text f.text talks f.talks;
      tells = (until-then Output a b c o p [] text f.text says (f.tells, refl)).0;
      handed_out = one.handed_out ++ f.handed_out;
      turned = turned-then (beginning s.talk.world) (beginning m.talk.world) (beginning f.last.talk.world) one.handed_out f.handed_out one.turned f.turned;
      holds = subst (λ (x : List (ChapterView Global)). Holds l x (chapter_in f.last.talk.world)) (sym (each_append chapters one.handed_out f.handed_out)) f.holds;
    }

    pub backed-then : IsBacked roll m ys b c p next k l → IsBacked roll s (xs ++ ys) a c o chapters j l
    backed-then (inl (none, same)) = by one.backed
      where
        by : IsBacked roll s xs a b o chapters j k → IsBacked roll s (xs ++ ys) a c o chapters j l
        by (inl (first, still)) = inl (Appends-trans a b c [] [] first none, same ∙ still)
        by (inr f) = inr (later f none same)
    backed-then (inr f) = inr (after f)

    pub goes-then : (t : Fleet Global) → GoesBacked roll m t ys b c p next k l → GoesBacked roll s t (xs ++ ys) a c o chapters j l
    goes-then t two = record {
      handed_out = one.handed_out ++ two.handed_out;
      turned = turned-then (beginning s.talk.world) (beginning m.talk.world) (beginning t.talk.world) one.handed_out two.handed_out one.turned two.turned;
      stands = subst (λ (x : List (ChapterView Global)). Stands l x (chapter_in t.talk.world)) (sym (each_append chapters one.handed_out two.handed_out)) two.stands;
      backed = backed-then two.backed;
    }

  -- then all was told that waits, or nothing
  pub goes-told : (s t : Fleet Global) (xs : List Act) (a b c : Option (List ℕ)) (o p text : List ℕ) (chapters : List (ChapterView Global)) (j k l : JournalView) → Talks roll s xs text t → Says a b o p text
      → (one : GoesBacked roll s t xs a b o chapters j k) → Tells k l (with_each chapters one.handed_out) (chapter_in t.talk.world) b c p → GoesBacked roll s t xs a c o chapters j l
  goes-told s t xs a b c o p text chapters j k l talks says one (stands, told) =
      subst (λ (acts : List Act). GoesBacked roll s t acts a c o chapters j l) (append-nil xs)
      (goes-then s t xs [] a b c o p text chapters j k l talks says one t (record { handed_out = []; turned = refl; stands = stands; backed = by told }))
    where
      by : (Appends b c [] × (l.logged ≡ k.logged)) ⊎ (AppendsPrefix b c p × Holds l (with_each chapters one.handed_out) (chapter_in t.talk.world)) → IsBacked roll t [] b c p (with_each chapters one.handed_out) k l
      by (inl none) = inl none
      by (inr (prefix, holds)) = inr (record {
        done = [];
        left = [];
        parts = refl;
        text = [];
        last = t;
        talks = (refl, refl);
        tells = subst (λ (x : List ℕ). AppendsPrefix b c x) (sym (append-nil p)) prefix;
        handed_out = [];
        turned = refl;
        holds = holds;
      })

  -- one act was done, and then all was told that waits, or nothing
  pub goes-one : (s t : Fleet Global) (act : Act) (a b : Option (List ℕ)) (o p text : List ℕ) (chapters : List (ChapterView Global)) (j k l : JournalView) → Does roll s act text t → p ≡ o ++ text → (once : GoesOnce s t chapters j k)
      → Tells k l (with_each chapters once.handed_out) (chapter_in t.talk.world) a b p → GoesBacked roll s t (act ∷ []) a b o chapters j l
  goes-one s t act a b o p text chapters j k l does added once (stands, told) = record { handed_out = once.handed_out; turned = once.turned; stands = stands; backed = by told }
    where
      before : Appends a b [] → l.logged ≡ k.logged → (k.logged ≡ j.logged) ⊎ Holds k chapters (chapter_in s.talk.world) → IsBacked roll s (act ∷ []) a b o chapters j l
      before none same (inl still) = inl (none, same ∙ still)
      before none same (inr holds) = inr (record {
        done = [];
        left = act ∷ [];
        parts = refl;
        text = [];
        last = s;
        talks = (refl, refl);
        tells = (0, omega arith, none);
        handed_out = [];
        turned = refl;
        holds = subst (λ (x : Option (List (ChapterView Global))). IfSome x (λ logged. logged ≡ with_whole chapters (chapter_in s.talk.world))) (sym same) holds;
      })

      by : (Appends a b [] × (l.logged ≡ k.logged)) ⊎ (AppendsPrefix a b p × Holds l (with_each chapters once.handed_out) (chapter_in t.talk.world)) → IsBacked roll s (act ∷ []) a b o chapters j l
      by (inl (none, same)) = before none same once.logged
      by (inr (prefix, holds)) = inr (record {
        done = act ∷ [];
        left = [];
        parts = refl;
        text = text;
        last = t;
        talks = talks-one roll s t act text does;
        tells = subst (λ (x : List ℕ). AppendsPrefix a b x) added prefix;
        handed_out = once.handed_out;
        turned = once.turned;
        holds = holds;
      })

-- ---- the answer to a line

-- an act was done once more
pub line-backed : (roll : Option ℕ) (s m t : Fleet Global) (act : Act) (n : ℕ) (a b c : Option (List ℕ)) (o p q text more : List ℕ) (j k l i : JournalView)
    → Talks roll s (replicate n act) text m → Says a b o p text → AllBacked roll s m (replicate n act) a b o j k → Does roll m act more t → q ≡ p ++ more
    → ((before : List (ChapterView Global)) → Stands k before (chapter_in m.talk.world) → GoesOnce m t before k l)
    → ((before : List (ChapterView Global)) → Stands l before (chapter_in t.talk.world) → Tells l i before (chapter_in t.talk.world) b c q)
    → AllBacked roll s t (replicate (n + 1) act) a c o j i
line-backed roll s m t act n a b c o p q text more j k l i talks says all does added goes tells chapters stands =
    let one = all chapters stands in
    let before = with_each chapters one.handed_out in
    let once = goes before one.stands in
    subst (λ (acts : List Act). GoesBacked roll s t acts a c o chapters j i) (replicate_more n act)
    (goes-then roll s m (replicate n act) (act ∷ []) a b c o p text chapters j k i talks says one t
    (goes-one roll m t act b c p q more before k l i does added once (tells (with_each before once.handed_out) once.stands)))

-- what was said of it was not all written
pub backed-asked : (settings : Settings) (s t : Fleet Global) (line : Line) (k n : ℕ) (a b : Option (List ℕ)) (o : List ℕ) (i j : JournalView) → k < n → n ≡ times_asked line.asked
    → AllBacked settings.roll s t (replicate (k + 1) (act_asked line line.asked)) a b o i j → PartBacked settings.roll s (acts_on settings line) a b o i j
backed-asked settings s t line k n a b o i j within same backed chapters stands =
    let act = act_asked line line.asked in
    let all : replicate (k + 1) act ++ replicate (n - (k + 1)) act ≡ acts_asked line line.asked =
    sym (replicate-split act (k + 1) n (omega (arith, within))) ∙ (ap (λ (m : ℕ). replicate m act) same ∙ sym (asked-times line line.asked)) in
    backed-more settings.roll s (acts_asked line line.asked) (acts_end settings line) a b o chapters i j
    (subst (λ (acts : List Act). IsBacked settings.roll s acts a b o chapters i j) all (backed-more settings.roll s (replicate (k + 1) act) (replicate (n - (k + 1)) act) a b o chapters i j (backed chapters stands).backed))

-- the line was answered
pub answer-backed : (settings : Settings) (s m : Fleet Global) (line : Line) (n : ℕ) (a b : Option (List ℕ)) (o p text : List ℕ) (j k : JournalView) → n ≡ times_asked line.asked
    → Talks settings.roll s (replicate n (act_asked line line.asked)) text m → Says a b o p text → AllBacked settings.roll s m (replicate n (act_asked line line.asked)) a b o j k
    → AllBacked settings.roll s m (acts_on settings line) a b o j k
answer-backed settings s m line n a b o p text j k same talks says backed chapters stands =
    let all : replicate n (act_asked line line.asked) ≡ acts_asked line line.asked = ap (λ (i : ℕ). replicate i (act_asked line line.asked)) same ∙ sym (asked-times line line.asked) in
    let goes = subst (λ (acts : List Act). GoesBacked settings.roll s m acts a b o chapters j k) all (backed chapters stands) in
    goes-then settings.roll s m (acts_asked line line.asked) (acts_end settings line) a b b o p text chapters j k k (subst (λ (acts : List Act). Talks settings.roll s acts text m) all talks) says goes m
    (none-backed settings.roll m (acts_end settings line) b p (with_each chapters goes.handed_out) k goes.stands)

-- ---- faults

-- a fault after which all that waits is written is none of the writer
pub never-cut : (f : TalkFault) → IsMidway f → f ≡ Output → ⊥
never-cut f mid same = subst IsMidway same mid

-- what holds of a writer's fault holds of the result that has it
pub cut-at : {X : Type 0} (r : Result X TalkFault) (f : TalkFault) (P : Type 0) → IsErrAnd r (λ g. g ≡ f) → (f ≡ Output → P) → IfErr r (λ g. g ≡ Output → P)
cut-at (Ok x) f P is p = tt
cut-at (Err g) f P is p = λ same. p (sym is ∙ same)
