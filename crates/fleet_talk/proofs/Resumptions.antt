-- Conversations with a fleet that is open before the first line.
use Rattle.std.proofs.Common.{◌≡◌, ◌∙◌, ℕ, Bool, true, false, List, [], ◌∷◌, Option, Some, None, Result, Ok, Err, IfSome, refl, sym, ap, subst, append-nil}
use Rattle.std.specs.Prelude.{OnOk, IfOk, IfErr, if◌then◌else◌, length, take}
use Rattle.std.specs.Option.{option_map}
use Rattle.std.proofs.lemmas.Option.{same_Some}
use Rattle.std.specs.declared.alloc.Global.{Global}
use Rattle.std.specs.Io.KnownBytes.{Appends}
use Rattle.fleet_text.specs.Transfer.{AppendsPrefix}
use Rattle.fleet_text.specs.Kit.{KitLaws, cut_laws}
use Rattle.fleet_core.specs.Hooks.{HookLaws}
use Rattle.fleet_hooks.specs.declared.law.StampLaw.{StampLaw}
use Rattle.fleet_hooks.specs.declared.law.TieLaw.{TieLaw}
use Rattle.fleet_grid.specs.Floor.{Floor}
use Rattle.fleet_book.specs.declared.limits.Limits.{Limits}
use Rattle.fleet_history.specs.History.{History}
use Rattle.fleet_reopen.specs.declared.fault.ReopenFault.{ReopenFault}
use Rattle.fleet_reopen.specs.declared.fault.ReopenFault.TheVariants as reopen_fault
use Rattle.fleet_reopen.specs.Reopening.{CanReopen, IsReopenFault}
use Rattle.fleet_script.specs.Script.{Draft}
use Rattle.fleet_world.specs.Talk.{Talk}
use Rattle.turns_law.specs.Turns.{Turns}
use Rattle.fleet_talk.specs.declared.ends.Settings.{Settings}
use Rattle.fleet_talk.specs.declared.fault.TalkFault.{TalkFault}
use Rattle.fleet_talk.specs.declared.fault.TalkFault.TheVariants.{Input, Output, Sink, Opening as Unopened, NoRooms, NoMemory}
use Rattle.fleet_talk.specs.declared.resuming.ResumeFault.{ResumeFault}
use Rattle.fleet_talk.specs.declared.resuming.ResumeFault.TheVariants.{Robots, Clients, Chapter, Errand, NoRooms as Roomless, Talk as Broke}
use Rattle.fleet_talk.specs.Act.{acts_from}
use Rattle.fleet_talk.specs.Acts.{Talks}
use Rattle.fleet_talk.specs.Broken.{IsMidway}
use Rattle.fleet_talk.specs.Chapters.{Adds, ChapterView, KeepsLast, KeepsTurned}
use Rattle.fleet_talk.specs.Conversation.{KeptChapters, Terms}
use Rattle.fleet_talk.specs.Ending.{Keeps, Finishes, written, unwritten}
use Rattle.fleet_talk.specs.Fleet.{Fleet, opened_fleet}
use Rattle.fleet_talk.specs.Heard.{IsNext, heard_lines}
use Rattle.fleet_talk.specs.Resumed.{ComesOpen, IsAnswered, IsAnsweredInPart, IsRefusal, IsResumeFault, IsResumption, IsResumptionBegun, IsRoomless, IsUnresumed, LetsIn, MayResume, TakesOn, resumed_in, disagreement, is_other, laws_after, limits_after}
use Rattle.fleet_talk.specs.Talked.{TalksUntil}
use Rattle.fleet_talk.proofs.Breaking.{until-none}
use Rattle.fleet_talk.proofs.Finishing.{written_all, written_part, written_none, take_none, err, same_err, whole_prefix}
use Rattle.fleet_talk.proofs.Onward.{TalksAll}
use Rattle.fleet_talk.proofs.Saying.{midway, says-none}
use Rattle.fleet_talk.proofs.Keeping.{keeps-all}

-- ---- the fleet

-- a chapter is refused
pub chapter-fault : {A : Type 0} (roomy : Bool) (kit : KitLaws) (m : Floor) (d : Draft) (c : ChapterView A) (why : ReopenFault) → disagreement d c.history.opening ≡ None
    → IsReopenFault m c.number c.history (limits_after d c.history.opening) (laws_after kit d c.history.opening) why → IsResumeFault roomy kit m d c (Chapter why)
chapter-fault roomy kit m d c reopen_fault.Limits none is = (none, is)
chapter-fault roomy kit m d c (reopen_fault.Illegal at rule) none is = (none, is)
chapter-fault roomy kit m d c reopen_fault.Laws none is = (none, is)
chapter-fault roomy kit m d c reopen_fault.Differs none is = (none, is)
chapter-fault roomy kit m d c reopen_fault.Spent none is = (none, is)
chapter-fault roomy kit m d c reopen_fault.Waits none is = (none, is)
chapter-fault roomy kit m d c reopen_fault.NoMemory none is = tt

-- the laws of the closures that are chosen, cut
pub cut-is : (laws chosen : HookLaws) (n m : ℕ) (ties : List TieLaw) (arrivals farewells : List StampLaw) → chosen ≡ laws → n ≡ m → ties ≡ take n chosen.ties → arrivals ≡ take n chosen.arrivals → farewells ≡ take n chosen.farewells
    → record { ties = ties; arrivals = arrivals; farewells = farewells } ≡ cut_laws m laws
cut-is laws chosen n m ties arrivals farewells c l t a f =
    let cut : record { ties = ties; arrivals = arrivals; farewells = farewells } ≡ cut_laws n chosen = rw (t, a, f) refl in
    cut ∙ (ap (λ (k : ℕ). cut_laws k chosen) l ∙ ap (cut_laws m) c)

-- what the header lines disagree with is one of two
pub disagreed : {A : Type 0} (roomy : Bool) (kit : KitLaws) (m : Floor) (d : Draft) (c : ChapterView A) (f : ResumeFault) → disagreement d c.history.opening ≡ Some f → IsResumeFault roomy kit m d c f
disagreed roomy kit m d c f is = by (is_other (option_map (λ cells. length cells) d.starts) (length c.history.opening.robots)) (is_other d.clients (length c.history.opening.clients)) refl refl
  where
    found : Bool → Bool → Option ResumeFault
    found b e = if b then Some Robots else (if e then Some Clients else None)

    by : (b e : Bool) → is_other (option_map (λ cells. length cells) d.starts) (length c.history.opening.robots) ≡ b → is_other d.clients (length c.history.opening.clients) ≡ e → IsResumeFault roomy kit m d c f
    by true e x y =
        let all : disagreement d c.history.opening ≡ Some Robots = ap (λ (b : Bool). found b (is_other d.clients (length c.history.opening.clients))) x in
        subst (IsResumeFault roomy kit m d c) (same_Some Robots f (sym all ∙ is)) all
    by false true x y =
        let all : disagreement d c.history.opening ≡ Some Clients = ap (λ (b : Bool). found b (is_other d.clients (length c.history.opening.clients))) x ∙ ap (found false) y in
        subst (IsResumeFault roomy kit m d c) (same_Some Clients f (sym all ∙ is)) all
    by false false x y =
        let all : disagreement d c.history.opening ≡ None = ap (λ (b : Bool). found b (is_other d.clients (length c.history.opening.clients))) x ∙ ap (found false) y in
        let bad : None ≡ Some f = sym all ∙ is in absurd cc

-- the same limits and laws
pub can-as : {A : Type 0} (m : Floor) (n : ℕ) (h : History A) (l k : Limits) (laws other : HookLaws) → l ≡ k → laws ≡ other → CanReopen m n h l laws → CanReopen m n h k other
can-as m n h l k laws other e f can = rw (← e, ← f) can

-- ---- the first line

-- what holds of the lines from the one that was read on holds of all
pub from-first : (P : List (List ℕ) → Type 0) (known left : Option (List ℕ)) (found : Bool) (line : List ℕ) → IfSome known (λ xs. IsNext xs left found line) → found ≡ true
    → IfSome left (λ ys. P (line ∷ heard_lines ys)) → IfSome known (λ xs. P (heard_lines xs))
from-first P None left found line next some h = tt
from-first P (Some xs) left found line (rest, left_is, lines) some h =
    let all : heard_lines xs ≡ line ∷ heard_lines rest = subst (λ (b : Bool). heard_lines xs ≡ (if b then line ∷ heard_lines rest else [])) some lines in
    subst P (sym all) (subst (λ (o : Option (List ℕ)). IfSome o (λ ys. P (line ∷ heard_lines ys))) left_is h)

-- the same where it holds unless there was a fault, and of the fault
pub from-first-ok : {E : Type 0} (r : Result (Unit {0}) E) (P : List (List ℕ) → Type 0) (known left : Option (List ℕ)) (found : Bool) (line : List ℕ) → IfSome known (λ xs. IsNext xs left found line) → found ≡ true
    → OnOk r (IfSome left (λ ys. P (line ∷ heard_lines ys))) → OnOk r (IfSome known (λ xs. P (heard_lines xs)))
from-first-ok (Ok done) P known left found line next some h = from-first P known left found line next some h
from-first-ok (Err f) P known left found line next some h = tt

pub from-first-err : {E : Type 0} (r : Result (Unit {0}) E) (P : E → List (List ℕ) → Type 0) (known left : Option (List ℕ)) (found : Bool) (line : List ℕ) → IfSome known (λ xs. IsNext xs left found line) → found ≡ true
    → IfErr r (λ f. IfSome left (λ ys. P f (line ∷ heard_lines ys))) → IfErr r (λ f. IfSome known (λ xs. P f (heard_lines xs)))
from-first-err (Ok done) P known left found line next some h = tt
from-first-err (Err f) P known left found line next some h = from-first (P f) known left found line next some h

module _ {A : Type 0} (settings : Settings) (cells : List Bool) (s : Fleet A) where
  -- it could not be read
  pub none-read : (fault : TalkFault) (known before : Option (List ℕ)) (waits : List ℕ) → IsMidway fault
      → IfSome known (λ xs. TalksUntil fault settings.roll s (acts_from settings cells 1 (heard_lines xs)) before before waits waits)
  none-read fault None before waits is = tt
  none-read fault (Some xs) before waits is = until-none fault settings.roll s (acts_from settings cells 1 (heard_lines xs)) before waits waits is refl

  -- there is none
  pub none-said : (known left before : Option (List ℕ)) (found : Bool) (line waits : List ℕ) → IfSome known (λ xs. IsNext xs left found line) → found ≡ false
      → IfSome known (λ xs. TalksAll settings s (acts_from settings cells 1 (heard_lines xs)) s before before waits waits)
  none-said None left before found line waits next none = tt
  none-said (Some xs) left before found line waits (rest, left_is, lines) none =
      let all : heard_lines xs ≡ [] = subst (λ (b : Bool). heard_lines xs ≡ (if b then line ∷ heard_lines rest else [])) none lines in
      subst (λ (ls : List (List ℕ)). TalksAll settings s (acts_from settings cells 1 ls) s before before waits waits) (sym all) ([], (refl, refl), says-none before waits)

-- ---- to what it comes

-- all was done
in_whole : (settings : Settings) (cells : List Bool) (s : Fleet Global) (bytes text : List ℕ) (last : Fleet Global) → Talks settings.roll s (acts_from settings cells 1 (heard_lines bytes)) text last → IsAnsweredInPart settings cells s bytes text
in_whole settings cells s bytes text last talks = record {
  done = acts_from settings cells 1 (heard_lines bytes);
  left = [];
  parts = sym (append-nil (acts_from settings cells 1 (heard_lines bytes)));
  last = last;
  talks = talks;
}

pub come-open : (settings : Settings) (cells : List Bool) (before mid after : Option (List (ChapterView Global))) (known a b : Option (List ℕ)) (w p : List ℕ) (s last : Fleet Global) (ended : Result (Unit {0}) TalkFault) (result : Result Bool TalkFault)
    → OnOk ended (IfSome known (λ xs. TalksAll settings s (acts_from settings cells 1 (heard_lines xs)) last a b w p))
    → IfErr ended (λ f. IfSome known (λ xs. TalksUntil f settings.roll s (acts_from settings cells 1 (heard_lines xs)) a b w p))
    → OnOk ended (KeepsTurned before mid s.talk last.talk) → Keeps ended last.met result → OnOk result (KeepsLast mid after last.talk)
    → IfSome known (λ xs. ComesOpen settings cells s xs a b w p (record { old = before; new = after }) result)
come-open settings cells before mid after None a b w p s last ended result all until turned keeps kept = tt
come-open settings cells before mid after (Some xs) a b w p s last ended result all until turned keeps kept = by ended result all until turned keeps kept
  where
    k : KeptChapters
    k = record { old = before; new = after }

    by : (ended : Result (Unit {0}) TalkFault) (result : Result Bool TalkFault) → OnOk ended (TalksAll settings s (acts_from settings cells 1 (heard_lines xs)) last a b w p)
        → IfErr ended (λ f. TalksUntil f settings.roll s (acts_from settings cells 1 (heard_lines xs)) a b w p)
        → OnOk ended (KeepsTurned before mid s.talk last.talk) → Keeps ended last.met result → OnOk result (KeepsLast mid after last.talk) → ComesOpen settings cells s xs a b w p k result
    by (Ok done) (Ok met) (text, talks, says) until turned keeps kept =
        let (chapters, are, adds) = keeps-all before mid after s.talk last.talk turned kept in
        (text, chapters, record { last = last; talks = talks; are = are; met = keeps.0 }, says, adds)
    by (Ok done) (Err f) (text, talks, says) until turned keeps kept = (text, in_whole settings cells s xs text last talks, midway f a b w p text keeps.1 says)
    by (Err f) result all u turned keeps kept = subst (ComesOpen settings cells s xs a b w p k) (sym keeps)
        (u.text, record { done = u.done; left = u.left; parts = u.parts; last = u.last; talks = u.talks }, u.says)

-- ---- the last write

abbrev Come : Settings → List Bool → Fleet Global → Option (List ℕ) → Option (List ℕ) → Option (List ℕ) → List ℕ → KeptChapters → Result Bool TalkFault → Type 0
Come settings cells s known a b p k ended = IfSome known (λ bytes. ComesOpen settings cells s bytes a b [] p k ended)

abbrev pub Whole : Settings → List Bool → Fleet Global → KeptChapters → Option (List ℕ) → Option (List ℕ) → Bool → List ℕ → Type 0
Whole settings cells s k a c met bytes = (text : List ℕ) × (chapters : List (ChapterView Global)) × IsAnswered settings cells s bytes text chapters met × Appends a c text × Adds k.old k.new chapters

abbrev pub Broken : Settings → List Bool → Fleet Global → Option (List ℕ) → Option (List ℕ) → List ℕ → Type 0
Broken settings cells s a c bytes = (text : List ℕ) × IsAnsweredInPart settings cells s bytes text × Appends a c text

abbrev pub CutShort : Settings → List Bool → Fleet Global → Option (List ℕ) → Option (List ℕ) → List ℕ → Type 0
CutShort settings cells s a c bytes = (text : List ℕ) × IsAnsweredInPart settings cells s bytes text × AppendsPrefix a c text

module _ (settings : Settings) (cells : List Bool) (s : Fleet Global) (k : KeptChapters) where
  whole_at : (known a b c : Option (List ℕ)) (p : List ℕ) (met : Bool) → Come settings cells s known a b p k (Ok met) → Appends b c p → IfSome known (Whole settings cells s k a c met)
  whole_at None a b c p met h all = tt
  whole_at (Some bytes) a b c p met (text, chapters, is, says, kept) all = (text, chapters, is, written_all a b c p text says all, kept)

  pub open-whole : (known a b c : Option (List ℕ)) (p : List ℕ) (ended result : Result Bool TalkFault) → Come settings cells s known a b p k ended → Finishes ended b c p result → IfOk result (λ met. IfSome known (Whole settings cells s k a c met))
  open-whole known a b c p ended (Err f) h last = tt
  open-whole known a b c p ended (Ok x) h (written all same) = whole_at known a b c p x (subst (Come settings cells s known a b p k) (sym same) h) all
  open-whole known a b c p ended (Ok x) h (unwritten part none) = let bad : Ok x ≡ err Output = none in absurd cc

  broken_at : (known a b c : Option (List ℕ)) (p : List ℕ) (f : TalkFault) → IsMidway f → Come settings cells s known a b p k (Err f) → Appends b c p → IfSome known (Broken settings cells s a c)
  broken_at None a b c p f mid h all = tt
  broken_at (Some bytes) a b c p Input mid (text, is, says) all = (text, is, written_all a b c p text says all)
  broken_at (Some bytes) a b c p Sink mid (text, is, says) all = (text, is, written_all a b c p text says all)
  broken_at (Some bytes) a b c p NoMemory mid (text, is, says) all = (text, is, written_all a b c p text says all)
  broken_at (Some bytes) a b c p Output mid h all = absurd mid
  broken_at (Some bytes) a b c p (Unopened f) mid h all = absurd mid
  broken_at (Some bytes) a b c p NoRooms mid h all = absurd mid

  pub open-broken : (known a b c : Option (List ℕ)) (p : List ℕ) (ended result : Result Bool TalkFault) → Come settings cells s known a b p k ended → Finishes ended b c p result
      → IfErr result (λ f. IsMidway f → IfSome known (Broken settings cells s a c))
  open-broken known a b c p ended (Ok x) h last = tt
  open-broken known a b c p ended (Err f) h (written all same) = λ mid. broken_at known a b c p f mid (subst (Come settings cells s known a b p k) (sym same) h) all
  open-broken known a b c p ended (Err f) h (unwritten part none) = λ mid. absurd (subst IsMidway (same_err f Output none) mid)

  cut_short : (known a b c : Option (List ℕ)) (p : List ℕ) (ended : Result Bool TalkFault) → Come settings cells s known a b p k ended → AppendsPrefix b c p → IfSome known (CutShort settings cells s a c)
  cut_short None a b c p ended h part = tt
  cut_short (Some bytes) a b c p (Ok met) (text, chapters, is, says, kept) part = (text, in_whole settings cells s bytes text is.last is.talks, written_part a b c p text says part)
  cut_short (Some bytes) a b c p (Err Input) (text, is, says) part = (text, is, written_part a b c p text says part)
  cut_short (Some bytes) a b c p (Err Sink) (text, is, says) part = (text, is, written_part a b c p text says part)
  cut_short (Some bytes) a b c p (Err NoMemory) (text, is, says) part = (text, is, written_part a b c p text says part)
  cut_short (Some bytes) a b c p (Err Output) (text, is, (prefix, none)) (n, within, taken) =
      (text, is, written_none a b c text prefix (subst (λ (l : List ℕ). Appends b c l) (ap (take n) none ∙ take_none n) taken))
  cut_short (Some bytes) a b c p (Err (Unopened f)) (text, is, says) part = absurd says
  cut_short (Some bytes) a b c p (Err NoRooms) (text, is, says) part = absurd says

  pub open-unwritten : (known a b c : Option (List ℕ)) (p : List ℕ) (ended result : Result Bool TalkFault) → Come settings cells s known a b p k ended → Finishes ended b c p result
      → result ≡ Err Output → IfSome known (CutShort settings cells s a c)
  open-unwritten known a b c p ended result h (written all same) is = cut_short known a b c p ended h (whole_prefix b c p all)
  open-unwritten known a b c p ended result h (unwritten part none) is = cut_short known a b c p ended h part

-- ---- a fleet that goes on

abbrev failed : ResumeFault → Result Bool ResumeFault
failed f = Err f

-- what refused a chapter is a reason why no conversation goes on from it
pub unresumed : (on : Terms) (c : ChapterView Global) (f : ResumeFault) → IsResumeFault on.settings.roomy on.kit on.floor on.head c f → IsUnresumed on c f
unresumed on c Robots is = is
unresumed on c Clients is = is
unresumed on c (Chapter why) is = is
unresumed on c (Errand x) is = is
unresumed on c Roomless is = absurd is
unresumed on c (Broke why) is = absurd is

module _ (on : Terms) (c : ChapterView Global) (turns : Option Turns) (takes : TakesOn on c turns) (s : Talk Global) (same : s ≡ resumed_in on c turns) (may : MayResume on.kit on.floor on.head c) (cells : List Bool) (lets : LetsIn on c cells) where
  pub resumption-whole : (known a b : Option (List ℕ)) (k : KeptChapters) (before : Option (List (ChapterView Global))) (met : Bool) → before ≡ k.old
      → IfSome known (Whole on.settings cells (opened_fleet s) (record { old = before; new = k.new }) a b met)
      → IfSome known (λ bytes. (text : List ℕ) × (chapters : List (ChapterView Global)) × IsResumption on c bytes text chapters met × Appends a b text × Adds k.old k.new chapters)
  resumption-whole None a b k before met eq h = tt
  resumption-whole (Some bytes) a b k before met eq (text, chapters, is, taken, kept) = (
    text,
    chapters,
    record { may = may; turns = turns; takes = takes; cells = cells; lets_in = lets; answered = subst (λ (x : Talk Global). IsAnswered on.settings cells (opened_fleet x) bytes text chapters met) same is },
    taken,
    subst (λ (o : Option (List (ChapterView Global))). Adds o k.new chapters) eq kept,
  )

  pub resumption-broken : (known a b : Option (List ℕ)) → IfSome known (Broken on.settings cells (opened_fleet s) a b) → IfSome known (λ bytes. (text : List ℕ) × IsResumptionBegun on c bytes text × Appends a b text)
  resumption-broken None a b h = tt
  resumption-broken (Some bytes) a b (text, is, taken) = (text, record { may = may; turns = turns; takes = takes; cells = cells; lets_in = lets; answered = subst (λ (x : Talk Global). IsAnsweredInPart on.settings cells (opened_fleet x) bytes text) same is }, taken)

  pub resumption-cut : (known a b : Option (List ℕ)) → IfSome known (CutShort on.settings cells (opened_fleet s) a b) → IfSome known (λ bytes. (text : List ℕ) × IsResumptionBegun on c bytes text × AppendsPrefix a b text)
  resumption-cut None a b h = tt
  resumption-cut (Some bytes) a b (text, is, taken) = (text, record { may = may; turns = turns; takes = takes; cells = cells; lets_in = lets; answered = subst (λ (x : Talk Global). IsAnsweredInPart on.settings cells (opened_fleet x) bytes text) same is }, taken)

-- a chapter that is refused, if the rooms of the map passed their checks
pub refusal-is : (on : Terms) (c : ChapterView Global) (f : ResumeFault) → IsUnresumed on c f → IsRefusal f → IsResumeFault on.settings.roomy on.kit on.floor on.head c f
refusal-is on c Robots is refusal = is
refusal-is on c Clients is refusal = is
refusal-is on c (Chapter why) is refusal = is
refusal-is on c (Errand x) is refusal = is
refusal-is on c Roomless is refusal = absurd refusal
refusal-is on c (Broke why) is refusal = absurd refusal

-- it is not, if they did not
pub roomless-is : (on : Terms) (c : ChapterView Global) (f : ResumeFault) → IsUnresumed on c f → failed f ≡ failed Roomless → IsRoomless on c
roomless-is on c f is same = let at : f ≡ Roomless = cc in subst (IsUnresumed on c) at is

abbrev broke : TalkFault → Result Bool ResumeFault
broke f = Err (Broke f)

pub same-broke : (f g : TalkFault) → broke f ≡ broke g → f ≡ g
same-broke f g h = cc
