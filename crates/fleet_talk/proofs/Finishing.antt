-- A conversation as a whole, from its parts.
use Rattle.std.proofs.Common.{◌≡◌, ◌∙◌, ℕ, Bool, false, zero, suc, List, [], ◌∷◌, ◌++◌, length, take, take_all, Option, Some, None, Result, Ok, Err, IfSome, refl, sym, ap, subst, arith, append-nil}
use Rattle.std.specs.Prelude.{OnOk, IfOk, IfErr}
use Rattle.std.specs.declared.alloc.Global.{Global}
use Rattle.std.specs.Io.KnownBytes.{Appends}
use Rattle.std.proofs.KnownBytes.{Appends-trans}
use Rattle.fleet_core.specs.Hooks.{AreOrderly}
use Rattle.fleet_core.specs.Opening.{CanOpen}
use Rattle.fleet_core.specs.declared.faults.OpenFault.{OpenFault}
use Rattle.fleet_script.specs.Script.{Draft}
use Rattle.fleet_text.specs.Transfer.{AppendsPrefix}
use Rattle.turns_law.specs.Turns.{Turns}
use Rattle.fleet_talk.specs.declared.ends.Settings.{Settings}
use Rattle.fleet_talk.specs.declared.fault.TalkFault.{TalkFault}
use Rattle.fleet_talk.specs.declared.fault.TalkFault.TheVariants.{Input, Output, Sink, Opening as Unopened, NoRooms, NoMemory}
use Rattle.fleet_talk.specs.Act.{acts_from}
use Rattle.fleet_talk.specs.Acts.{Talks}
use Rattle.fleet_talk.specs.Broken.{IsMidway, SaysUntil}
use Rattle.fleet_talk.specs.Chapters.{Adds, ChapterView, KeepsAll, KeepsLast, KeepsTurned}
use Rattle.fleet_talk.specs.Conversation.{Terms, KeptChapters, IsConversation, Refuses, unopened, talked, IsBegun, in_head, in_talk, IsRefusedHead, IsRoomlessHead, IsUnopened, MayOpen, Takes, ComesTo, head_in, opened, acts_of, clients_in, limits_in, laws_in}
use Rattle.fleet_talk.specs.Door.{AreRefused}
use Rattle.fleet_talk.specs.Ending.{Keeps, Finishes, written, unwritten}
use Rattle.fleet_talk.specs.Fleet.{Fleet}
use Rattle.fleet_talk.specs.Heard.{Opening, Head, all_of, heard_lines}
use Rattle.fleet_talk.specs.Heading.{HearsAll, HearsUntil}
use Rattle.fleet_talk.specs.Says.{Says}
use Rattle.fleet_talk.specs.Talked.{TalksUntil}
use Rattle.fleet_talk.proofs.Saying.{prefix-after, says-then, until-then}
use Rattle.fleet_talk.proofs.Keeping.{adds-none, keeps-all}

-- ---- the last write

pub written_all : (a b c : Option (List ℕ)) (p text : List ℕ) → Says a b [] p text → Appends b c p → Appends a c text
written_all a b c p text says last = subst (λ (l : List ℕ). Appends a c l) says.same (Appends-trans a b c says.written p says.taken last)

pub written_part : (a b c : Option (List ℕ)) (p text : List ℕ) → Says a b [] p text → AppendsPrefix b c p → AppendsPrefix a c text
written_part a b c p text says last = subst (λ (l : List ℕ). AppendsPrefix a c l) says.same (prefix-after a b c says.written p says.taken last)

-- nothing more was written
pub written_none : (a b c : Option (List ℕ)) (text : List ℕ) → AppendsPrefix a b text → Appends b c [] → AppendsPrefix a c text
written_none a b c text (n, within, taken) last = (n, within, subst (λ (l : List ℕ). Appends a c l) (append-nil (take n text)) (Appends-trans a b c (take n text) [] taken last))

pub take_none : (n : ℕ) → take {A = ℕ} n [] ≡ []
take_none zero = refl
take_none (suc n) = refl

abbrev pub err : {X : Type 0} → TalkFault → Result X TalkFault
err f = Err f

pub same_err : {X : Type 0} (f g : TalkFault) → err {X = X} f ≡ err g → f ≡ g
same_err f g h = cc

begun : (on : Terms) (bytes text : List ℕ) (chapters : List (ChapterView Global)) (met : Bool) → IsConversation on bytes text chapters met → IsBegun on bytes text
begun on bytes text chapters met (unopened none is kept unmet) = in_head (head_in on bytes).said [] (sym (append-nil (head_in on bytes).said)) is
begun on bytes text chapters met (talked o at may turns takes cells refuses answers last talks is kept limited) = in_talk o at may turns takes cells refuses (acts_of on cells o) [] (sym (append-nil (acts_of on cells o))) answers last talks is

-- ---- the clauses of a conversation

abbrev pub Whole : Terms → KeptChapters → Option (List ℕ) → Option (List ℕ) → Bool → List ℕ → Type 0
Whole on k a c met bytes = (text : List ℕ) × (chapters : List (ChapterView Global)) × IsConversation on bytes text chapters met × Appends a c text × Adds k.old k.new chapters

abbrev pub Broken : Terms → Option (List ℕ) → Option (List ℕ) → List ℕ → Type 0
Broken on a c bytes = (text : List ℕ) × IsBegun on bytes text × Appends a c text

abbrev pub CutShort : Terms → Option (List ℕ) → Option (List ℕ) → List ℕ → Type 0
CutShort on a c bytes = (text : List ℕ) × IsBegun on bytes text × AppendsPrefix a c text

abbrev pub Refused : Terms → Option (List ℕ) → Option (List ℕ) → OpenFault → List ℕ → Type 0
Refused on a c f bytes = (text : List ℕ) × IsRefusedHead on bytes text f × Appends a c text

abbrev pub Roomless : Terms → Option (List ℕ) → Option (List ℕ) → List ℕ → Type 0
Roomless on a c bytes = (text : List ℕ) × IsRoomlessHead on bytes text × Appends a c text

abbrev Come : Terms → Option (List ℕ) → Option (List ℕ) → Option (List ℕ) → List ℕ → KeptChapters → Result Bool TalkFault → Type 0
Come on known a b p k ended = IfSome known (λ bytes. ComesTo on bytes a b [] p k ended)

whole_at : (on : Terms) (k : KeptChapters) (known a b c : Option (List ℕ)) (p : List ℕ) (met : Bool) → Come on known a b p k (Ok met) → Appends b c p → IfSome known (Whole on k a c met)
whole_at on k None a b c p met h all = tt
whole_at on k (Some bytes) a b c p met (text, chapters, is, says, kept) all = (text, chapters, is, written_all a b c p text says all, kept)

pub finish-whole : (on : Terms) (k : KeptChapters) (known a b c : Option (List ℕ)) (p : List ℕ) (ended result : Result Bool TalkFault) → Come on known a b p k ended → Finishes ended b c p result → IfOk result (λ met. IfSome known (Whole on k a c met))
finish-whole on k known a b c p ended (Err f) h last = tt
finish-whole on k known a b c p ended (Ok x) h (written all same) = whole_at on k known a b c p x (subst (Come on known a b p k) (sym same) h) all
finish-whole on k known a b c p ended (Ok x) h (unwritten part none) = let bad : Ok x ≡ err Output = none in absurd cc

refused_at : (on : Terms) (k : KeptChapters) (known a b c : Option (List ℕ)) (p : List ℕ) (f : OpenFault) → Come on known a b p k (Err (Unopened f)) → Appends b c p → IfSome known (Refused on a c f)
refused_at on k None a b c p f h all = tt
refused_at on k (Some bytes) a b c p f (text, is, says) all = (text, is, written_all a b c p text says all)

pub finish-refused : (on : Terms) (k : KeptChapters) (known a b c : Option (List ℕ)) (p : List ℕ) (ended result : Result Bool TalkFault) → Come on known a b p k ended → Finishes ended b c p result
    → (f : OpenFault) → result ≡ Err (Unopened f) → IfSome known (Refused on a c f)
finish-refused on k known a b c p ended result h (written all same) f is = refused_at on k known a b c p f (subst (Come on known a b p k) (sym same ∙ is) h) all
finish-refused on k known a b c p ended result h (unwritten part none) f is = let bad : Output ≡ Unopened f = same_err Output (Unopened f) (sym none ∙ is) in absurd cc

roomless_at : (on : Terms) (k : KeptChapters) (known a b c : Option (List ℕ)) (p : List ℕ) → Come on known a b p k (Err NoRooms) → Appends b c p → IfSome known (Roomless on a c)
roomless_at on k None a b c p h all = tt
roomless_at on k (Some bytes) a b c p (text, is, says) all = (text, is, written_all a b c p text says all)

pub finish-roomless : (on : Terms) (k : KeptChapters) (known a b c : Option (List ℕ)) (p : List ℕ) (ended result : Result Bool TalkFault) → Come on known a b p k ended → Finishes ended b c p result
    → result ≡ Err NoRooms → IfSome known (Roomless on a c)
finish-roomless on k known a b c p ended result h (written all same) is = roomless_at on k known a b c p (subst (Come on known a b p k) (sym same ∙ is) h) all
finish-roomless on k known a b c p ended result h (unwritten part none) is = let bad : Output ≡ NoRooms = same_err Output NoRooms (sym none ∙ is) in absurd cc

broken_at : (on : Terms) (k : KeptChapters) (known a b c : Option (List ℕ)) (p : List ℕ) (f : TalkFault) → IsMidway f → Come on known a b p k (Err f) → Appends b c p → IfSome known (Broken on a c)
broken_at on k None a b c p f mid h all = tt
broken_at on k (Some bytes) a b c p Input mid (text, is, says) all = (text, is, written_all a b c p text says all)
broken_at on k (Some bytes) a b c p Sink mid (text, is, says) all = (text, is, written_all a b c p text says all)
broken_at on k (Some bytes) a b c p NoMemory mid (text, is, says) all = (text, is, written_all a b c p text says all)
broken_at on k (Some bytes) a b c p Output mid h all = absurd mid
broken_at on k (Some bytes) a b c p (Unopened f) mid h all = absurd mid
broken_at on k (Some bytes) a b c p NoRooms mid h all = absurd mid

pub finish-broken : (on : Terms) (k : KeptChapters) (known a b c : Option (List ℕ)) (p : List ℕ) (ended result : Result Bool TalkFault) → Come on known a b p k ended → Finishes ended b c p result
    → IfErr result (λ f. IsMidway f → IfSome known (Broken on a c))
finish-broken on k known a b c p ended (Ok x) h last = tt
finish-broken on k known a b c p ended (Err f) h (written all same) = λ mid. broken_at on k known a b c p f mid (subst (Come on known a b p k) (sym same) h) all
finish-broken on k known a b c p ended (Err f) h (unwritten part none) = λ mid. absurd (subst IsMidway (same_err f Output none) mid)

cut_at : (on : Terms) (k : KeptChapters) (known a b c : Option (List ℕ)) (p : List ℕ) → Come on known a b p k (Err Output) → AppendsPrefix b c p → IfSome known (CutShort on a c)
cut_at on k None a b c p h part = tt
cut_at on k (Some bytes) a b c p (text, is, (prefix, none)) (n, within, taken) =
    (text, is, written_none a b c text prefix (subst (λ (l : List ℕ). Appends b c l) (ap (take n) none ∙ take_none n) taken))

cut_short : (on : Terms) (k : KeptChapters) (known a b c : Option (List ℕ)) (p : List ℕ) (ended : Result Bool TalkFault) → Come on known a b p k ended → AppendsPrefix b c p → IfSome known (CutShort on a c)
cut_short on k None a b c p ended h part = tt
cut_short on k (Some bytes) a b c p (Ok met) (text, chapters, is, says, kept) part = (text, begun on bytes text chapters met is, written_part a b c p text says part)
cut_short on k (Some bytes) a b c p (Err Input) (text, is, says) part = (text, is, written_part a b c p text says part)
cut_short on k (Some bytes) a b c p (Err Sink) (text, is, says) part = (text, is, written_part a b c p text says part)
cut_short on k (Some bytes) a b c p (Err NoMemory) (text, is, says) part = (text, is, written_part a b c p text says part)
cut_short on k (Some bytes) a b c p (Err Output) h part = cut_at on k (Some bytes) a b c p h part
cut_short on k (Some bytes) a b c p (Err (Unopened f)) (text, is, says) part =
    (text, in_head (head_in on bytes).said [] (sym (append-nil (head_in on bytes).said)) is.is, written_part a b c p text says part)
cut_short on k (Some bytes) a b c p (Err NoRooms) (text, is, says) part =
    (text, in_head (head_in on bytes).said [] (sym (append-nil (head_in on bytes).said)) is.is, written_part a b c p text says part)

pub whole_prefix : (b c : Option (List ℕ)) (p : List ℕ) → Appends b c p → AppendsPrefix b c p
whole_prefix b c p all = (length p, omega arith, subst (λ (l : List ℕ). Appends b c l) (sym (take_all (length p) p (omega arith))) all)

pub finish-unwritten : (on : Terms) (k : KeptChapters) (known a b c : Option (List ℕ)) (p : List ℕ) (ended result : Result Bool TalkFault) → Come on known a b p k ended → Finishes ended b c p result
    → result ≡ Err Output → IfSome known (CutShort on a c)
finish-unwritten on k known a b c p ended result h (written all same) is = cut_short on k known a b c p ended h (whole_prefix b c p all)
finish-unwritten on k known a b c p ended result h (unwritten part none) is = cut_short on k known a b c p ended h part

-- ---- what a conversation comes to

-- the head broke off
pub come-head : (on : Terms) (k : KeptChapters) (known a b : Option (List ℕ)) (o p : List ℕ) (f : TalkFault) → IfSome known (λ xs. HearsUntil f on.settings on.head xs a b o p) → IfSome known (λ xs. ComesTo on xs a b o p k (Err f))
come-head on k None a b o p f h = tt
come-head on k (Some xs) a b o p Input h = (all_of h.said, in_head h.said h.left h.parts refl, h.says)
come-head on k (Some xs) a b o p Output h = (all_of h.said, in_head h.said h.left h.parts refl, h.says)
come-head on k (Some xs) a b o p Sink h = (all_of h.said, in_head h.said h.left h.parts refl, h.says)
come-head on k (Some xs) a b o p NoMemory h = (all_of h.said, in_head h.said h.left h.parts refl, h.says)
come-head on k (Some xs) a b o p (Unopened f) h = absurd h.says
come-head on k (Some xs) a b o p NoRooms h = absurd h.says

-- no line opened the fleet
pub come-unopened : (on : Terms) (before after : Option (List (ChapterView Global))) (known left a b : Option (List ℕ)) (e : Draft) (line o p : List ℕ) → after ≡ before → IfSome known (λ xs. HearsAll on.settings on.head xs left e line None a b o p) → IfSome known (λ xs. ComesTo on xs a b o p (record { old = before; new = after }) (Ok false))
come-unopened on before after None left a b e line o p same h = tt
come-unopened on before after (Some xs) left a b e line o p same (said, is, says) =
    (all_of said, [], unopened (ap (λ (x : Head). x.opening) is) (ap (λ (x : Head). all_of x.said) (sym is)) refl refl, says, rw same (adds-none before))

-- the fleet that a head opens
abbrev pub Opens : Terms → Option (List ℕ) → Option (List ℕ) → Draft → List ℕ → ℕ → Option (List ℕ) → Option (List ℕ) → List ℕ → List ℕ → Type 0
Opens on known left e line first a b o p = IfSome known (λ xs. HearsAll on.settings on.head xs left e line (Some first) a b o p)

-- it is refused, or memory runs out
pub come-refused : (on : Terms) (k : KeptChapters) (known left a b : Option (List ℕ)) (e : Draft) (line : List ℕ) (first : ℕ) (o p : List ℕ) (f : TalkFault) → Opens on known left e line first a b o p
    → ((starts : List ℕ) → e.starts ≡ Some starts → IsUnopened on.kit on.floor on.settings.manner starts e f)
    → IfSome known (λ xs. ComesTo on xs a b o p k (Err f))
come-refused on k None left a b e line first o p f h refused = tt
come-refused on k (Some xs) left a b e line first o p f (rest, left_is, starts, starts_is, said, is, says) refused = by f (refused starts starts_is)
  where
    told : all_of said ≡ all_of (head_in on xs).said
    told = ap (λ (x : Head). all_of x.said) (sym is)

    by : (f : TalkFault) → IsUnopened on.kit on.floor on.settings.manner starts e f → ComesTo on xs a b o p k (Err f)
    by NoMemory r = (all_of said, in_head said [] (ap (λ (x : Head). x.said) is ∙ sym (append-nil said)) refl, says)
    by (Unopened why) r = (all_of said, record { opening = _; at = ap (λ (x : Head). x.opening) is; refused = r; is = told }, says)
    by NoRooms r = (all_of said, record { opening = _; at = ap (λ (x : Head). x.opening) is; may = (r.0, r.1); asked = r.2; is = told }, says)
    by Input r = absurd r
    by Output r = absurd r
    by Sink r = absurd r

-- what the open fleet came to
record Talked (on : Terms) (bytes : List ℕ) (o : Opening) (turns : Option Turns) (cells : List Bool) (a b c : Option (List ℕ)) (w p q : List ℕ) : Type 0 where
  at : (head_in on bytes).opening ≡ Some o
  may : MayOpen on o
  takes : Takes on o turns
  refuses : Refuses on o cells
  says : Says a b w p (all_of (head_in on bytes).said)

-- all that was asked of it was said, and it ended so
abbrev SaidAll : Terms → List Bool → Opening → Option Turns → Fleet Global → Option (List ℕ) → Option (List ℕ) → List ℕ → List ℕ → Type 0
SaidAll on cells o turns last b c p q = (text : List ℕ) × Talks on.settings.roll (opened on o turns) (acts_of on cells o) text last × Says b c p q text

come_all : (on : Terms) (k : KeptChapters) (bytes : List ℕ) (o : Opening) (turns : Option Turns) (cells : List Bool) (last : Fleet Global) (a b c : Option (List ℕ)) (w p q : List ℕ) → Talked on bytes o turns cells a b c w p q → SaidAll on cells o turns last b c p q
    → KeepsAll k.old k.new (opened on o turns).talk last.talk → (met : Bool) → met ≡ last.met → ComesTo on bytes a c w q k (Ok met)
come_all on k bytes o turns cells last a b c w p q t (text, talks, says) (chapters, are, kept) met is =
    (all_of (head_in on bytes).said ++ text, chapters, talked o t.at t.may turns t.takes cells t.refuses text last talks refl are is, says-then a b c w p q (all_of (head_in on bytes).said) text t.says says, kept)

-- the last chapter was not kept
come_unkept : (on : Terms) (k : KeptChapters) (bytes : List ℕ) (o : Opening) (turns : Option Turns) (cells : List Bool) (last : Fleet Global) (a b c : Option (List ℕ)) (w p q : List ℕ) (f : TalkFault) → Talked on bytes o turns cells a b c w p q → SaidAll on cells o turns last b c p q
    → IsMidway f → ComesTo on bytes a c w q k (Err f)
come_unkept on k bytes o turns cells last a b c w p q f t (answers, talks, told) mid = by f mid
  where
    is : IsBegun on bytes (all_of (head_in on bytes).said ++ answers)
    is = in_talk o t.at t.may turns t.takes cells t.refuses (acts_of on cells o) [] (sym (append-nil (acts_of on cells o))) answers last talks refl

    says : Says a c w q (all_of (head_in on bytes).said ++ answers)
    says = says-then a b c w p q (all_of (head_in on bytes).said) answers t.says told

    by : (f : TalkFault) → IsMidway f → ComesTo on bytes a c w q k (Err f)
    by Input mid = (all_of (head_in on bytes).said ++ answers, is, says)
    by Sink mid = (all_of (head_in on bytes).said ++ answers, is, says)
    by NoMemory mid = (all_of (head_in on bytes).said ++ answers, is, says)
    by Output mid = absurd mid
    by (Unopened f) mid = absurd mid
    by NoRooms mid = absurd mid

come_until : (on : Terms) (k : KeptChapters) (bytes : List ℕ) (o : Opening) (turns : Option Turns) (cells : List Bool) (a b c : Option (List ℕ)) (w p q : List ℕ) (f : TalkFault) → Talked on bytes o turns cells a b c w p q
    → TalksUntil f on.settings.roll (opened {A = Global} on o turns) (acts_of on cells o) b c p q → ComesTo on bytes a c w q k (Err f)
come_until on k bytes o turns cells a b c w p q f t u = by f (until-then f a b c w p q (all_of (head_in on bytes).said) u.text t.says u.says)
  where
    text : List ℕ
    text = all_of (head_in on bytes).said ++ u.text

    is : IsBegun on bytes (all_of (head_in on bytes).said ++ u.text)
    is = in_talk o t.at t.may turns t.takes cells t.refuses u.done u.left u.parts u.text u.last u.talks refl

    by : (f : TalkFault) → SaysUntil f a c w q (all_of (head_in on bytes).said ++ u.text) → ComesTo on bytes a c w q k (Err f)
    by Input s = (all_of (head_in on bytes).said ++ u.text, is, s)
    by Output s = (all_of (head_in on bytes).said ++ u.text, is, s)
    by Sink s = (all_of (head_in on bytes).said ++ u.text, is, s)
    by NoMemory s = (all_of (head_in on bytes).said ++ u.text, is, s)
    by (Unopened f) s = absurd s
    by NoRooms s = absurd s

-- the same of the open fleet, in the words of the head
all_said : (on settings : Settings) (cells : List Bool) (rest : List ℕ) (first : ℕ) (line : List ℕ) (b c : Option (List ℕ)) (p q : List ℕ) (left : Option (List ℕ)) (s t last : Fleet Global) → left ≡ Some rest → settings ≡ on → s ≡ t
    → IfSome left (λ xs. (text : List ℕ) × Talks settings.roll s (acts_from settings cells first (line ∷ heard_lines xs)) text last × Says b c p q text)
    → (text : List ℕ) × Talks on.roll t (acts_from on cells first (line ∷ heard_lines rest)) text last × Says b c p q text
all_said on settings cells rest first line b c p q left s t last left_is same is h =
    let (text, talks, says) = subst (λ (l : Option (List ℕ)). IfSome l (λ xs. (text : List ℕ) × Talks settings.roll s (acts_from settings cells first (line ∷ heard_lines xs)) text last × Says b c p q text)) left_is h in
    (text, subst (λ (x : Fleet Global). Talks on.roll x (acts_from on cells first (line ∷ heard_lines rest)) text last) is (subst (λ (st : Settings). Talks st.roll s (acts_from st cells first (line ∷ heard_lines rest)) text last) same talks), says)

until_said : (on settings : Settings) (cells : List Bool) (rest : List ℕ) (first : ℕ) (line : List ℕ) (b c : Option (List ℕ)) (p q : List ℕ) (left : Option (List ℕ)) (s t : Fleet Global) (f : TalkFault) → left ≡ Some rest → settings ≡ on → s ≡ t
    → IfSome left (λ xs. TalksUntil f settings.roll s (acts_from settings cells first (line ∷ heard_lines xs)) b c p q) → TalksUntil f on.roll t (acts_from on cells first (line ∷ heard_lines rest)) b c p q
until_said on settings cells rest first line b c p q left s t f left_is same is h =
    let u = subst (λ (l : Option (List ℕ)). IfSome l (λ xs. TalksUntil f settings.roll s (acts_from settings cells first (line ∷ heard_lines xs)) b c p q)) left_is h in
    subst (λ (x : Fleet Global). TalksUntil f on.roll x (acts_from on cells first (line ∷ heard_lines rest)) b c p q) is (subst (λ (st : Settings). TalksUntil f st.roll s (acts_from st cells first (line ∷ heard_lines rest)) b c p q) same u)

-- the fleet was opened, the lines from then on were answered, and the chapters were kept
pub come-talk : (on : Terms) (before mid after : Option (List (ChapterView Global))) (known left a b c : Option (List ℕ)) (e : Draft) (line : List ℕ) (first : ℕ) (w p q : List ℕ) (settings : Settings) (turns : Option Turns) (cells : List Bool) (s last : Fleet Global)
    (ended : Result (Unit {0}) TalkFault) (result : Result Bool TalkFault)
    → Opens on known left e line first a b w p → settings ≡ on.settings
    → ((starts : List ℕ) → e.starts ≡ Some starts → CanOpen on.floor starts (clients_in e) (limits_in e) (laws_in on.kit e starts))
    → ((starts : List ℕ) → e.starts ≡ Some starts → AreOrderly (laws_in on.kit e starts))
    → ((starts : List ℕ) → e.starts ≡ Some starts → AreRefused on.settings.roomy on.floor (length starts) cells)
    → ((starts : List ℕ) → e.starts ≡ Some starts → Takes on (record { starts = starts; head = e; number = first; lines = [] }) turns)
    → ((starts : List ℕ) → e.starts ≡ Some starts → s ≡ opened on (record { starts = starts; head = e; number = first; lines = [] }) turns)
    → OnOk ended (IfSome left (λ xs. (text : List ℕ) × Talks settings.roll s (acts_from settings cells first (line ∷ heard_lines xs)) text last × Says b c p q text))
    → IfErr ended (λ f. IfSome left (λ xs. TalksUntil f settings.roll s (acts_from settings cells first (line ∷ heard_lines xs)) b c p q))
    → OnOk ended (KeepsTurned before mid s.talk last.talk) → Keeps ended last.met result → OnOk result (KeepsLast mid after last.talk)
    → IfSome known (λ xs. ComesTo on xs a c w q (record { old = before; new = after }) result)
come-talk on before mid after None left a b c e line first w p q settings turns cells s last ended result h same can orderly refuses takes ready all until turned keeps kept = tt
come-talk on before mid after (Some xs) left a b c e line first w p q settings turns cells s last ended result (rest, left_is, starts, starts_is, said, is, says) same can orderly refuses takes ready all until turned keeps kept =
    by ended result all until turned keeps kept
  where
    o : Opening
    o = record { starts = starts; head = e; number = first; lines = line ∷ heard_lines rest }

    t : Talked on xs o turns cells a b c w p q
    t = record {
      at = ap (λ (x : Head). x.opening) is;
      may = (can starts starts_is, orderly starts starts_is);
      takes = takes starts starts_is;
      refuses = refuses starts starts_is;
      says = subst (λ (x : List ℕ). Says a b w p x) (ap (λ (x : Head). all_of x.said) (sym is)) says;
    }

    by : (ended : Result (Unit {0}) TalkFault) (result : Result Bool TalkFault) → OnOk ended (IfSome left (λ xs. (text : List ℕ) × Talks settings.roll s (acts_from settings cells first (line ∷ heard_lines xs)) text last × Says b c p q text))
        → IfErr ended (λ f. IfSome left (λ xs. TalksUntil f settings.roll s (acts_from settings cells first (line ∷ heard_lines xs)) b c p q))
        → OnOk ended (KeepsTurned before mid s.talk last.talk) → Keeps ended last.met result → OnOk result (KeepsLast mid after last.talk) → ComesTo on xs a c w q (record { old = before; new = after }) result
    by (Ok done) (Ok met) all until turned keeps kept =
        come_all on (record { old = before; new = after }) xs o turns cells last a b c w p q t (all_said on.settings settings cells rest first line b c p q left s (opened on o turns) last left_is same (ready starts starts_is) all)
        (keeps-all before mid after (opened on o turns).talk last.talk (subst (λ (x : Fleet Global). KeepsTurned before mid x.talk last.talk) (ready starts starts_is) turned) kept) met keeps.0
    by (Ok done) (Err f) all until turned keeps kept =
        come_unkept on (record { old = before; new = after }) xs o turns cells last a b c w p q f t (all_said on.settings settings cells rest first line b c p q left s (opened on o turns) last left_is same (ready starts starts_is) all) keeps.1
    by (Err f) result all until turned keeps kept =
        subst (ComesTo on xs a c w q (record { old = before; new = after })) (sym keeps)
        (come_until on (record { old = before; new = after }) xs o turns cells a b c w p q f t (until_said on.settings settings cells rest first line b c p q left s (opened on o turns) f left_is same (ready starts starts_is) until))
