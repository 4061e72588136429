-- A script in form, as a conversation hears it.
use Rattle.std.proofs.Common.{◌≡◌, ◌∙◌, ℕ, zero, suc, ◌+◌, ◌≤◌, Bool, true, false, bytes_eq, cond, ◌&&◌, leb, ltb, eqb, List, [], ◌∷◌, ◌++◌, length, map, take, take_all, replicate, Option, Some, None, Result, Ok, refl, sym, ap, subst, arith, codes, option_map, unwrap_or, is_some, append-nil, inl, inr, append_assoc, true≢false}
use Rattle.std.specs.List.{AllByRecursion, slice_split, onto_first}
use Rattle.std.specs.Str.Lines.{strip_carriage_return}
use Rattle.std.proofs.lemmas.Bool.{cases_Bool, leb-true, le-leb, le-ltb, eqb-true, and_parts}
use Rattle.std.proofs.lemmas.Option.{same_Some}
use Rattle.std.specs.Prelude.{filter, not}
use Rattle.fleet_map.specs.Text.{is_blank, is_empty, words_of}
use Rattle.fleet_book.specs.declared.event.Event.{Event}
use Rattle.fleet_book.specs.declared.event.Event.TheVariants.{Post, Take, Tick, Give, Collect, Shut}
use Rattle.fleet_book.specs.declared.order.Order.{Order}
use Rattle.fleet_book.specs.declared.order.Order.TheVariants.{Go, Close, Withdraw}
use Rattle.fleet_roomy.specs.Unroomy.{has}
use Rattle.fleet_script.specs.declared.lines.Repeat.{Repeat}
use Rattle.fleet_script.specs.Script.{Draft, Plan, Repeated, starts_within, if_new, with_header, with_header_within, with_events, no_events, with_line_of, with_line, with_words, is_comment, events_of, plan_from, limits_of, or_line, and_then, draft_of, blank_draft, script_of}
use Rattle.fleet_script.specs.Numbers.{numbers_in}
use Rattle.fleet_script.specs.Grammar.{is_header}
use Rattle.fleet_script.proofs.Heads.{at_word, header_is}
use Rattle.fleet_script.proofs.Forms.{event_is, other_is}
use Rattle.fleet_talk.specs.declared.ask.Asked.{Asked}
use Rattle.fleet_talk.specs.declared.ask.Asked.TheVariants.{Nothing, Events, Chapter as TheChapter, Look, Open, Quit, Other, Long, NoRoom}
use Rattle.fleet_talk.specs.declared.ends.Settings.{Settings}
use Rattle.mover.specs.declared.manner.Manner.TheVariants as manner
use Rattle.fleet_talk.specs.Ask.{Line, line_in, asked_in, word_asked, is_marked}
use Rattle.fleet_talk.specs.Act.{Act, play, is_quit, acts_asked, acts_on, acts_from}
use Rattle.fleet_talk.specs.Door.{event_let_in, let_in, line_let_in, order_let_in}
use Rattle.fleet_talk.specs.Heard.{parts_of, heard_lines, AreShort, Opening, Head, no_head, with_said, unless_opened, opens, header_texts, with_head_line, head_of}

-- ---- lines without a mark

words_at : (bs : List ℕ) → (w : List ℕ) × (ws : List (List ℕ)) × (words_of (64 ∷ bs) ≡ (64 ∷ w) ∷ ws)
words_at bs = go (slice_split is_blank bs)
  where
    go : (parts : List (List ℕ)) → (w : List ℕ) × (ws : List (List ℕ)) × (filter (λ part. not (is_empty part)) (onto_first 64 parts) ≡ (64 ∷ w) ∷ ws)
    go [] = ([], [], refl)
    go (part ∷ parts) = (part, filter (λ part. not (is_empty part)) parts, refl)

abbrev draft : Draft → Option Draft
draft d = Some d

no_mark_line : (d : Draft) (n : ℕ) (m : Draft) (w : List ℕ) (ws : List (List ℕ)) → with_words d n ((64 ∷ w) ∷ ws) ≡ Some m → ⊥
no_mark_line d n m w ws h =
    let t = other_is d (64 ∷ w) ws m h in
    let bad : None ≡ draft m = t.1 in absurd cc

-- a line that may stand in a script has no mark
unmarked : (d : Draft) (n : ℕ) (text : List ℕ) (m : Draft) → with_line d n text ≡ Some m → is_marked text ≡ false
unmarked d n [] m h = refl
unmarked d n (b ∷ bs) m h = elim (cases_Bool (eqb b 64)) [
  | inl e ↦
      let at = eqb-true b 64 e in
      let (w, ws, is) = words_at bs in
      let line : with_words d n (words_of (64 ∷ bs)) ≡ draft m = subst (λ (x : ℕ). with_line d n (x ∷ bs) ≡ draft m) at h in
      absurd (no_mark_line d n m w ws (subst (λ (l : List (List ℕ)). with_words d n l ≡ draft m) is line))
  | inr e ↦ e
]

-- ---- what a line says

-- the line of a script, as a conversation hears it
plain_line : (n : ℕ) (raw : List ℕ) → length raw ≤ 8192 → is_marked (strip_carriage_return raw) ≡ false
    → line_in n raw ≡ record { number = n; mark = None; told = strip_carriage_return raw; asked = asked_in (strip_carriage_return raw) }
plain_line n raw short none =
    let text = strip_carriage_return raw in
    let fits : ltb 8192 (length raw) ≡ false = le-ltb 8192 (length raw) short in
    rw (none, fits) refl

-- a header line within 16 robots is one within 512
more_starts : (words : List (List ℕ)) (cells : List ℕ) → starts_within 16 words ≡ Some cells → starts_within 512 words ≡ Some cells
more_starts words cells h = go (leb 1 (length words) && leb (length words) 16) refl h
  where
    go : (b : Bool) → (leb 1 (length words) && leb (length words) 16) ≡ b → cond b (numbers_in words) None ≡ Some cells → starts_within 512 words ≡ Some cells
    go false is h = absurd cc
    go true is h =
        let both = and_parts (leb 1 (length words)) (leb (length words) 16) is in
        let most : leb (length words) 512 ≡ true = le-leb (length words) 512 (omega (arith, leb-true (length words) 16 both.1)) in
        rw (both.0, most) h

new_more : (d : Draft) (old said more : Option (List ℕ)) (m : Draft) → ((cells : List ℕ) → said ≡ Some cells → more ≡ Some cells)
    → option_map (λ cells. record d { starts = Some cells }) (if_new old said) ≡ Some m → option_map (λ cells. record d { starts = Some cells }) (if_new old more) ≡ Some m
new_more d (Some x) said more m f h = absurd cc
new_more d None None more m f h = absurd cc
new_more d None (Some cells) more m f h = rw (f cells refl) h

abbrev IsMore : Draft → List (List ℕ) → Draft → List ℕ → Type 0
IsMore d words m key = with_header d key words ≡ Some m → with_header_within 512 d key words ≡ Some m

more_robots : (d : Draft) (key : List ℕ) (words : List (List ℕ)) (m : Draft) → IsMore d words m key
more_robots d key words m = at_word (IsMore d words m) key (codes "robots")
    (new_more d d.starts (starts_within 16 words) (starts_within 512 words) m (more_starts words))
    (λ e h. rw e (rw e at h))

abbrev IsOther : List (List ℕ) → List ℕ → Type 0
IsOther words key = is_header key words ≡ true → word_asked (key ∷ words) ≡ Other

-- a header line is no word of a conversation
no_word : (key : List ℕ) → bytes_eq key (codes "open") ≡ false → IsOther [] key
no_word key o = at_word (IsOther []) key (codes "chapter") (λ h. absurd (true≢false (sym h)))
    (λ a. at_word (IsOther []) key (codes "look") (λ h. absurd (true≢false (sym h)))
    (λ b. at_word (IsOther []) key (codes "quit") (λ h. absurd (true≢false (sym h)))
    (λ c h. rw (o, a, b, c) refl)))

not_asked : (key : List ℕ) (words : List (List ℕ)) → IsOther words key
not_asked key (word ∷ words) = at_word (IsOther (word ∷ words)) key (codes "open") (λ h. absurd (true≢false (sym h))) (λ o h. rw o refl)
not_asked key [] = at_word (IsOther []) key (codes "open") (λ h. absurd (true≢false (sym h))) (no_word key)

data Means (d : Draft) (n : ℕ) (text : List ℕ) (m : Draft) : Type 0 where
  nothing : asked_in text ≡ Nothing → m ≡ d → Means d n text m
  events : (more : Repeated) → asked_in text ≡ Events (record { event = more.event; times = more.times }) → 1 ≤ more.times → m ≡ with_events d n more → Means d n text m
  header : (key : List ℕ) (words : List (List ℕ)) → asked_in text ≡ Other → no_events d.events ≡ true → words_of text ≡ key ∷ words → with_header_within 512 d key words ≡ Some m → m.events ≡ d.events → Means d n text m

means : (d : Draft) (n : ℕ) (text : List ℕ) (m : Draft) → with_line d n text ≡ Some m → Means d n text m
means d n text m h = elim (cases_Bool (is_comment text)) [
  | inl e ↦
      let same : draft d ≡ draft m = rw e at h in
      nothing (rw e refl) (sym (same_Some d m same))
  | inr e ↦
      let line : with_words d n (words_of text) ≡ draft m = rw e at h in
      by e (words_of text) refl line
]
  where
    by_events : is_comment text ≡ false → (key : List ℕ) (words : List (List ℕ)) → words_of text ≡ key ∷ words → (o : Option Repeated) → events_of key words ≡ o → with_line_of d n key words o ≡ Some m → Means d n text m
    by_events e key words is (Some more) named h = events more (rw (e, is, named) refl) (event_is d key words more named).some (sym (same_Some (with_events d n more) m h))
    by_events e key words is None named h =
        let t = other_is d key words m h in
        let took = (header_is d key words).took m t.1 in
        header key words (rw (e, is, named) (not_asked key words took.form)) t.0 is (more_robots d key words m t.1) (ap (λ (x : Draft). x.events) took.value)

    by : is_comment text ≡ false → (words : List (List ℕ)) → words_of text ≡ words → with_words d n words ≡ Some m → Means d n text m
    by e [] is h = nothing (rw (e, is) refl) (sym (same_Some d m h))
    by e (key ∷ words) is h = by_events e key words is (events_of key words) refl h

-- ---- the lines after the head

-- what a plan has of a head
pub record IsOf (d : Draft) (plan : Plan) : Type 0 where
  pub starts : d.starts ≡ Some plan.starts
  pub clients : plan.clients ≡ unwrap_or d.clients 1
  pub south : plan.south ≡ unwrap_or d.south false
  pub limits : plan.limits ≡ limits_of d.limits

abbrev IsShort : List ℕ → Type 0
IsShort raw = length raw ≤ 8192

abbrev texts_of : List (List ℕ) → List (List ℕ)
texts_of raws = map strip_carriage_return raws

abbrev ok : Plan → Result Plan ℕ
ok p = Ok p

same_ok : (p q : Plan) → ok p ≡ ok q → p ≡ q
same_ok p q h = cc

-- the reading of lines that are all taken
taken : (d : Draft) (n : ℕ) (text : List ℕ) (texts : List (List ℕ)) (plan : Plan) → draft_of d n (text ∷ texts) ≡ Ok plan → (m : Draft) × (with_line d n text ≡ Some m) × (draft_of m (n + 1) texts ≡ Ok plan)
unfolding draft_of
taken d n text texts plan h = go (with_line d n text) refl h
  where
    go : (o : Option Draft) → with_line d n text ≡ o → and_then (or_line n o) (λ more. draft_of more (n + 1) texts) ≡ Ok plan → (m : Draft) × (with_line d n text ≡ Some m) × (draft_of m (n + 1) texts ≡ Ok plan)
    go None is h = absurd cc
    go (Some m) is h = (m, is, h)

-- the reading of no more lines
ended : (d : Draft) (n : ℕ) (plan : Plan) → draft_of d n [] ≡ Ok plan → IsOf d plan × (plan.events ≡ d.events)
unfolding draft_of
ended d n plan h = go d.starts refl h
  where
    go : (o : Option (List ℕ)) → d.starts ≡ o → or_line n (option_map (plan_from d) o) ≡ Ok plan → IsOf d plan × (plan.events ≡ d.events)
    go None is h = absurd cc
    go (Some starts) is h =
        let same = same_ok (plan_from d starts) plan h in
        subst (λ (p : Plan). IsOf d p × (p.events ≡ d.events)) same (record { starts = is; clients = refl; south = refl; limits = refl }, refl)

has_events : (es : List Event) (n : ℕ) (e : Event) → 1 ≤ n → no_events (es ++ replicate n e) ≡ false
has_events (x ∷ es) n e h = refl
has_events [] zero e h = absurd (omega (arith, h))
has_events [] (suc n) e h = refl

abbrev plays : List Event → List Act
plays es = map (play None) es

plays_append : (xs ys : List Event) → plays (xs ++ ys) ≡ plays xs ++ plays ys
plays_append [] ys = refl
plays_append (x ∷ xs) ys = ap (λ l. play None x ∷ l) (plays_append xs ys)

plays_times : (n : ℕ) (e : Event) → replicate n (play None e) ≡ plays (replicate n e)
plays_times zero e = refl
plays_times (suc n) e = ap (λ l. play None e ∷ l) (plays_times n e)

-- the line of a script, by its number, its bytes and what it asks
abbrev script_line : ℕ → List ℕ → Asked → Line
script_line n raw asked = record { number = n; mark = None; told = strip_carriage_return raw; asked = asked }

line_is : (d : Draft) (n : ℕ) (raw : List ℕ) (m : Draft) (asked : Asked) → length raw ≤ 8192 → with_line d n (strip_carriage_return raw) ≡ Some m → asked_in (strip_carriage_return raw) ≡ asked
    → line_in n raw ≡ script_line n raw asked
line_is d n raw m asked short line is = plain_line n raw short (unmarked d n (strip_carriage_return raw) m line) ∙ ap (script_line n raw) is

-- without marks
abbrev pub unmarked_settings : Option ℕ → Settings
unmarked_settings roll = record { marks = false; roll = roll; roomy = false; manner = manner.Plain }

-- of a line that is short all is heard
whole_lines : (most : ℕ) (raws : List (List ℕ)) → AllByRecursion (λ raw. length raw ≤ most) raws → map (take most) raws ≡ raws
whole_lines most [] short = refl
whole_lines most (raw ∷ raws) short = rw (take_all most raw short.0, whole_lines most raws short.1) refl

shorter : (raws : List (List ℕ)) → AllByRecursion IsShort raws → AllByRecursion (λ raw. length raw ≤ 8193) raws
shorter [] short = tt
shorter (raw ∷ raws) short = (omega (arith, short.0), shorter raws short.1)

-- where posts to no cell are refused, a line asks what it asks
module _ (cells : List Bool) (none : (c : ℕ) → has cells c ≡ false) where
  same_order : (more : Repeat) (client : ℕ) (order : Order) → order_let_in cells more client order ≡ Events more
  same_order more client (Go robot cell) = rw (none cell) refl
  same_order more client Close = refl
  same_order more client (Withdraw number) = refl

  same_event : (more : Repeat) (event : Event) → event_let_in cells more event ≡ Events more
  same_event more (Post client order) = same_order more client order
  same_event more (Take client) = refl
  same_event more Tick = refl
  same_event more (Give client) = refl
  same_event more (Collect client) = refl
  same_event more (Shut robot) = refl

  same_asked : (asked : Asked) → let_in cells asked ≡ asked
  same_asked (Events more) = same_event more more.event
  same_asked Nothing = refl
  same_asked TheChapter = refl
  same_asked Look = refl
  same_asked (Open client) = refl
  same_asked Quit = refl
  same_asked Other = refl
  same_asked Long = refl
  same_asked (NoRoom client) = refl

  same_line : (n : ℕ) (raw : List ℕ) → line_let_in cells n raw ≡ line_in n raw
  same_line n raw = ap (λ (asked : Asked). record (line_in n raw) { asked = asked }) (same_asked (line_in n raw).asked)

module _ (roll : Option ℕ) (cells : List Bool) (none : (c : ℕ) → has cells c ≡ false) where
  abbrev settings : Settings
  settings = unmarked_settings roll

  abbrev acts_at : List Act → Line → List Act
  acts_at rest l = cond (is_quit l.asked) [] (acts_on settings l ++ rest)

  -- what is done at a line of a script
  acts_are : (n : ℕ) (raw : List ℕ) (raws : List (List ℕ)) (asked : Asked) → line_in n raw ≡ script_line n raw asked → is_quit asked ≡ false
      → acts_from settings cells n (raw ∷ raws) ≡ acts_asked (script_line n raw asked) asked ++ acts_from settings cells (n + 1) raws
  acts_are n raw raws asked is goes =
      let rest = acts_from settings cells (n + 1) raws in
      ap (acts_at rest) (same_line cells none n raw ∙ is) ∙ rw goes (ap (λ l. l ++ rest) (append-nil (acts_asked (script_line n raw asked) asked)))

  record Body (d : Draft) (n : ℕ) (raws : List (List ℕ)) (plan : Plan) : Type 0 where
    more : List Event
    all : plan.events ≡ d.events ++ more
    acts : acts_from settings cells n raws ≡ plays more
    of : IsOf d plan

  -- what is done at event lines, after one that happens so often
  body_events : (d : Draft) (n : ℕ) (raw : List ℕ) (raws : List (List ℕ)) (plan : Plan) (r : Repeated) → line_in n raw ≡ script_line n raw (Events (record { event = r.event; times = r.times }))
      → Body (with_events d n r) (n + 1) raws plan → Body d n (raw ∷ raws) plan
  body_events d n raw raws plan r line b = record {
    more = replicate r.times r.event ++ b.more;
    all = b.all ∙ append_assoc d.events (replicate r.times r.event) b.more;
    acts = acts_are n raw raws (Events (record { event = r.event; times = r.times })) line refl
        ∙ (ap (λ l. l ++ acts_from settings cells (n + 1) raws) (plays_times r.times r.event) ∙ (ap (λ l. plays (replicate r.times r.event) ++ l) b.acts ∙ sym (plays_append (replicate r.times r.event) b.more)));
    of = record { starts = b.of.starts; clients = b.of.clients; south = b.of.south; limits = b.of.limits };
  }

  body_one : (d : Draft) (n : ℕ) (raw : List ℕ) (raws : List (List ℕ)) (plan : Plan) (m : Draft) → length raw ≤ 8192 → no_events d.events ≡ false → with_line d n (strip_carriage_return raw) ≡ Some m
      → (no_events m.events ≡ false → Body m (n + 1) raws plan) → Means d n (strip_carriage_return raw) m → Body d n (raw ∷ raws) plan
  body_one d n raw raws plan m short begun line more (nothing asked same) =
      let b = subst (λ (x : Draft). Body x (n + 1) raws plan) same (more (ap (λ (x : Draft). no_events x.events) same ∙ begun)) in
      record { more = b.more; all = b.all; acts = acts_are n raw raws Nothing (line_is d n raw m Nothing short line asked) refl ∙ b.acts; of = b.of }
  body_one d n raw raws plan m short begun line more (events r asked some same) =
      let busy = ap (λ (x : Draft). no_events x.events) same ∙ has_events d.events r.times r.event some in
      body_events d n raw raws plan r (line_is d n raw m _ short line asked) (subst (λ (x : Draft). Body x (n + 1) raws plan) same (more busy))
  body_one d n raw raws plan m short begun line more (header key words asked fresh are with kept) = absurd (true≢false (sym fresh ∙ begun))

  body : (d : Draft) (n : ℕ) (raws : List (List ℕ)) (plan : Plan) → AllByRecursion IsShort raws → no_events d.events ≡ false → draft_of d n (texts_of raws) ≡ Ok plan → Body d n raws plan
  body d n [] plan short begun h =
      let (of, all) = ended d n plan h in
      record { more = []; all = all ∙ sym (append-nil d.events); acts = refl; of = of }
  body d n (raw ∷ raws) plan short begun h =
      let (m, line, rest) = taken d n (strip_carriage_return raw) (texts_of raws) plan h in
      body_one d n raw raws plan m short.0 begun line (λ busy. body m (n + 1) raws plan short.1 busy rest) (means d n (strip_carriage_return raw) m line)

  -- ---- the head

  abbrev head_at : Draft → ℕ → List ℕ → List (List ℕ) → Line → Head
  head_at d n raw raws l =
      cond (is_quit l.asked) no_head
      (unless_opened (opens d l.asked) (λ starts. record { starts = starts; head = d; number = n; lines = raw ∷ raws })
      (with_said (header_texts settings l (is_some (with_head_line d l l.asked))) (head_of settings (unwrap_or (with_head_line d l l.asked) d) (n + 1) raws)))

  head_is : (d : Draft) (n : ℕ) (raw : List ℕ) (raws : List (List ℕ)) (asked : Asked) → line_in n raw ≡ script_line n raw asked → head_of settings d n (raw ∷ raws) ≡ head_at d n raw raws (script_line n raw asked)
  head_is d n raw raws asked is = ap (head_at d n raw raws) is

  -- nothing is said to the head of a script, and its first event line opens the fleet
  pub data Heads (d : Draft) (n : ℕ) (raws : List (List ℕ)) (plan : Plan) : Type 0 where
    unopened : head_of settings d n raws ≡ no_head → plan.events ≡ [] → Heads d n raws plan
    opened : (o : Opening) → head_of settings d n raws ≡ record { said = []; opening = Some o } → o.starts ≡ plan.starts → IsOf o.head plan → acts_from settings cells o.number o.lines ≡ plays plan.events → Heads d n raws plan

  -- a line to which nothing is said
  heads_more : (d : Draft) (n : ℕ) (raw : List ℕ) (raws : List (List ℕ)) (plan : Plan) (m : Draft) → head_of settings d n (raw ∷ raws) ≡ head_of settings m (n + 1) raws → Heads m (n + 1) raws plan → Heads d n (raw ∷ raws) plan
  heads_more d n raw raws plan m same (unopened is none) = unopened (same ∙ is) none
  heads_more d n raw raws plan m same (opened o is starts of acts) = opened o (same ∙ is) starts of acts

  heads_one : (d : Draft) (n : ℕ) (raw : List ℕ) (raws : List (List ℕ)) (plan : Plan) (m : Draft) → AllByRecursion IsShort (raw ∷ raws) → d.events ≡ [] → with_line d n (strip_carriage_return raw) ≡ Some m
      → draft_of m (n + 1) (texts_of raws) ≡ Ok plan → (m.events ≡ [] → Heads m (n + 1) raws plan) → Means d n (strip_carriage_return raw) m → Heads d n (raw ∷ raws) plan
  heads_one d n raw raws plan m short fresh line rest more (nothing asked same) =
      let is = head_is d n raw raws Nothing (line_is d n raw m Nothing short.0 line asked) in
      heads_more d n raw raws plan d is (subst (λ (x : Draft). Heads x (n + 1) raws plan) same (more (ap (λ (x : Draft). x.events) same ∙ fresh)))
  heads_one d n raw raws plan m short fresh line rest more (header key words asked none are with kept) =
      let is = head_is d n raw raws Other (line_is d n raw m Other short.0 line asked) in
      heads_more d n raw raws plan m (is ∙ rw (are, with) refl) (more (kept ∙ fresh))
  heads_one d n raw raws plan m short fresh line rest more (events r asked some same) =
      let asks = Events (record { event = r.event; times = r.times }) in
      let heard = line_is d n raw m asks short.0 line asked in
      let busy = ap (λ (x : Draft). no_events x.events) same ∙ has_events d.events r.times r.event some in
      let after = subst (λ (x : Draft). Body x (n + 1) raws plan) same (body m (n + 1) raws plan short.1 busy rest) in
      let b = body_events d n raw raws plan r heard after in
      let o : Opening = record { starts = plan.starts; head = d; number = n; lines = raw ∷ raws } in
      opened o (head_is d n raw raws asks heard ∙ rw b.of.starts refl) refl b.of (b.acts ∙ ap plays (sym (b.all ∙ ap (λ l. l ++ b.more) fresh)))

  pub heads : (d : Draft) (n : ℕ) (raws : List (List ℕ)) (plan : Plan) → AllByRecursion IsShort raws → d.events ≡ [] → draft_of d n (texts_of raws) ≡ Ok plan → Heads d n raws plan
  heads d n [] plan short fresh h =
      let (of, all) = ended d n plan h in
      unopened refl (all ∙ fresh)
  heads d n (raw ∷ raws) plan short fresh h =
      let (m, line, rest) = taken d n (strip_carriage_return raw) (texts_of raws) plan h in
      heads_one d n raw raws plan m short fresh line rest (λ none. heads m (n + 1) raws plan short.1 none rest) (means d n (strip_carriage_return raw) m line)

  pub heard_script : (bytes : List ℕ) (plan : Plan) → AreShort bytes → script_of bytes ≡ Ok plan → Heads blank_draft 1 (heard_lines bytes) plan
  heard_script bytes plan short h =
      subst (λ (l : List (List ℕ)). Heads blank_draft 1 l plan) (sym (whole_lines 8193 (parts_of bytes) (shorter (parts_of bytes) short))) (heads blank_draft 1 (parts_of bytes) plan short refl h)
