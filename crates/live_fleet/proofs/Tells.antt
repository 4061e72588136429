-- Notices that are told.
use Rattle.std.proofs.Common.{◌≡◌, ◌∙◌, ℕ, ◌+◌, ◌≤◌, ◌<◌, Bool, true, false, ◌&&◌, ◌||◌, ◌⊎◌, inl, inr, List, [], ◌∷◌, ◌++◌, length, Option, Some, None, IsTrue, ◌↔◌, refl, sym, ap, subst, arith, length-append}
use Rattle.std.specs.Prelude.{slice_index_or, slice_set, codes, decimal}
use Rattle.std.specs.List.{AllByRecursion}
use Rattle.std.specs.declared.alloc.Global.{Global}
use Rattle.std.proofs.lemmas.Bool.{cases_lt}
use Rattle.std.proofs.lemmas.List.{get_or-set_same}
use Rattle.fleet_book.specs.declared.event.Event.{Event}
use Rattle.fleet_book.specs.declared.event.Event.TheVariants.{Give, Collect}
use Rattle.fleet_book.specs.declared.notice.Notice.{Notice}
use Rattle.fleet_history.specs.History.{clients}
use Rattle.fleet_text.specs.Output.{is_limit_met, notice_line, notice_text}
use Rattle.fleet_world.specs.declared.reply.Reply.{Reply}
use Rattle.fleet_world.specs.declared.reply.Reply.TheVariants.{Collected, Gave, NoClient, NothingPending, NothingThere, OutletFull}
use Rattle.fleet_world.specs.Talk.{Talk, TalkStep, Waiting, mailbox, none_waiting, waiting, with_notice}
use Rattle.live_parts.specs.Recalls.{Recalls, noted}
use Rattle.live_fleet.specs.Act.{Act, did, told}
use Rattle.live_fleet.specs.Out.{Out, Fits, IsFull, text_at, told_to}
use Rattle.live_fleet.specs.Telling.{AllTold, FindsNothing, HasNoNotice, IsTelling, TellsClients, TellsNext, TellsOne, TellsWhere, collected_in}
use Rattle.live_fleet.specs.declared.speaker.Clients.{Clients}
use Rattle.live_fleet.specs.declared.telling.Told.TheVariants as came
use Rattle.live_fleet.specs.Went.{At, Went}
use Rattle.live_fleet.proofs.Going.{went-did, went-none, went-then, went-told}
use Rattle.live_fleet.proofs.Parts.{all-then, nothing-in}
use Rattle.live_fleet.proofs.Steps.{at-same}

-- ---- replies

give_met : (s t : Talk Global) (c : ℕ) (reply : Reply) → TalkStep s (Give c) reply t → is_limit_met reply ≡ false
give_met s t c NoClient st = refl
give_met s t c NothingPending st = refl
give_met s t c OutletFull st = refl
give_met s t c (Gave seq) st = refl
give_met s t c _ st = absurd st

is_none : {P : Type 0} {X : Type 0} (x : X) → Some x ≡ None → P
is_none x bad = cc

-- what a collect came to that gave nothing
record Empty (m : Talk Global) (c : ℕ) (reply : Reply) (t : Talk Global) : Type 0 where
  pub same : t ≡ m
  pub met : is_limit_met reply ≡ false
  pub quiet : IsTelling 0 c (did (Collect c) reply)
  pub why : (clients m.world.history ≤ c) ⊎ ((waiting m c).outlet ≡ [])

empty : (m t : Talk Global) (c : ℕ) (reply : Reply) → TalkStep m (Collect c) reply t → collected_in reply ≡ None → Empty m c reply t
empty m t c NoClient st none = record { same = st.1; met = refl; quiet = refl; why = inl st.0 }
empty m t c NothingThere st none = record { same = st.2; met = refl; quiet = refl; why = inr st.1 }
empty m t c (Collected notice) st none = is_none notice none
empty m t c _ st none = absurd st

quiet_to : (to c : ℕ) (m t : Talk Global) (reply : Reply) → TalkStep m (Collect c) reply t → collected_in reply ≡ None → IsTelling to c (did (Collect c) reply)
quiet_to to c m t NoClient st none = refl
quiet_to to c m t NothingThere st none = refl
quiet_to to c m t (Collected notice) st none = is_none notice none
quiet_to to c m t _ st none = absurd st

-- an outlet to which a notice was given is not empty
given_some : (cs : List Waiting) (c : ℕ) (w : Waiting) (n : Notice) → c < length cs → (slice_index_or (slice_set cs c (with_notice w n)) c none_waiting).outlet ≡ [] → ⊥
given_some cs c w n inside none =
    let same = get_or-set_same cs c (with_notice w n) none_waiting inside in
    let bad : w.outlet ++ n ∷ [] ≡ [] = sym (ap (λ (x : Waiting). x.outlet) same) ∙ none in
    let sum : length w.outlet + 1 ≡ 0 = sym (length-append w.outlet (n ∷ [])) ∙ ap length bad in
    omega (arith, sum)

-- after a give, an empty outlet means that there is nothing
nothing : (s m : Talk Global) (c : ℕ) (reply : Reply) → length s.clients ≡ clients s.world.history → TalkStep s (Give c) reply m → (waiting m c).outlet ≡ [] → (clients m.world.history ≤ c) ⊎ FindsNothing m c
nothing s m c NoClient count st none = inl (subst (λ (x : Talk Global). clients x.world.history ≤ c) (sym st.1) st.0)
nothing s m c NothingPending count st none = inr (none, inl (subst (λ (x : Talk Global). mailbox x c ≡ []) (sym st.2) st.1))
nothing s m c OutletFull count st none =
    let empty_before : (waiting s c).outlet ≡ [] = subst (λ (x : Talk Global). (waiting x c).outlet ≡ []) st.3 none in
    let size : length (waiting s c).outlet ≡ 0 = ap length empty_before in
    let least = st.2 in
    inr (none, inr (subst (λ (x : Talk Global). x.world.limits.outlet ≡ 0) (sym st.3) (omega (arith, size, least))))
nothing s m c (Gave seq) count (inside, room, notice, first, number, same) none =
    let here : c < length s.clients = omega (arith, inside, count) in
    absurd (given_some s.clients c (waiting s c) notice here (subst (λ (x : Talk Global). (waiting x c).outlet ≡ []) same none))
nothing s m c _ count st none = absurd st

-- ---- the next notice

pub tells-full : (to client : ℕ) (a : At) → IsFull (text_at a.out to) → (acts : List Act) × TellsNext to client came.Full a acts a
tells-full to client a full = ([], record { went = went-none a; only = tt; comes = full })

pub tells-none : (to client : ℕ) (a : At) → HasNoNotice a.fleet.talk client → (acts : List Act) × TellsNext to client came.All a acts a
tells-none to client a none = ([], record { went = went-none a; only = tt; comes = comes none })
  where
    comes : HasNoNotice a.fleet.talk client → (clients a.fleet.talk.world.history ≤ client) ⊎ FindsNothing a.fleet.talk client
    comes (inl past) = inl past
    comes (inr (outlet, box)) = inr (nothing-in (waiting a.fleet.talk client).outlet outlet, inl (nothing-in (mailbox a.fleet.talk client) box))

pub tells-all : (to client : ℕ) (a m b : At) (given reply : Reply) → length a.fleet.talk.clients ≡ clients a.fleet.talk.world.history → TalkStep a.fleet.talk (Give client) given m.fleet.talk → m.fleet.met ≡ a.fleet.met → m.fleet.recalls ≡ a.fleet.recalls → m.out ≡ a.out
    → TalkStep m.fleet.talk (Collect client) reply b.fleet.talk → b.fleet.met ≡ m.fleet.met → b.fleet.recalls ≡ m.fleet.recalls → b.out ≡ m.out → collected_in reply ≡ None → (acts : List Act) × TellsNext to client came.All a acts b
tells-all to client a m b given reply count give met recalls same collect met2 recalls2 same2 none =
    let e = empty m.fleet.talk b.fleet.talk client reply collect none in
    let first = went-did a m (Give client) given give (met ∙ (or_no a.fleet.met ∙ ap (λ v. a.fleet.met || v) (sym (give_met a.fleet.talk m.fleet.talk client given give)))) recalls same in
    let rest = went-did m b (Collect client) reply collect (met2 ∙ (or_no m.fleet.met ∙ ap (λ v. m.fleet.met || v) (sym e.met))) recalls2 same2 in (
      did (Give client) given ∷ did (Collect client) reply ∷ [],
      record {
        went = went-then a m b (did (Give client) given ∷ []) (did (Collect client) reply ∷ []) first rest;
        only = (refl, (quiet_to to client m.fleet.talk b.fleet.talk reply collect none, tt));
        comes = subst (λ (x : Talk Global). (clients x.world.history ≤ client) ⊎ FindsNothing x client) (sym e.same) (why e.why);
      },
    )
  where
    or_no : (v : Bool) → v ≡ (v || false)
    or_no true = refl
    or_no false = refl

    why : (clients m.fleet.talk.world.history ≤ client) ⊎ ((waiting m.fleet.talk client).outlet ≡ []) → (clients m.fleet.talk.world.history ≤ client) ⊎ FindsNothing m.fleet.talk client
    why (inl none_such) = inl none_such
    why (inr empty_now) = nothing a.fleet.talk m.fleet.talk client given count give empty_now

-- ---- a notice that is told

pub not-full : (waits : List ℕ) (full : Bool) → (IsTrue full ↔ IsFull waits) → full ≡ false → length waits + 256 ≤ 65536
not-full waits full is other = by_cases (cases_lt 65536 (length waits + 256))
  where
    by_cases : (65536 < length waits + 256) ⊎ (length waits + 256 ≤ 65536) → length waits + 256 ≤ 65536
    by_cases (inl more) = absurd (let bad : true ≡ false = sym (is.1 more) ∙ other in cc)
    by_cases (inr few) = few

line_some : (client : ℕ) (notice : Notice) → 1 ≤ length (notice_line client notice)
line_some client notice =
    let sum = length-append (codes "collected " ++ decimal client ++ codes " " ++ notice_text notice) (codes "\n") in
    let one : length (codes "\n") ≡ 1 = refl in
    omega (arith, sum, one)

pub tells-one : (to client : ℕ) (a m n b : At) (given : Reply) (notice : Notice) → to < length a.out.texts → length (text_at a.out to) + 256 ≤ 65536 → length (notice_line client notice) ≤ 256
    → TalkStep a.fleet.talk (Give client) given m.fleet.talk → m.fleet.met ≡ a.fleet.met → m.fleet.recalls ≡ a.fleet.recalls → m.out ≡ a.out → TalkStep m.fleet.talk (Collect client) (Collected notice) b.fleet.talk → b.fleet.met ≡ a.fleet.met
    → b.fleet.recalls ≡ noted client notice a.fleet.recalls
    → b.out.texts ≡ slice_set a.out.texts to (text_at a.out to ++ notice_line client notice) → b.out.chapters ≡ a.out.chapters → (acts : List Act) × TellsNext to client came.One a acts b
tells-one to client a m n b given notice inside room short give met recalls same collect limited kept texts chapters =
    let first = went-did a m (Give client) given give (met ∙ (or_no a.fleet.met ∙ ap (λ v. a.fleet.met || v) (sym (give_met a.fleet.talk m.fleet.talk client given give)))) recalls same in
    let fits : length (text_at a.out to) + length (notice_line client notice) ≤ 65536 = omega (arith, room, short) in
    let rest = went-told m b to client notice (subst (λ (o : Out). to < length o.texts) (sym same) inside) (subst (λ (o : Out). Fits (text_at o to) (length (notice_line client notice))) (sym same) (inl fits)) collect (limited ∙ sym met)
    (kept ∙ ap (λ (r : Recalls). noted client notice r) (sym recalls))
    (subst (λ (o : Out). b.out.texts ≡ slice_set o.texts to (text_at o to ++ notice_line client notice)) (sym same) texts) (subst (λ (o : Out). b.out.chapters ≡ o.chapters) (sym same) chapters) in
    let some = line_some client notice in
    let grown : text_at b.out to ≡ text_at a.out to ++ notice_line client notice = ap (λ (t : List (List ℕ)). slice_index_or t to []) texts ∙ get_or-set_same a.out.texts to (text_at a.out to ++ notice_line client notice) [] inside in
    let sum = ap length grown ∙ length-append (text_at a.out to) (notice_line client notice) in (
      did (Give client) given ∷ told to client notice ∷ [],
      record {
        went = went-then a m b (did (Give client) given ∷ []) (told to client notice ∷ []) first rest;
        only = (refl, ((refl, refl), tt));
        comes = omega (arith, some, sum);
      },
    )
  where
    or_no : (v : Bool) → v ≡ (v || false)
    or_no true = refl
    or_no false = refl

-- ---- one notice after another

pub record Telling (to client count : ℕ) (a : At) (acts : List Act) (b : At) : Type 0 where
  pub went : Went a acts b
  pub only : AllByRecursion (IsTelling to client) acts
  pub many : count ≤ length (text_at b.out to)

pub telling-none : (to client : ℕ) (a : At) → Telling to client 0 a [] a
telling-none to client a = record { went = went-none a; only = tt; many = omega arith }

pub telling-more : (to client count : ℕ) (a m b : At) (acts more : List Act) → Telling to client count a acts m → TellsNext to client came.One m more b → Telling to client (count + 1) a (acts ++ more) b
telling-more to client count a m b acts more so one =
    let many = so.many in
    let grew = one.comes in
    record { went = went-then a m b acts more so.went one.went; only = all-then (IsTelling to client) acts more so.only one.only; many = omega (arith, many, grew) }

pub telling-all : (to client count : ℕ) (a m b : At) (acts more : List Act) → Telling to client count a acts m → TellsNext to client came.All m more b → (all : List Act) × TellsOne to client true a all b
telling-all to client count a m b acts more so last =
    (acts ++ more, record { went = went-then a m b acts more so.went last.went; only = all-then (IsTelling to client) acts more so.only last.only; whole = last.comes })

pub telling-full : (to client count : ℕ) (a m b : At) (acts more : List Act) → Telling to client count a acts m → TellsNext to client came.Full m more b → (all : List Act) × TellsOne to client false a all b
telling-full to client count a m b acts more so last =
    (acts ++ more, record { went = went-then a m b acts more so.went last.went; only = all-then (IsTelling to client) acts more so.only last.only; whole = last.comes })

pub telling-many : (to client count : ℕ) (a b : At) (acts : List Act) → Telling to client count a acts b → 65537 ≤ count → (all : List Act) × TellsOne to client false a all b
telling-many to client count a b acts so enough = let many = so.many in (acts, record { went = so.went; only = so.only; whole = omega (arith, many, enough) })

pub was-collected : (reply : Reply) (notice : Notice) → collected_in reply ≡ Some notice → reply ≡ Collected notice
was-collected (Collected n) notice is = ap Collected (some_same n notice is)
  where
    some_same : (x y : Notice) → Some x ≡ Some y → x ≡ y
    some_same x y e = cc
was-collected reply notice is = absurd (none_some notice is)
  where
    none_some : (y : Notice) → None ≡ Some y → ⊥
    none_some y e = cc

-- where a conversation may be told notices
pub tells-where : (open_now : Bool) (to : ℕ) (who : Clients) (a b : At) → open_now ≡ true → ((acts : List Act) × TellsClients to who a acts b) → (acts : List Act) × TellsWhere open_now to who a acts b
tells-where true to who a b is (acts, all) = (acts, all)
tells-where false to who a b is all = absurd (let bad : false ≡ true = is in cc)

-- ---- one client after another

stays_full : (to : ℕ) (a b : At) (acts : List Act) → Went a acts b → IsFull (text_at a.out to) → IsFull (text_at b.out to)
stays_full to a b acts went full =
    let sum : length (text_at b.out to) ≡ length (text_at a.out to) + length (told_to to acts) = ap length (went.tells to) ∙ length-append (text_at a.out to) (told_to to acts) in
    omega (arith, full, sum)

-- whether all was told yet, and of the next client
pub both-told : (so one both : Bool) (P : Type 0) → both ≡ (so && one) → both ≡ true → (so ≡ true → one ≡ true → P) → P
both-told true true both P is all then = then refl refl
both-told true false both P is all then = absurd (let bad : true ≡ false = sym all ∙ is in cc)
both-told false one both P is all then = absurd (let bad : true ≡ false = sym all ∙ is in cc)

pub full-now : (to client : ℕ) (so one both : Bool) (a b : At) → both ≡ (so && one) → both ≡ false → (so ≡ false → IsFull (text_at a.out to)) → ((acts : List Act) × TellsOne to client one a acts b) → IsFull (text_at b.out to)
full-now to client false one both a b is some before (acts, tells) = stays_full to a b acts tells.went (before refl)
full-now to client true false both a b is some before (acts, tells) = tells.whole
full-now to client true true both a b is some before (acts, tells) = absurd (let bad : true ≡ false = sym is ∙ some in cc)

pub told-all : (to client : ℕ) (one : Bool) (a b : At) → ((acts : List Act) × TellsOne to client one a acts b) → one ≡ true → (acts : List Act) × TellsOne to client true a acts b
told-all to client one a b tells is = subst (λ (x : Bool). (acts : List Act) × TellsOne to client x a acts b) is tells
