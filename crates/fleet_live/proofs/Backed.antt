-- What conversations were told follows from what the journal has, one step after another.
use Rattle.std.proofs.Common.{◌≡◌, ◌∙◌, ◌⊎◌, inl, inr, ℕ, ◌≤◌, true, false, true≢false, Option, Some, None, List, [], ◌∷◌, ◌++◌, drop, length, Result, Ok, Err, refl, sym, ap, subst, arith, append_assoc, append-nil}
use Rattle.std.specs.Prelude.{IfSome, OnOk}
use Rattle.std.specs.declared.alloc.Global.{Global}
use Rattle.std.proofs.lemmas.Grind.{flat_map-append}
use Rattle.std.proofs.lemmas.List.{append_cancel_left}
use Rattle.fleet_core.specs.Core.{World}
use Rattle.fleet_talk.specs.Chapters.{ChapterView, chapter_in}
use Rattle.live_fleet.specs.Act.{Act}
use Rattle.live_fleet.specs.Does.{Does, takes, then}
use Rattle.live_fleet.specs.Out.{Out, chapters_of, handed_by, text_at, told_by, told_to}
use Rattle.live_fleet.specs.Party.{Heard, Stage, with_out}
use Rattle.live_fleet.specs.Went.{Went}
use Rattle.live_fleet.proofs.Going.{runs-then}
use Rattle.fleet_talk.specs.Journal.{with_first}
use Rattle.fleet_live.specs.declared.ends.Next.{Next}
use Rattle.fleet_live.specs.declared.ends.Next.TheVariants.{Hand}
use Rattle.fleet_live.specs.Loop.{HandsOn, Keeps, next_heard}
use Rattle.fleet_live.specs.declared.text_out.TextOut.{TextOut}
use Rattle.fleet_live.specs.Logged.{Begins, Follows, HandsLogged, HasAll, IsAt, IsBacked, IsReady, IsReadyAt, LogView, Logs, count_at, told_so_far}
use Rattle.fleet_live.specs.Told.{ahead_at, handed_at}
use Rattle.fleet_live.proofs.Growing.{ready-on, runs-on}
use Rattle.fleet_live.proofs.Kept.{keeps-then}
use Rattle.fleet_live.proofs.Logged.{count-none, has-at}

-- nothing more before what it is ready for
still_ready : (v : LogView) (before : List (ChapterView Global)) (t : Stage) → IsReadyAt v before t → IsReadyAt v (before ++ []) t
still_ready v before t ready = subst (λ (l : List (ChapterView Global)). IsReadyAt v l t) (sym (append-nil before)) ready

-- nothing was handed on, and nothing logged
logs_still : (s t : Stage) (events : List Heard) (told : ℕ → List ℕ) (ahead : ℕ → ℕ) (kept before : List (ChapterView Global)) (v : LogView) → IsReadyAt v before t → Logs s t events told told ahead kept kept before v v
logs_still s t events told ahead kept before v ready = record {
  given = [];
  kept_more = sym (append-nil kept);
  ready = still_ready v before t ready;
  backed = inl (λ k. refl, refl);
}

pub logs-none : (s : Stage) (told : ℕ → List ℕ) (ahead : ℕ → ℕ) (kept before : List (ChapterView Global)) (v : LogView) → IsReadyAt v before s → Logs s s [] told told ahead kept kept before v v
logs-none s told ahead kept before v ready = logs_still s s [] told ahead kept before v ready

-- the same stage
pub logs-same : (s t : Stage) (events : List Heard) (told : ℕ → List ℕ) (ahead : ℕ → ℕ) (kept before : List (ChapterView Global)) (v : LogView) → t ≡ s → IsReadyAt v before s → Logs s t events told told ahead kept kept before v v
logs-same s t events told ahead kept before v same ready = logs_still s t events told ahead kept before v (subst (λ (x : Stage). IsReadyAt v before x) (sym same) ready)

-- an event was heard
went_ready : (s t : Stage) (acts : List Act) (before : List (ChapterView Global)) (v : LogView) → Went s.at acts t.at → IsReadyAt v before s → IsReadyAt v before t
went_ready s t acts before v went ready =
    subst (λ (l : List (ChapterView Global)). IsReady v before l (chapter_in t.at.fleet.talk.world)) (sym went.hands)
    (ready-on v before s.at.out.chapters (chapters_of acts) (chapter_in s.at.fleet.talk.world) (chapter_in t.at.fleet.talk.world) (runs-on s.at.fleet.talk acts t.at.fleet.talk went.runs) ready)

pub logs-hear : {T E : Type 0} (r : Result T E) (s t : Stage) (events : List Heard) (cue : Heard) (told : ℕ → List ℕ) (ahead : ℕ → ℕ) (kept : List (ChapterView Global)) (v : LogView) → OnOk r ((acts : List Act) × Does s cue acts t × Went s.at acts t.at)
    → OnOk r ((before : List (ChapterView Global)) → IsReadyAt v before s → Logs s t events told told ahead kept kept before v v)
logs-hear (Ok x) s t events cue told ahead kept v (acts, does, went) = λ before ready. logs_still s t events told ahead kept before v (went_ready s t acts before v went ready)
logs-hear (Err e) s t events cue told ahead kept v does = tt

-- what was said was handed on, after the journal had all that it follows from
hands_logged : (s t : Stage) (told new_told : ℕ → List ℕ) (ahead new_ahead : ℕ → ℕ) (kept new_kept before : List (ChapterView Global)) (v new_v : LogView) → HandsOn told new_told ahead new_ahead kept new_kept s.at.out t.at.out → t ≡ with_out s t.at.out → t.at.out.chapters ≡ []
    → HasAll new_v (before ++ s.at.out.chapters) (chapter_in s.at.fleet.talk.world) false → Logs s t [] told new_told ahead kept new_kept before v new_v
hands_logged s t told new_told ahead new_ahead kept new_kept before v new_v hands same none has =
    let world : t.at.fleet.talk.world ≡ s.at.fleet.talk.world = ap (λ (x : Stage). x.at.fleet.talk.world) same in
    let at_end : IsReady new_v (before ++ s.at.out.chapters) [] (chapter_in s.at.fleet.talk.world) = record { numbered = tt; at = has-at new_v (before ++ s.at.out.chapters) (chapter_in s.at.fleet.talk.world) has } in
    record {
      given = s.at.out.chapters;
      kept_more = sym (append-nil new_kept) ∙ (ap (λ (l : List (ChapterView Global)). new_kept ++ l) (sym none) ∙ hands.chapters);
      ready = subst (λ (l : List (ChapterView Global)). IsReady new_v (before ++ s.at.out.chapters) l (chapter_in t.at.fleet.talk.world)) (sym none)
          (subst (λ (w : World Global). IsReady new_v (before ++ s.at.out.chapters) [] (chapter_in w)) (sym world) at_end);
      backed = inr (record {
        heard = [];
        later = [];
        parts = refl;
        acts = [];
        mid = s;
        plays = takes s s.at.out;
        runs = refl;
        tells = λ k. (drop (new_ahead k) (text_at t.at.out k), hands.texts k ∙ sym (append-nil (told_so_far told ahead s k)));
        has = subst (λ (l : List (ChapterView Global)). HasAll new_v (before ++ l) (chapter_in s.at.fleet.talk.world) false) (sym (append-nil s.at.out.chapters)) has;
      });
    }

or_failed : (X P Q : Type 0) → X ⊎ ((false ≡ true) × P × Q) → X
or_failed X P Q (inl x) = x
or_failed X P Q (inr (never, p, q)) = absurd (true≢false (sym never))

pub logs-hand : {T E : Type 0} (r : Result T E) (s t : Stage) (n : Next) (bytes : List ℕ) (told new_told : ℕ → List ℕ) (ahead new_ahead : ℕ → ℕ) (kept new_kept : List (ChapterView Global)) (v new_v : LogView) → n ≡ Hand → t ≡ with_out s t.at.out
    → OnOk r (HandsOn told new_told ahead new_ahead kept new_kept s.at.out t.at.out) → OnOk r (t.at.out.chapters ≡ [])
    → ((before : List (ChapterView Global)) → IsReadyAt v before s → HandsLogged r told new_told kept new_kept s.at.out.chapters before new_v (chapter_in s.at.fleet.talk.world))
    → OnOk r ((before : List (ChapterView Global)) → IsReadyAt v before s → Logs s t (next_heard n bytes) told new_told ahead kept new_kept before v new_v)
logs-hand (Ok x) s t n bytes told new_told ahead new_ahead kept new_kept v new_v is same hands none logged = λ before ready.
    subst (λ (e : Next). Logs s t (next_heard e bytes) told new_told ahead kept new_kept before v new_v) (sym is) (hands_logged s t told new_told ahead new_ahead kept new_kept before v new_v hands same none (or_failed (HasAll new_v (before ++ s.at.out.chapters) (chapter_in s.at.fleet.talk.world) false) ((k : ℕ) → new_told k ≡ told k) (new_kept ≡ kept) (logged before ready)))
logs-hand (Err e) s t n bytes told new_told ahead new_ahead kept new_kept v new_v is same hands none logged = tt

-- ---- one step, and then another

-- the chapters that were given and those that wait are those of the run
given_parts : (kept new_kept given waits old more : List (ChapterView Global)) → new_kept ≡ kept ++ given → new_kept ++ waits ≡ (kept ++ old) ++ more → given ++ waits ≡ old ++ more
given_parts kept new_kept given waits old more kept_more hands =
    append_cancel_left kept (given ++ waits) (old ++ more) (sym (append_assoc kept given waits) ∙ (ap (λ (l : List (ChapterView Global)). l ++ waits) (sym kept_more) ∙ (hands ∙ append_assoc kept old more)))

all_parts : (before given waits old : List (ChapterView Global)) (xs ys : List Act) → given ++ waits ≡ old ++ chapters_of xs → (before ++ given) ++ (waits ++ chapters_of ys) ≡ before ++ (old ++ chapters_of (xs ++ ys))
all_parts before given waits old xs ys parts =
    append_assoc before given (waits ++ chapters_of ys) ∙ ap (λ (l : List (ChapterView Global)). before ++ l)
    (sym (append_assoc given waits (chapters_of ys)) ∙ (ap (λ (l : List (ChapterView Global)). l ++ chapters_of ys) parts ∙ (append_assoc old (chapters_of xs) (chapters_of ys) ∙ ap (λ (l : List (ChapterView Global)). old ++ l) (sym (flat_map-append handed_by xs ys)))))

-- what was told before follows still
follows_later : (s : Stage) (first more : List Heard) (said told new_told : ℕ → List ℕ) (before : List (ChapterView Global)) (v new_v : LogView) → ((k : ℕ) → new_told k ≡ told k) → new_v ≡ v → Follows s first said told before v → Follows s (first ++ more) said new_told before new_v
follows_later s first more said told new_told before v new_v same same_log f = record {
  heard = f.heard;
  later = f.later ++ more;
  parts = ap (λ (l : List Heard). l ++ more) f.parts ∙ append_assoc f.heard f.later more;
  acts = f.acts;
  mid = f.mid;
  plays = f.plays;
  runs = f.runs;
  tells = λ k. subst (λ (l : List ℕ). Begins l (said k ++ told_to k f.acts)) (sym (same k)) (f.tells k);
  has = subst (λ (x : LogView). HasAll x (before ++ (s.at.out.chapters ++ chapters_of f.acts)) (chapter_in f.mid.at.fleet.talk.world) false) (sym same_log) f.has;
}

-- what was told after other events follows
follows_after : (s m : Stage) (first more : List Heard) (a b c : ℕ → List ℕ) (i j : ℕ → ℕ) (x y given before : List (ChapterView Global)) (w : LogView) → y ≡ x ++ given → Keeps s m first a b i j x y → Follows m more (told_so_far b j m) c (before ++ given) w
    → Follows s (first ++ more) (told_so_far a i s) c before w
follows_after s m first more a b c i j x y given before w kept_more one f =
    let parts = given_parts x y given m.at.out.chapters s.at.out.chapters (chapters_of one.acts) kept_more one.hands in
    record {
      heard = first ++ f.heard;
      later = f.later;
      parts = ap (λ (l : List Heard). first ++ l) f.parts ∙ sym (append_assoc first f.heard f.later);
      acts = one.acts ++ f.acts;
      mid = f.mid;
      plays = then s m f.mid first f.heard one.acts f.acts one.plays f.plays;
      runs = runs-then s.at.fleet.talk m.at.fleet.talk f.mid.at.fleet.talk one.acts f.acts one.runs f.runs;
      tells = λ k. let (rest, is) = f.tells k in (
        rest,
        is ∙ (ap (λ (l : List ℕ). l ++ told_to k f.acts) (one.tells k) ∙ (append_assoc (told_so_far a i s k) (told_to k one.acts) (told_to k f.acts) ∙ ap (λ (l : List ℕ). told_so_far a i s k ++ l) (sym (flat_map-append (told_by k) one.acts f.acts)))),
      );
      has = subst (λ (l : List (ChapterView Global)). HasAll w l (chapter_in f.mid.at.fleet.talk.world) false) (all_parts before given m.at.out.chapters s.at.out.chapters one.acts f.acts parts) f.has;
    }

backed_then : (s m : Stage) (first more : List Heard) (a b c : ℕ → List ℕ) (i j : ℕ → ℕ) (x y given before : List (ChapterView Global)) (u v w : LogView) → y ≡ x ++ given → Keeps s m first a b i j x y → IsBacked s first (told_so_far a i s) a b before u v
    → IsBacked m more (told_so_far b j m) b c (before ++ given) v w → IsBacked s (first ++ more) (told_so_far a i s) a c before u w
backed_then s m first more a b c i j x y given before u v w kept_more one (inl (same, log)) (inl (still, still_log)) = inl (λ k. still k ∙ same k, still_log ∙ log)
backed_then s m first more a b c i j x y given before u v w kept_more one (inr f) (inl (still, still_log)) = inr (follows_later s first more (told_so_far a i s) b c before v w still still_log f)
backed_then s m first more a b c i j x y given before u v w kept_more one (inl none) (inr f) = inr (follows_after s m first more a b c i j x y given before w kept_more one f)
backed_then s m first more a b c i j x y given before u v w kept_more one (inr e) (inr f) = inr (follows_after s m first more a b c i j x y given before w kept_more one f)

pub logs-then : (s m t : Stage) (first more : List Heard) (a b c : ℕ → List ℕ) (i j : ℕ → ℕ) (x y z before : List (ChapterView Global)) (u v w : LogView) → Keeps s m first a b i j x y → (one : Logs s m first a b i x y before u v)
    → Logs m t more b c j y z (before ++ one.given) v w → Logs s t (first ++ more) a c i x z before u w
logs-then s m t first more a b c i j x y z before u v w keeps one two = record {
  given = one.given ++ two.given;
  kept_more = two.kept_more ∙ (ap (λ (l : List (ChapterView Global)). l ++ two.given) one.kept_more ∙ append_assoc x one.given two.given);
  ready = subst (λ (l : List (ChapterView Global)). IsReadyAt w l t) (append_assoc before one.given two.given) two.ready;
  backed = backed_then s m first more a b c i j x y one.given before u v w one.kept_more keeps one.backed two.backed;
}

-- one more step after those before
pub logs-more : (s m t : Stage) (heard : List Heard) (x y z : List Heard) (n o : Next) (bytes line : List ℕ) (a b c : ℕ → List ℕ) (i j k : ℕ → ℕ) (e f h : List (ChapterView Global)) (u v w : LogView) → y ≡ x ++ heard → z ≡ y ++ next_heard n bytes → o ≡ n → line ≡ bytes
    → Keeps s m heard a b i j e f → Keeps m t (next_heard o line) b c j k f h → ((before : List (ChapterView Global)) → IsReadyAt u before s → Logs s m heard a b i e f before u v)
    → ((before : List (ChapterView Global)) → IsReadyAt v before m → Logs m t (next_heard o line) b c j f h before v w)
    → (all : List Heard) × (z ≡ x ++ all) × Keeps s t all a c i k e h × ((before : List (ChapterView Global)) → IsReadyAt u before s → Logs s t all a c i e h before u w)
logs-more s m t heard x y z n o bytes line a b c i j k e f h u v w before took same is one two logs more =
    let event : next_heard o line ≡ next_heard n bytes = ap (λ (d : Next). next_heard d line) same ∙ ap (λ (l : List ℕ). next_heard n l) is in (
      heard ++ next_heard n bytes,
      took ∙ (ap (λ (l : List Heard). l ++ next_heard n bytes) before ∙ append_assoc x heard (next_heard n bytes)),
      keeps-then s m t heard (next_heard n bytes) a b c i j k e f h one (subst (λ (l : List Heard). Keeps m t l b c j k f h) event two),
      λ base ready. let first = logs base ready in
          logs-then s m t heard (next_heard n bytes) a b c i j e f h base u v w one first (subst (λ (l : List Heard). Logs m t l b c j f h (base ++ first.given) v w) event (more (base ++ first.given) first.ready)),
    )

-- ---- the beginning

at_start : (logged : Option (List (ChapterView Global))) (number entries : ℕ) (before : List (ChapterView Global)) (c : ChapterView Global) → entries ≡ 0 → IfSome logged (λ all. all ≡ before) → IsAt (record { logged = logged; number = number; entries = entries }) before c
at_start None number entries before c none is = tt
at_start (Some all) number entries before c none is =
    let v : LogView = record { logged = Some all; number = number; entries = entries } in
    let blank : count_at v c.number ≡ 0 = count-none v c.number none in (
      subst (λ n. n ≤ length c.history.entries) (sym blank) (omega arith),
      is ∙ ap (λ n. with_first before c n) (sym blank),
    )

-- a journal that has nothing of the chapter yet is ready
pub first-ready : (v : LogView) (before : List (ChapterView Global)) (s : Stage) → v.entries ≡ 0 → s.at.out.chapters ≡ [] → IfSome v.logged (λ all. all ≡ before) → IsReadyAt v before s
first-ready v before s none no_chapter is = subst (λ (l : List (ChapterView Global)). IsReady v before l (chapter_in s.at.fleet.talk.world)) (sym no_chapter)
    (record { numbered = tt; at = at_start v.logged v.number v.entries before (chapter_in s.at.fleet.talk.world) none is })

some_before : (logged : Option (List (ChapterView Global))) → (before : List (ChapterView Global)) × IfSome logged (λ all. all ≡ before)
some_before None = ([], tt)
some_before (Some all) = (all, refl)

pub ready-somehow : (v : LogView) (s : Stage) → v.entries ≡ 0 → s.at.out.chapters ≡ [] → (before : List (ChapterView Global)) × IsReadyAt v before s
ready-somehow v s none no_chapter = let (before, is) = some_before v.logged in (before, first-ready v before s none no_chapter is)

-- ---- parts that stay

pub hands-from : {T E : Type 0} (r : Result T E) (xs ys : List TextOut) (new_told : ℕ → List ℕ) (new_ahead : ℕ → ℕ) (kept was_kept new_kept : List (ChapterView Global)) (old new : Out) → xs ≡ ys → kept ≡ was_kept
    → OnOk r (HandsOn (handed_at xs) new_told (ahead_at xs) new_ahead kept new_kept old new) → OnOk r (HandsOn (handed_at ys) new_told (ahead_at ys) new_ahead was_kept new_kept old new)
hands-from r xs ys new_told new_ahead kept was_kept new_kept old new same same_kept hands =
    subst (λ (l : List (ChapterView Global)). OnOk r (HandsOn (handed_at ys) new_told (ahead_at ys) new_ahead l new_kept old new)) same_kept
    (subst (λ (l : List TextOut). OnOk r (HandsOn (handed_at l) new_told (ahead_at l) new_ahead kept new_kept old new)) same hands)
