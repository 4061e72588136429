-- What holds of a fleet that begins, and after it heard its events.
use Rattle.std.proofs.Common.{◌≡◌, ◌∙◌, ◌≤◌, ◌+◌, ℕ, zero, suc, Bool, false, List, [], ◌∷◌, ◌++◌, Result, Ok, Err, ◌⊎◌, inl, inr, length, drop, replicate, refl, sym, ap, subst, arith}
use Rattle.std.specs.Prelude.{◌||◌, IfSome, OnOk, slice_index_or}
use Rattle.std.specs.declared.alloc.Global.{Global}
use Rattle.fleet_talk.specs.Chapters.{ChapterView}
use Rattle.fleet_world.specs.Talk.{Talk}
use Rattle.live_parts.specs.Recalls.{Recalls}
use Rattle.live_fleet.specs.declared.notes.Note.{Note}
use Rattle.live_fleet.specs.declared.speaker.Speaker.{Speaker}
use Rattle.live_fleet.specs.Act.{met_by}
use Rattle.live_fleet.specs.Out.{Out, chapters_of, text_at, told_to}
use Rattle.live_fleet.specs.Party.{DoorView, Heard, Stage}
use Rattle.live_fleet.specs.Went.{At}
use Rattle.fleet_live.specs.declared.text_out.TextOut.{TextOut}
use Rattle.fleet_live.specs.Begin.{AreNew, IsNew, Serves, first_stage}
use Rattle.fleet_live.specs.Logged.{Begins, Follows, IsBacked, IsReadyAt, IsToldLogged, LogView, Logs, told_so_far}
use Rattle.fleet_live.specs.Loop.{Keeps, told_in_all}
use Rattle.fleet_live.specs.Told.{ahead_at, handed_at}
use Rattle.fleet_live.proofs.Backed.{first-ready}

-- ---- nothing was handed on

pub new-ahead : (xs : List TextOut) (k n : ℕ) → AreNew xs → ahead_at xs k ≤ n
new-ahead [] k n new = omega arith
new-ahead (x ∷ xs) zero n new = omega (arith, new.0.0)
new-ahead (x ∷ xs) (suc k) n new = new-ahead xs k n new.1

new_handed : (xs : List TextOut) (k : ℕ) → AreNew xs → handed_at xs k ≡ []
new_handed [] k new = refl
new_handed (x ∷ xs) zero new = new.0.1
new_handed (x ∷ xs) (suc k) new = new_handed xs k new.1

new_more : (xs : List TextOut) (x : TextOut) → AreNew xs → IsNew x → AreNew (xs ++ x ∷ [])
new_more [] x new one = (one, tt)
new_more (y ∷ xs) x new one = (new.0, new_more xs x new.1 one)

pub if_new_more : {T E : Type 0} (r : Result T E) (xs ys : List TextOut) (x : TextOut) → AreNew xs → IsNew x → OnOk r (ys ≡ xs ++ x ∷ []) → OnOk r (AreNew ys)
if_new_more (Ok v) xs ys x new one more = subst AreNew (sym more) (new_more xs x new one)
if_new_more (Err e) xs ys x new one more = tt

drop_none : (n : ℕ) → drop {A = ℕ} n [] ≡ []
drop_none zero = refl
drop_none (suc n) = refl

-- nothing waits at the beginning
pub blank-at : (n k : ℕ) → slice_index_or (replicate {A = List ℕ} n []) k [] ≡ []
blank-at zero zero = refl
blank-at zero (suc k) = refl
blank-at (suc n) zero = refl
blank-at (suc n) (suc k) = blank-at n k

none_told : (xs : List TextOut) (text : List ℕ) (k : ℕ) → AreNew xs → text ≡ [] → told_in_all (handed_at xs k) (ahead_at xs k) text ≡ []
none_told xs text k new none = ap (λ (l : List ℕ). told_in_all l (ahead_at xs k) text) (new_handed xs k new) ∙ ap (λ (l : List ℕ). drop (ahead_at xs k) l) none ∙ drop_none (ahead_at xs k)

-- ---- the first stage

abbrev pub at : Talk Global → Recalls → Bool → List (List ℕ) → List (ChapterView Global) → At
at s recalls met texts chapters = record { fleet = record { talk = s; met = met; recalls = recalls }; out = record { texts = texts; chapters = chapters } }

abbrev pub stage : At → ℕ → DoorView → List Speaker → List Note → Bool → Bool → Stage
stage a clients door who notes is_over has_ended = record { at = a; clients = clients; door = door; speakers = who; notes = notes; is_over = is_over; has_ended = has_ended }

-- of equal parts
pub same-at : (s t : Talk Global) (recalls : Recalls) (met is_met : Bool) (texts said : List (List ℕ)) (chapters handed : List (ChapterView Global)) → s ≡ t → met ≡ is_met → texts ≡ said → chapters ≡ handed
    → at s recalls met texts chapters ≡ at t recalls is_met said handed
same-at s t recalls met is_met texts said chapters handed talk limited told given =
    ap (λ (x : Talk Global). at x recalls met texts chapters) talk ∙ (ap (λ (x : Bool). at t recalls x texts chapters) limited ∙ (ap (λ (x : List (List ℕ)). at t recalls is_met x chapters) told ∙ ap (λ (x : List (ChapterView Global)). at t recalls is_met said x) given))

pub same-stage : (a b : At) (m n : ℕ) (door entrance : DoorView) (who speakers : List Speaker) (notes news : List Note) (over is_over ended has_ended : Bool) → a ≡ b → m ≡ n → door ≡ entrance → who ≡ speakers → notes ≡ news → over ≡ is_over → ended ≡ has_ended
    → stage a m door who notes over ended ≡ stage b n entrance speakers news is_over has_ended
same-stage a b m n door entrance who speakers notes news over is_over ended has_ended done count shown spoken noted no_turn no_end =
    ap (λ (x : At). stage x m door who notes over ended) done
    ∙ (ap (λ (x : ℕ). stage b x door who notes over ended) count
    ∙ (ap (λ (x : DoorView). stage b n x who notes over ended) shown
    ∙ (ap (λ (x : List Speaker). stage b n entrance x notes over ended) spoken
    ∙ (ap (λ (x : List Note). stage b n entrance speakers x over ended) noted
    ∙ (ap (λ (x : Bool). stage b n entrance speakers news x ended) no_turn ∙ ap (λ (x : Bool). stage b n entrance speakers news is_over x) no_end)))))

-- ---- and the last

served : (s t : Stage) (heard : List Heard) (old new : List TextOut) (e f : List (ChapterView Global)) → s.at.fleet.met ≡ false → ((k : ℕ) → text_at s.at.out k ≡ []) → AreNew old → e ++ s.at.out.chapters ≡ []
    → Keeps s t heard (handed_at old) (handed_at new) (ahead_at old) (ahead_at new) e f → Serves s t heard new f
served s t heard old new e f unmet blank is_new none keeps = record {
  acts = keeps.acts;
  plays = keeps.plays;
  runs = keeps.runs;
  met = keeps.met ∙ ap (λ (b : Bool). b || met_by keeps.acts) unmet;
  tells = λ k. keeps.tells k ∙ ap (λ (l : List ℕ). l ++ told_to k keeps.acts) (none_told old (text_at s.at.out k) k is_new (blank k));
  hands = keeps.hands ∙ ap (λ (l : List (ChapterView Global)). l ++ chapters_of keeps.acts) none;
}

-- what the loop keeps, and what it keeps of the journal
abbrev pub Kept : (s t : Stage) (none taken : List Heard) (old new : List TextOut) (e f : List (ChapterView Global)) (u v : LogView) → Type 0
Kept s t none taken old new e f u v = (heard : List Heard) × (taken ≡ none ++ heard) × Keeps s t heard (handed_at old) (handed_at new) (ahead_at old) (ahead_at new) e f
    × ((before : List (ChapterView Global)) → IsReadyAt u before s → Logs s t heard (handed_at old) (handed_at new) (ahead_at old) e f before u v)

pub if-served : {T E : Type 0} (r : Result T E) (talk : Talk Global) (recalls : Recalls) (door : DoorView) (who : List Speaker) (s t : Stage) (none taken : List Heard) (old new : List TextOut) (e f : List (ChapterView Global)) (u v : LogView)
    → s ≡ first_stage talk recalls door who → AreNew old → none ≡ [] → e ≡ []
    → OnOk r (Kept s t none taken old new e f u v) → OnOk r (Serves (first_stage talk recalls door who) t taken new f)
if-served (Ok x) talk recalls door who s t none taken old new e f u v same is_new no_event no_chapter (heard, took, keeps, logs) =
    let first = first_stage talk recalls door who in
    let is : taken ≡ heard = took ∙ ap (λ (l : List Heard). l ++ heard) no_event in
    subst (λ (l : List Heard). Serves first t l new f) (sym is)
    (served first t heard old new e f refl (λ k. blank-at (length who) k) is_new (ap (λ (l : List (ChapterView Global)). l ++ []) no_chapter)
    (subst (λ (x : Stage). Keeps x t heard (handed_at old) (handed_at new) (ahead_at old) (ahead_at new) e f) same keeps))
if-served (Err x) talk recalls door who s t none taken old new d f u v same is_new no_event no_chapter kept = tt

-- what was told follows from what the journal has
follows_first : (s : Stage) (heard : List Heard) (old new : List TextOut) (before : List (ChapterView Global)) (v : LogView) → ((k : ℕ) → text_at s.at.out k ≡ []) → AreNew old → Follows s heard (told_so_far (handed_at old) (ahead_at old) s) (handed_at new) before v
    → Follows s heard (λ k. []) (handed_at new) before v
follows_first s heard old new before v blank is_new f = record {
  heard = f.heard;
  later = f.later;
  parts = f.parts;
  acts = f.acts;
  mid = f.mid;
  plays = f.plays;
  runs = f.runs;
  tells = λ k. subst (λ (l : List ℕ). Begins (handed_at new k) (l ++ told_to k f.acts)) (none_told old (text_at s.at.out k) k is_new (blank k)) (f.tells k);
  has = f.has;
}

told_logged : (s : Stage) (heard : List Heard) (old new : List TextOut) (before : List (ChapterView Global)) (u v : LogView) → ((k : ℕ) → text_at s.at.out k ≡ []) → AreNew old
    → IsBacked s heard (told_so_far (handed_at old) (ahead_at old) s) (handed_at old) (handed_at new) before u v → IsToldLogged s heard (handed_at new) before v
told_logged s heard old new before u v blank is_new (inl (same, log)) = inl (λ k. same k ∙ new_handed old k is_new)
told_logged s heard old new before u v blank is_new (inr f) = inr (follows_first s heard old new before v blank is_new f)

pub if-logged : {T E : Type 0} (r : Result T E) (talk : Talk Global) (recalls : Recalls) (door : DoorView) (who : List Speaker) (s t : Stage) (none taken : List Heard) (old new : List TextOut) (e f : List (ChapterView Global)) (u v first : LogView)
    → s ≡ first_stage talk recalls door who → AreNew old → none ≡ [] → u ≡ first → first.entries ≡ 0
    → OnOk r (Kept s t none taken old new e f u v) → OnOk r ((before : List (ChapterView Global)) → IfSome first.logged (λ logged. logged ≡ before) → IsToldLogged (first_stage talk recalls door who) taken (handed_at new) before v)
if-logged (Ok x) talk recalls door who s t none taken old new e f u v first same is_new no_event began no_entry (heard, took, keeps, logs) = λ before start.
    let is : taken ≡ heard = took ∙ ap (λ (l : List Heard). l ++ heard) no_event in
    let ready : IsReadyAt u before s = subst (λ (l : LogView). IsReadyAt l before s) (sym began) (first-ready first before s no_entry (ap (λ (x : Stage). x.at.out.chapters) same) start) in
    let logged : IsToldLogged s heard (handed_at new) before v = told_logged s heard old new before u v (λ k. ap (λ (x : Stage). text_at x.at.out k) same ∙ blank-at (length who) k) is_new (logs before ready).backed in
    subst (λ (l : List Heard). IsToldLogged (first_stage talk recalls door who) l (handed_at new) before v) (sym is) (subst (λ (x : Stage). IsToldLogged x heard (handed_at new) before v) same logged)
if-logged (Err x) talk recalls door who s t none taken old new d f u v first same is_new no_event began no_entry kept = tt
