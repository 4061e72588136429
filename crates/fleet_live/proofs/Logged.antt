-- What a journal has, chapter by chapter.
use Rattle.std.proofs.Common.{◌≡◌, ◌∙◌, ℕ, ◌+◌, ◌≤◌, ◌<◌, ◌==◌, Bool, true, false, Result, List, [], ◌∷◌, ◌++◌, Option, Some, None, length, map, refl, sym, ap, subst, arith, append_assoc, append-nil}
use Rattle.std.specs.Prelude.{OnOk, if◌then◌else◌}
use borrow.Author.Tests.{eq-eqb, ne_eqb}
use Rattle.std.specs.declared.alloc.Global.{Global}
use Rattle.std.proofs.lemmas.Result.{on_ok_weaker}
use Rattle.fleet_history.specs.declared.history.Chapter.{Chapter}
use Rattle.fleet_history.specs.History.{History, history_of}
use Rattle.fleet_core.specs.Core.{World}
use Rattle.fleet_talk.specs.Chapters.{ChapterView, chapter_in, chapter_shown}
use Rattle.fleet_talk.specs.Journal.{with_first}
use Rattle.live_parts.specs.Kept.{AreSound}
use Rattle.fleet_live.specs.Logged.{AreNumbered, HasAll, IsAt, IsReady, LogView, count_at, first_of}

abbrev chapter_of : ℕ → History Global → ChapterView Global
chapter_of n h = record { number = n; history = h }

-- ---- how far it is

pub count-same : (v : LogView) (n : ℕ) → v.number ≡ n → count_at v n ≡ v.entries
count-same v n same = ap (λ (b : Bool). if b then v.entries else 0) (eq-eqb n v.number (sym same))

none_of : (b : Bool) (n : ℕ) → n ≡ 0 → (if b then n else 0) ≡ 0
none_of true n none = none
none_of false n none = refl

pub count-none : (v : LogView) (n : ℕ) → v.entries ≡ 0 → count_at v n ≡ 0
count-none v n none = none_of (n == v.number) v.entries none

count_other : (v : LogView) (n : ℕ) → n ≡ v.number + 1 → count_at v n ≡ 0
count_other v n next = ap (λ (b : Bool). if b then v.entries else 0) (ne_eqb n v.number (λ e. omega (arith, e, next)))

next_in : (logged : Option (List (ChapterView Global))) (number entries : ℕ) (before : List (ChapterView Global)) (c d : ChapterView Global) → d.number ≡ c.number + 1
    → HasAll (record { logged = logged; number = number; entries = entries }) before c true → IsAt (record { logged = logged; number = number; entries = entries }) (before ++ c ∷ []) d
next_in None number entries before c d next has = tt
next_in (Some logged) number entries before c d next (same, count, is) =
    let none : count_at (record { logged = Some logged; number = number; entries = entries }) d.number ≡ 0 = count_other (record { logged = Some logged; number = number; entries = entries }) d.number (next ∙ ap (λ n. n + 1) (sym same)) in (
      subst (λ n. n ≤ length d.history.entries) (sym none) (omega arith),
      is ∙ ap (λ n. with_first (before ++ c ∷ []) d n) (sym none),
    )

-- a journal that has all entries of a chapter has none of the next one
pub has-next : (v : LogView) (before : List (ChapterView Global)) (c d : ChapterView Global) → d.number ≡ c.number + 1 → HasAll v before c true → IsAt v (before ++ c ∷ []) d
has-next v before c d next has = next_in v.logged v.number v.entries before c d next has

at_in : (logged : Option (List (ChapterView Global))) (number entries : ℕ) (before : List (ChapterView Global)) (c : ChapterView Global)
    → HasAll (record { logged = logged; number = number; entries = entries }) before c false → IsAt (record { logged = logged; number = number; entries = entries }) before c
at_in None number entries before c has = tt
at_in (Some logged) number entries before c (same, count, is) =
    let all : count_at (record { logged = Some logged; number = number; entries = entries }) c.number ≡ length c.history.entries = count-same (record { logged = Some logged; number = number; entries = entries }) c.number same ∙ count in (
      omega (arith, all),
      is ∙ ap (λ n. with_first before c n) (sym all),
    )

-- a journal that has all entries of the chapter that goes on is at its end
pub has-at : (v : LogView) (before : List (ChapterView Global)) (c : ChapterView Global) → HasAll v before c false → IsAt v before c
has-at v before c has = at_in v.logged v.number v.entries before c has

-- ---- the chapters that wait

module _ (v w : LogView) (xs : List (ChapterView Global)) (c : ChapterView Global) where
  pub ready-none : (before : List (ChapterView Global)) → xs ≡ [] → IsReady v before xs c → IsAt v before c
  ready-none before none ready = subst (λ (l : List (ChapterView Global)). IsAt v before (first_of l c)) none ready.at

  -- there are none
  pub none-logged : {T E : Type 0} (r : Result T E) → xs ≡ [] → OnOk r ((before : List (ChapterView Global)) → IsAt v before c → HasAll w before c false)
      → OnOk r ((before : List (ChapterView Global)) → IsReady v before xs c → HasAll w (before ++ xs) c false)
  none-logged r none = on_ok_weaker r (λ logged before ready. subst (λ (l : List (ChapterView Global)). HasAll w l c false) (sym (ap (λ (l : List (ChapterView Global)). before ++ l) none ∙ append-nil before)) (logged before (ready-none before none ready)))

  module _ (x : ChapterView Global) (ys : List (ChapterView Global)) (is : xs ≡ x ∷ ys) where
    pub ready-first : (before : List (ChapterView Global)) → IsReady v before xs c → IsAt v before x
    ready-first before ready = subst (λ (l : List (ChapterView Global)). IsAt v before (first_of l c)) is ready.at

    -- the first of them was logged
    pub ready-next : (before : List (ChapterView Global)) → IsReady v before xs c → HasAll w before x true → IsReady w (before ++ x ∷ []) ys c
    ready-next before ready has =
        let numbered : AreNumbered (x ∷ ys) c = subst (λ (l : List (ChapterView Global)). AreNumbered l c) is ready.numbered in
        record { numbered = numbered.1; at = has-next w before x (first_of ys c) numbered.0 has }

-- the first of them was logged, and then the others
pub some-logged : {T E : Type 0} (r : Result T E) (u v w : LogView) (xs : List (ChapterView Global)) (x : ChapterView Global) (ys : List (ChapterView Global)) (c : ChapterView Global) → xs ≡ x ∷ ys
    → ((before : List (ChapterView Global)) → IsAt u before x → HasAll v before x true) → OnOk r ((before : List (ChapterView Global)) → IsReady v before ys c → HasAll w (before ++ ys) c false)
    → OnOk r ((before : List (ChapterView Global)) → IsReady u before xs c → HasAll w (before ++ xs) c false)
some-logged r u v w xs x ys c is first = on_ok_weaker r (λ others before ready.
    let has = others (before ++ x ∷ []) (ready-next u v xs c x ys is before ready (first before (ready-first u v xs c x ys is before ready))) in
    subst (λ (l : List (ChapterView Global)). HasAll w l c false) (append_assoc before (x ∷ []) ys ∙ ap (λ (l : List (ChapterView Global)). before ++ l) (sym is)) has)

pub fewer : {X : Type 0} (n : ℕ) (xs ys : List X) → length xs ≡ n → length ys + 1 ≡ length xs → length ys < n
fewer n xs ys count one = omega (arith, count, one)

pub sound-rest : (xs : List (Chapter Global)) (x : Chapter Global) (ys : List (Chapter Global)) → xs ≡ x ∷ ys → AreSound (map chapter_shown xs) → AreSound (map chapter_shown ys)
sound-rest xs x ys is all = (subst (λ (l : List (Chapter Global)). AreSound (map chapter_shown l)) is all).1

-- ---- the chapter that a world is in

pub shown-in : (c : Chapter Global) (w : World Global) → c.number ≡ w.number → history_of c ≡ w.history → chapter_shown c ≡ chapter_in w
shown-in c w number history = ap (λ (n : ℕ). chapter_of n (history_of c)) number ∙ ap (λ (h : History Global). chapter_of w.number h) history
