-- What a journal has after it was given more.
use Rattle.std.proofs.Common.{◌≡◌, ◌∙◌, ℕ, zero, suc, List, [], ◌∷◌, ◌++◌, refl, ap}
use Rattle.std.specs.declared.alloc.Global.{Global}
use Rattle.fleet_talk.specs.Chapters.{ChapterView, chapter_shown}
use Rattle.live_parts.specs.declared.given.Given.{Given}
use Rattle.live_parts.specs.Given.{logged_after, logged_by, with_given, without_last}
use Rattle.fleet_talk.specs.Journal.{first_part, with_first}

last_off : {A : Type 0} (xs : List A) (x : A) → without_last (xs ++ x ∷ []) ≡ xs
last_off [] x = refl
last_off (y ∷ []) x = refl
last_off (y ∷ z ∷ xs) x = ap (λ l. y ∷ l) (last_off (z ∷ xs) x)

with_more : (logged before : List (ChapterView Global)) (c : ChapterView Global) (n : ℕ) → logged ≡ with_first before c n → with_given logged c n ≡ before ++ c ∷ []
with_more logged before c zero is = ap (λ l. l ++ c ∷ []) is
with_more logged before c (suc n) is = ap (λ l. without_last l ++ c ∷ []) is ∙ ap (λ l. l ++ c ∷ []) (last_off before (first_part c (suc n)))

after_more : (logged : List (ChapterView Global)) (gs : List Given) (g : Given) → logged_after logged (gs ++ g ∷ []) ≡ with_given (logged_after logged gs) (chapter_shown g.chapter.value) g.from.value
after_more logged [] g = refl
after_more logged (x ∷ gs) g = after_more (with_given logged (chapter_shown x.chapter.value) x.from.value) gs g

-- one more time
pub given-more : (old new : List Given) (g : Given) (before : List (ChapterView Global)) (c : ChapterView Global) (n : ℕ) → new ≡ old ++ g ∷ [] → chapter_shown g.chapter.value ≡ c → g.from.value ≡ n → logged_by old ≡ with_first before c n
    → logged_by new ≡ before ++ c ∷ []
given-more old new g before c n more same from is =
    ap logged_by more ∙ (after_more [] old g ∙ (ap (λ x. with_given (logged_by old) x g.from.value) same ∙ (ap (λ k. with_given (logged_by old) c k) from ∙ with_more (logged_by old) before c n is)))
