-- What a journal has by all that it was given.
use Rattle.std.specs.Prelude.{ℕ, zero, suc, List, [], ◌∷◌, ◌++◌}
use Rattle.std.specs.declared.alloc.Global.{Global}
use Rattle.fleet_talk.specs.Chapters.{ChapterView, chapter_shown}
use Rattle.live_parts.specs.declared.given.Given.{Given}

-- the list without its last item
abbrev pub without_last : {A : Type 0} → List A → List A
without_last [] = []
without_last (x ∷ []) = []
without_last (x ∷ y ∷ ys) = x ∷ without_last (y ∷ ys)

-- a chapter from its first entry on is one more; from a later one on it takes the place of its first part, which was the last
abbrev pub with_given : {A : Type 0} → List (ChapterView A) → ChapterView A → ℕ → List (ChapterView A)
with_given logged c zero = logged ++ c ∷ []
with_given logged c (suc n) = without_last logged ++ c ∷ []

-- what a journal has after all of these too
abbrev pub logged_after : List (ChapterView Global) → List Given → List (ChapterView Global)
logged_after logged [] = logged
logged_after logged (g ∷ gs) = logged_after (with_given logged (chapter_shown g.chapter.value) g.from.value) gs

-- what a journal has that was given these from its beginning on
abbrev pub logged_by : List Given → List (ChapterView Global)
logged_by gs = logged_after [] gs
