-- The chapters that are handed on are sound.
use Rattle.std.proofs.Common.{◌≡◌, ℕ, List, [], ◌∷◌, ◌++◌, map, subst, sym}
use Rattle.std.specs.List.{AllByRecursion}
use Rattle.std.specs.declared.alloc.Global.{Global}
use Rattle.fleet_history.specs.declared.history.Chapter.{Chapter}
use Rattle.fleet_talk.specs.Chapters.{ChapterView, chapter_shown}
use Rattle.fleet_world.specs.Talk.{Talk}
use Rattle.live_parts.specs.Kept.{AreSound, IsKeepable}
use Rattle.live_fleet.specs.Act.{Act, Runs, did, full, grew, handed, said, told}
use Rattle.live_fleet.specs.Out.{chapters_of}
use Rattle.live_fleet.specs.Party.{Heard, Stage}
use Rattle.fleet_live.specs.Loop.{Keeps}

all_then : {X : Type 0} (P : X → Type 0) (xs ys : List X) → AllByRecursion P xs → AllByRecursion P ys → AllByRecursion P (xs ++ ys)
all_then P [] ys first more = more
all_then P (x ∷ xs) ys first more = (first.0, all_then P xs ys first.1 more)

all_after : {X : Type 0} (P : X → Type 0) (xs ys : List X) → AllByRecursion P (xs ++ ys) → AllByRecursion P ys
all_after P [] ys all = all
all_after P (x ∷ xs) ys all = all_after P xs ys all.1

-- so those are that wait
pub waiting-sound : (kept waits : List (ChapterView Global)) → AreSound (kept ++ waits) → AreSound waits
waiting-sound kept waits all = all_after IsKeepable kept waits all

-- nothing was handed on, and nothing waits
pub none-sound : (xs : List (Chapter Global)) (ys : List (ChapterView Global)) → xs ≡ [] → ys ≡ [] → AreSound (map chapter_shown xs ++ ys)
none-sound xs ys no_chapter none = subst (λ (l : List (Chapter Global)). AreSound (map chapter_shown l ++ ys)) (sym no_chapter) (subst AreSound (sym none) tt)

-- the chapters of a run are
run_sound : (s : Talk Global) (acts : List Act) (t : Talk Global) → Runs s acts t → AreSound (chapters_of acts)
run_sound s [] t runs = tt
run_sound s (did e reply ∷ acts) t (m, act, runs) = run_sound m acts t runs
run_sound s (full e ∷ acts) t (m, act, runs) = run_sound m acts t runs
run_sound s (handed c ∷ acts) t (m, (same, sound, next), runs) = (subst IsKeepable (sym same) (s.world.turns, s.world.floor, sound), run_sound m acts t runs)
run_sound s (told to client notice ∷ acts) t (m, act, runs) = run_sound m acts t runs
run_sound s (said to text ∷ acts) t (m, act, runs) = run_sound m acts t runs
run_sound s (grew client extra ∷ acts) t (m, act, runs) = run_sound m acts t runs

-- and so are all after more events
pub still-sound : (s t : Stage) (heard : List Heard) (a b : ℕ → List ℕ) (i j : ℕ → ℕ) (kept new_kept : List (ChapterView Global)) → Keeps s t heard a b i j kept new_kept → AreSound (kept ++ s.at.out.chapters) → AreSound (new_kept ++ t.at.out.chapters)
still-sound s t heard a b i j kept new_kept keeps sound =
    subst AreSound (sym keeps.hands) (all_then IsKeepable (kept ++ s.at.out.chapters) (chapters_of keeps.acts) sound (run_sound s.at.fleet.talk keeps.acts t.at.fleet.talk keeps.runs))
