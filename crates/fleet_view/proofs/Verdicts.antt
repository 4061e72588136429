-- Verdicts on traces, one by one.
use Rattle.std.proofs.Common.{◌≡◌, ◌∙◌, ℕ, ◌+◌, ◌<◌, ◌≤◌, List, [], ◌∷◌, ◌++◌, length, get_or, map, take, ap, subst}
use Rattle.std.proofs.lemmas.List.{take_more, take_all, map-append}
use Rattle.fleet_grid.specs.Floor.{Floor}
use Rattle.fleet_trace.specs.Trace.{Trace}
use Rattle.fleet_view.specs.declared.verdict.ChapterVerdict.{ChapterVerdict}
use Rattle.fleet_view.specs.Verdicts.{AreVerdicts, IsVerdictOn}

judged-more : {A : Type 0} (m : Floor) (ts : List (Trace A)) (vs : List ChapterVerdict) (t : Trace A) (v : ChapterVerdict) → AreVerdicts m ts vs → IsVerdictOn m t.history v → AreVerdicts m (ts ++ t ∷ []) (vs ++ v ∷ [])
judged-more m [] [] t v each is = (is, tt)
judged-more m (x ∷ xs) (y ∷ ys) t v each is = (each.0, judged-more m xs ys t v each.1 is)
judged-more m [] (y ∷ ys) t v each is = absurd each
judged-more m (x ∷ xs) [] t v each is = absurd each

module _ {A : Type 0} (m : Floor) {C : Type 0} (g : C → Trace A) (cs : List C) (k : ℕ) where
  pub next-judged : (c : C) (vs more : List ChapterVerdict) (v : ChapterVerdict) → k < length cs → get_or cs k c ≡ c → AreVerdicts m (map g (take k cs)) vs → more ≡ vs ++ v ∷ [] → IsVerdictOn m (g c).history v
      → AreVerdicts m (map g (take (k + 1) cs)) more
  next-judged c vs more v less is each more-is judged =
      let grown : take (k + 1) cs ≡ take k cs ++ c ∷ [] = take_more cs k c less ∙ ap (λ y. take k cs ++ y ∷ []) is in
      let traces : map g (take (k + 1) cs) ≡ map g (take k cs) ++ g c ∷ [] = ap (map g) grown ∙ map-append g (take k cs) (c ∷ []) in
      rw (traces, more-is) (judged-more m (map g (take k cs)) vs (g c) v each judged)

  pub all-judged : (vs : List ChapterVerdict) → length cs ≤ k → AreVerdicts m (map g (take k cs)) vs → AreVerdicts m (map g cs) vs
  all-judged vs past each = subst (λ (l : List C). AreVerdicts m (map g l) vs) (take_all k cs past) each
