-- The rows of a map and the lines of traces, one by one.
use Rattle.std.proofs.Common.{◌≡◌, ◌∙◌, ℕ, suc, ◌+◌, ◌-◌, ◌*◌, ◌<◌, List, ◌++◌, length, take, drop, length-drop, sym, ap, subst, refl, codes, arith, append_assoc}
use Rattle.fleet_trace.specs.Trace.{Trace}
use Rattle.fleet_map.specs.Grammar.{Map}
use Rattle.fleet_view.specs.declared.verdict.ChapterVerdict.{ChapterVerdict}
use Rattle.fleet_view.specs.Verdicts.{verdicts_text}
use Rattle.fleet_view.specs.Page.{rows_text, chapters_text, page_text}
use Rattle.fleet_view.specs.declared.frame.TheConstants.{HEAD, VERDICTS, TRACES}
use Rattle.fleet_view.specs.declared.script.TheConstants.{TAIL}
use Rattle.fleet_view.specs.declared.ending.TheConstants.{END}

module _ (n k width : ℕ) (less : k < n) where
  one-more : n - k ≡ suc (n - (k + 1))
  one-more = omega (arith, less)

  -- one more row is written
  pub next-row : (out rest cut behind grown more whole : List ℕ) → out ++ rows_text (n - k) width rest ≡ whole → cut ≡ take width rest → behind ≡ drop width rest → grown ≡ out ++ cut → more ≡ grown ++ codes "\n"
      → more ++ rows_text (n - (k + 1)) width behind ≡ whole
  next-row out rest cut behind grown more whole before cut-is behind-is grown-is more-is =
      let split : out ++ (take width rest ++ codes "\n" ++ rows_text (n - (k + 1)) width (drop width rest)) ≡ whole = subst (λ (j : ℕ). out ++ rows_text j width rest ≡ whole) one-more before in
      rw (more-is, grown-is, cut-is, behind-is) (append_assoc (out ++ take width rest) (codes "\n") _ ∙ append_assoc out (take width rest) _ ∙ ap (λ t. out ++ t) (sym (append_assoc (take width rest) (codes "\n") _)) ∙ split)

  -- and as many cells are left as the other rows have
  pub cells-left : (rest behind : List ℕ) → length rest ≡ (n - k) * width → behind ≡ drop width rest → length behind ≡ (n - (k + 1)) * width
  cells-left rest behind before behind-is =
      let all : length rest ≡ suc (n - (k + 1)) * width = before ∙ ap (λ (j : ℕ). j * width) one-more in
      ap length behind-is ∙ length-drop width rest ∙ omega (arith, all)

-- the pieces of a page, one written after the other
pub page-is : {A : Type 0} (m : Map) (vs : List ChapterVerdict) (ts : List (Trace A)) (head a b cells c before d e middle f g tail h end : List ℕ) → a ≡ head → head ≡ HEAD.now → b ≡ a ++ rows_text m.height m.width cells → cells ≡ m.cells
    → c ≡ b ++ before → before ≡ VERDICTS.now → d ≡ c ++ verdicts_text vs → e ≡ d ++ middle → middle ≡ TRACES.now → f ≡ e ++ chapters_text ts → g ≡ f ++ tail → tail ≡ TAIL.now → h ≡ g ++ end → end ≡ END.now → h ≡ page_text m vs ts
page-is m vs ts head a b cells c before d e middle f g tail h end a-is head-is b-is cells-is c-is before-is d-is e-is middle-is f-is g-is tail-is h-is end-is =
    rw (h-is, end-is, g-is, tail-is, f-is, e-is, middle-is, d-is, c-is, before-is, b-is, cells-is, a-is, head-is) refl
