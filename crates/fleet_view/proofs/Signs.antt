-- Placements and their page, one piece after the other.
use Rattle.std.proofs.Common.{◌≡◌, ◌≤◌, ℕ, ◌+◌, List, ◌++◌, length, take, slice_index, append_assoc, refl, sym}
use Rattle.std.proofs.lemmas.List.{take_all}
use Rattle.std.proofs.Math.Numerals.{add-one}
use Rattle.fleet_map.specs.Grammar.{Map}
use Rattle.fleet_view.specs.Page.{rows_text}
use Rattle.fleet_plans.specs.Valid.{place_at}
use Rattle.fleet_view.specs.Placed.{step_signs, steps_below, line_text, before, lines_below}
use Rattle.fleet_view.specs.Runs.{runs_page}
use Rattle.fleet_view.specs.declared.frame.TheConstants.{HEAD, VERDICTS, TRACES}
use Rattle.fleet_view.specs.declared.script.TheConstants.{TAIL}
use Rattle.fleet_view.specs.declared.ending.TheConstants.{END}

-- one more robot's step
pub next-step : (width : ℕ) (from to : List ℕ) (k f : ℕ) (old out grown : List ℕ) → out ≡ old ++ steps_below width from to k → f ≡ slice_index from k → grown ≡ out ++ step_signs width f (slice_index to k)
    → grown ≡ old ++ steps_below width from to (k + 1)
next-step width from to k f old out grown out-is f-is grown-is = rw (grown-is, f-is, out-is, add-one k) (append_assoc old (steps_below width from to k) (step_signs width (slice_index from k) (slice_index to k)))

-- `take` with a number that is not below the length gives the whole list
pub all-taken : {X : Type 0} (n : ℕ) (xs : List X) → length xs ≤ n → xs ≡ take n xs
all-taken n xs few = sym (take_all n xs few)

-- the pieces of a page of runs
pub runs-is : (m : Map) (runs head a b cells c before d middle e f tail g end : List ℕ) → a ≡ head → head ≡ HEAD.now → b ≡ a ++ rows_text m.height m.width cells → cells ≡ m.cells
    → c ≡ b ++ before → before ≡ VERDICTS.now → d ≡ c ++ middle → middle ≡ TRACES.now → e ≡ d ++ runs → f ≡ e ++ tail → tail ≡ TAIL.now → g ≡ f ++ end → end ≡ END.now → g ≡ runs_page m runs
runs-is m runs head a b cells c before d middle e f tail g end a-is head-is b-is cells-is c-is before-is d-is middle-is e-is f-is tail-is g-is end-is =
    rw (g-is, end-is, f-is, tail-is, e-is, d-is, middle-is, c-is, before-is, b-is, cells-is, a-is, head-is) refl

-- one more placement's line
pub next-line : (width : ℕ) (places : List (List ℕ)) (k : ℕ) (prev place old out grown : List ℕ) → out ≡ old ++ lines_below width places k → prev ≡ before places k → place ≡ place_at places k → grown ≡ out ++ line_text width prev place
    → grown ≡ old ++ lines_below width places (k + 1)
next-line width places k prev place old out grown out-is prev-is place-is grown-is = rw (grown-is, prev-is, place-is, out-is, add-one k) (append_assoc old (lines_below width places k) (line_text width (before places k) (place_at places k)))
