-- The first event of runs that a serve does not take.
use Rattle.std.proofs.Common.{◌≡◌, ℕ, zero, suc, ◌+◌, ◌<◌, ◌≤◌, true, false, List, [], ◌∷◌, ◌++◌, length, drop, get_or, Option, Some, refl, sym, ap, subst, ◌∙◌, arith}
use Rattle.std.specs.Prelude.{replicate}
use Rattle.fleet_book.specs.declared.event.Event.{Event}
use Rattle.fleet_script.specs.declared.run.Run.{Run}
use Rattle.fleet_script.specs.Runs.{unrolled, numbered}
use Rattle.fleet_explain.specs.Served.{is_served, first_unserved}

module _ (clients : ℕ) (event : Event) (events : List Event) (line : ℕ) (lines : List ℕ) where
  -- a run that it takes is passed over
  passed : (n : ℕ) → is_served clients event ≡ true → first_unserved clients (replicate n event ++ events) (replicate n line ++ lines) ≡ first_unserved clients events lines
  passed zero is = refl
  passed (suc n) is = rw is (passed n is)

  -- at one that it does not take, this is the line
  stopped : (n : ℕ) → 1 ≤ n → is_served clients event ≡ false → first_unserved clients (replicate n event ++ events) (replicate n line ++ lines) ≡ Some line
  stopped zero some is = absurd (omega (arith, some))
  stopped (suc n) some is = rw is refl

drop_at : (runs : List Run) (k : ℕ) (run : Run) → k < length runs → run ≡ get_or runs k run → drop k runs ≡ run ∷ drop (k + 1) runs
drop_at [] k run less is = absurd (omega (arith, less))
drop_at (r ∷ rs) zero run less is = ap (λ (x : Run). x ∷ rs) (sym is)
drop_at (r ∷ rs) (suc k) run less is =
    let more = drop_at rs k run (omega (arith, less)) is in
    let same : suc (k + 1) ≡ suc k + 1 = omega arith in
    subst (λ (n : ℕ). drop k rs ≡ run ∷ drop n (r ∷ rs)) same more

-- of these runs, from this one on
abbrev pub from : ℕ → List Run → ℕ → Option ℕ
from clients runs k = first_unserved clients (unrolled (drop k runs)) (numbered (drop k runs))

module _ (clients : ℕ) (runs : List Run) (k : ℕ) (run : Run) (less : k < length runs) (is : run ≡ get_or runs k run) where
  parts : from clients runs k ≡ first_unserved clients (replicate run.times run.event ++ unrolled (drop (k + 1) runs)) (replicate run.times run.line ++ numbered (drop (k + 1) runs))
  parts = ap (λ (rs : List Run). first_unserved clients (unrolled rs) (numbered rs)) (drop_at runs k run less is)

  pub passed_at : is_served clients run.event ≡ true → from clients runs (k + 1) ≡ from clients runs k
  passed_at served = sym (parts ∙ passed clients run.event (unrolled (drop (k + 1) runs)) run.line (numbered (drop (k + 1) runs)) run.times served)

  pub stopped_at : is_served clients run.event ≡ false → from clients runs k ≡ Some run.line
  stopped_at served = parts ∙ stopped clients run.event (unrolled (drop (k + 1) runs)) run.line (numbered (drop (k + 1) runs)) run.times run.some served
