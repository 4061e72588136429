-- The word at a place, one word on.
use Rattle.std.proofs.Common.{◌≡◌, ℕ, zero, suc, ◌-◌, ◌<◌, List, [], ◌∷◌, slice_index_or, refl, ap, ◌∙◌, arith}
use Rattle.fleet_map.specs.Text.{words_of}
use Rattle.fleet_plans.proofs.scenario.word_at.Goals as goal

after_one : (ws : List (List ℕ)) (w : List ℕ) (vs : List (List ℕ)) (n : ℕ) → ws ≡ w ∷ vs → 0 < n → slice_index_or vs (n - 1) [] ≡ slice_index_or ws n []
after_one ws w vs zero is some = absurd (omega arith)
after_one ws w vs (suc n) is some = rw is (ap (λ (k : ℕ). slice_index_or vs k []) (omega arith))

none_left : (ws : List (List ℕ)) (n : ℕ) → ws ≡ [] → [] ≡ slice_index_or ws n []
none_left ws n is = rw is refl

pub loop-left-preserved : goal.loop-left-preserved
loop-left-preserved c =
    after_one (words_of c.loop-left.rest.now) c.in-Some.field-0-0.now (words_of c.in-Some.after.now) c.loop-left.left c.in-Some.ensures.cut (omega arith) ∙ c.loop-left.invariant
