-- What a list makes of one value, item by item.
use Rattle.std.proofs.Common.{◌≡◌, ℕ, ◌+◌, ◌<◌, List, [], ◌∷◌, ◌++◌, length, take, get_or, sym, refl, ap, ◌∙◌, arith}
use Rattle.std.proofs.lemmas.List.{take_more}
use Rattle.fleet_c.specs.inside.Runs.{run}

pub run-append : {X Y : Type 0} (step : X → Y → Y) (xs ys : List X) (y : Y) → run step (xs ++ ys) y ≡ run step ys (run step xs y)
run-append step [] ys y = refl
run-append step (x ∷ xs) ys y = run-append step xs ys (step x y)

-- one more item
pub run-more : {X Y : Type 0} (step : X → Y → Y) (xs : List X) (i : ℕ) (d : X) (y : Y) → i < length xs → step (get_or xs i d) (run step (take i xs) y) ≡ run step (take (i + 1) xs) y
run-more step xs i d y l = sym (ap (λ t. run step t y) (take_more xs i d l) ∙ run-append step (take i xs) (get_or xs i d ∷ []) y)

-- one more item, at each place of a list
pub each-more : {X Y : Type 0} (step : ℕ → X → Y → Y) (xs : List X) (was now next : List Y) (at : ℕ) (x : X) → at < length xs → length now ≡ length was
    → ((k : ℕ) (d : Y) → k < length now → get_or next k d ≡ step k (get_or xs at x) (get_or now k d))
    → ((k : ℕ) (d : Y) → k < length was → get_or now k d ≡ run (step k) (take at xs) (get_or was k d))
    → (k : ℕ) (d : Y) → k < length was → get_or next k d ≡ run (step k) (take (at + 1) xs) (get_or was k d)
each-more step xs was now next at x l same did before k d m =
    did k d (omega (arith, same, m)) ∙ ap (step k (get_or xs at x)) (before k d m) ∙ run-more (step k) xs at x (get_or was k d) l
