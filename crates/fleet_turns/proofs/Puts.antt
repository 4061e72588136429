-- Goals that are put one after the other.
use Rattle.std.proofs.Common.{◌≡◌, ℕ, zero, suc, ◌+◌, ◌<◌, ◌≤◌, List, [], ◌∷◌, length, drop, get_or, Option, refl, ap, ◌∙◌, arith}
use Rattle.std.specs.Prelude.{slice_set}
use Rattle.fleet_planner.specs.declared.turns.GoalChange.{GoalChange}
use Rattle.fleet_planner.specs.Turned.{turned}

pub turned_next : (turns : List GoalChange) (goals : List (Option ℕ)) (i j : ℕ) (d : GoalChange) → i < length turns → j ≡ i + 1 →
    turned (drop i turns) goals ≡ turned (drop j turns) (slice_set goals (get_or turns i d).robot (get_or turns i d).goal)
unfolding turned
turned_next [] goals i j d l more = absurd (omega (arith, l))
turned_next (x ∷ xs) goals zero j d l more =
    let e : 1 ≡ j = omega (arith, more) in
    ap (λ (k : ℕ). turned (drop k (x ∷ xs)) (slice_set goals x.robot x.goal)) e
turned_next (x ∷ xs) goals (suc i) j d l more =
    let e : suc (i + 1) ≡ j = omega (arith, more) in
    turned_next xs goals i (i + 1) d (omega (arith, l)) refl ∙ ap (λ (k : ℕ). turned (drop k (x ∷ xs)) (slice_set goals (get_or xs i d).robot (get_or xs i d).goal)) e

pub turned_all : (turns : List GoalChange) (goals : List (Option ℕ)) (i : ℕ) → length turns ≤ i → turned (drop i turns) goals ≡ goals
unfolding turned
turned_all [] goals zero l = refl
turned_all [] goals (suc i) l = refl
turned_all (x ∷ xs) goals zero l = absurd (omega (arith, l))
turned_all (x ∷ xs) goals (suc i) l = turned_all xs goals i (omega (arith, l))
