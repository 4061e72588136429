-- Four robots with goals, as a step asks for them.
use Rattle.std.proofs.Common.{◌≡◌, ℕ, zero, suc, ◌<◌, ◌↔◌, Option, Some, None, IsSome, List, [], ◌∷◌, length, slice_index, slice_index_or, refl, sym, subst, ap, ◌∙◌, arith}
use Rattle.fleet_grid.specs.Floor.{Floor, IsNeighbour}
use Rattle.fleet_grid.specs.Walk.{AreJoined}
use Rattle.fleet_pibt.specs.Goals.{AreGoals}
use Rattle.fleet_pibt.specs.Order.{wait_of}
use Rattle.fleet_planner.specs.Courses.{Courses, goals_of, goal, away}
use Rattle.fleet_planner.proofs.Measured.{are_goals}

four-at : (goals : List ℕ) (r : ℕ) → r < 4 → slice_index_or (Some (slice_index goals 0) ∷ Some (slice_index goals 1) ∷ Some (slice_index goals 2) ∷ Some (slice_index goals 3) ∷ []) r None ≡ Some (slice_index goals r)
four-at goals zero l = refl
four-at goals (suc zero) l = refl
four-at goals (suc (suc zero)) l = refl
four-at goals (suc (suc (suc zero))) l = refl
four-at goals (suc (suc (suc (suc r)))) l = absurd (omega arith)

four-waits : (r : ℕ) → r < 4 → IsSome (wait_of (Some 9 ∷ Some 5 ∷ Some 3 ∷ Some 1 ∷ []) r)
four-waits zero l = refl
four-waits (suc zero) l = refl
four-waits (suc (suc zero)) l = refl
four-waits (suc (suc (suc zero))) l = refl
four-waits (suc (suc (suc (suc r)))) l = absurd (omega arith)

pub four-goals : (m : Floor) (from goals : List ℕ) (courses : Courses) → length from ≡ 4 →
    goals_of courses ≡ Some (slice_index goals 0) ∷ Some (slice_index goals 1) ∷ Some (slice_index goals 2) ∷ Some (slice_index goals 3) ∷ [] →
    ((r : ℕ) → r < 4 → AreJoined (IsNeighbour m) (slice_index from r) (slice_index goals r)) →
    AreGoals m from (Some 9 ∷ Some 5 ∷ Some 3 ∷ Some 1 ∷ []) (goal courses) (away courses m)
four-goals m from goals courses four is joined = are_goals m from (Some 9 ∷ Some 5 ∷ Some 3 ∷ Some 1 ∷ []) courses waited reached
  where
    at : (r : ℕ) → r < length from → goal courses r ≡ Some (slice_index goals r)
    at r l = ap (λ (gs : List (Option ℕ)). slice_index_or gs r None) is ∙ four-at goals r (omega (arith, l, four))

    waited : (r : ℕ) → r < length from → IsSome (goal courses r) ↔ IsSome (wait_of (Some 9 ∷ Some 5 ∷ Some 3 ∷ Some 1 ∷ []) r)
    waited r l = (λ _. four-waits r (omega (arith, l, four)), λ _. subst IsSome (sym (at r l)) refl)

    reached : (r g : ℕ) → r < length from → goal courses r ≡ Some g → AreJoined (IsNeighbour m) (slice_index from r) g
    reached r g l e = let same : slice_index goals r ≡ g = cc (at r l, e) in subst (λ (c : ℕ). AreJoined (IsNeighbour m) (slice_index from r) c) same (joined r (omega (arith, l, four)))
