-- In which manner a core's ticks are planned.
use Rattle.std.proofs.Common.{◌≡◌, ◌∙◌, ℕ, ◌⊎◌, inl, inr, List, [], ◌∷◌, ◌++◌, Option, Some, None, sym, refl, subst}
use Rattle.fleet_grid.specs.Floor.{Floor, IsNeighbour}
use Rattle.fleet_grid.specs.Walk.{IsBridgeless}
use Rattle.fleet_hooks.specs.declared.law.TieLaw.{TieLaw}
use Rattle.fleet_history.specs.declared.history.Entry.TheVariants.{Tick}
use Rattle.fleet_history.specs.History.{History}
use Rattle.fleet_history.specs.Laws.{EachTick}
use Rattle.fleet_planner.specs.Planned.{IsPlanned}
use Rattle.turns_law.specs.Turns.{Turns}
use Rattle.mover.specs.Moving.{HasTurns, IsPlannedAs}
use Rattle.fleet_core.specs.inside.Kept.{AreTies}

none_or_some : (o : Option Turns) → (o ≡ None) ⊎ ((t : Turns) × (o ≡ Some t))
none_or_some None = inl refl
none_or_some (Some t) = inr (t, refl)

none_some : (o : Option Turns) (t : Turns) → o ≡ None → o ≡ Some t → ⊥
none_some o t none some = cc

module _ {A : Type 0} {m : Floor} {ties : List TieLaw} {h : History A} {old new : Option Turns} (same : new ≡ old) where
  -- what is the same plans the same
  pub ties-as : AreTies m old ties h → AreTies m new ties h
  ties-as tied = subst (λ (u : Option Turns). AreTies m u ties h) (sym same) tied

pub turns-as : (m : Floor) (n : ℕ) (old new : Option Turns) → new ≡ old → HasTurns m n old → HasTurns m n new
turns-as m n old new same has t is = has t (sym same ∙ is)

pub no-turns : (m : Floor) (n : ℕ) (turns : Option Turns) → turns ≡ None → HasTurns m n turns
no-turns m n turns none t is = absurd (none_some turns t none is)

-- a map without bridges is planned plainly
pub plain-of : (m : Floor) (n : ℕ) (turns : Option Turns) → HasTurns m n turns → IsBridgeless (IsNeighbour m) → turns ≡ None
plain-of m n turns has flat = elim (none_or_some turns) [
  | inl none ↦ none
  | inr some ↦ absurd ((has some.0 some.1).bridge flat)
]

pub plainly : {A : Type 0} (m : Floor) (ties : List TieLaw) (h : History A) (turns : Option Turns) → turns ≡ None → EachTick (IsPlannedAs turns m ties) h → EachTick (IsPlanned m ties) h
plainly m ties h turns none each = subst (λ (u : Option Turns). EachTick (IsPlannedAs u m ties) h) none each

pub plain-tick : {A : Type 0} (m : Floor) (ties : List TieLaw) (h : History A) (to : List ℕ) (turns : Option Turns) → turns ≡ None → IsPlannedAs turns m ties h to → IsPlanned m ties h to
plain-tick m ties h to turns none planned = subst (λ (u : Option Turns). IsPlannedAs u m ties h to) none planned

no_items : {X : Type 0} (xs ys : List X) (x : X) → [] ≡ xs ++ x ∷ ys → ⊥
no_items [] ys x e = cc
no_items (y ∷ xs) ys x e = cc

-- where there is no entry, each tick is planned so
pub none-planned : {A : Type 0} (P : History A → List ℕ → Type 0) (h : History A) → h.entries ≡ [] → EachTick P h
none-planned P h none before behind to arrived farewells q = absurd (no_items before behind (Tick to arrived farewells) (sym none ∙ q))
