-- The fleet that a head names.
use Rattle.std.proofs.Common.{◌≡◌, ◌∙◌, ℕ, List, Option, Some, None, option_map, unwrap_or, ap}
use Rattle.std.proofs.lemmas.Option.{same_Some}
use Rattle.fleet_book.specs.declared.limits.Limits.{Limits}
use Rattle.fleet_core.specs.Hooks.{HookLaws}

-- what an option has, or else another
pub unwrapped : {X : Type 0} (f : X → List ℕ) (o : Option X) (v x : X) (cells : List ℕ) → x ≡ unwrap_or o v → option_map f o ≡ Some cells → f x ≡ cells
unwrapped f None v x cells is h = absurd cc
unwrapped f (Some y) v x cells is h = ap f is ∙ same_Some (f y) cells h

-- the same in equal terms
pub in-terms : (P : List ℕ → ℕ → Limits → HookLaws → Type 0) (s t : List ℕ) (c d : ℕ) (l m : Limits) (h k : HookLaws) → s ≡ t → c ≡ d → l ≡ m → h ≡ k → P s c l h → P t d m k
in-terms P s t c d l m h k a b e f p = rw (← a, ← b, ← e, ← f) p
