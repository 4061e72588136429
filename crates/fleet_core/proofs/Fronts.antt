-- The first notice of a mailbox, and that it has none.
use Rattle.std.proofs.Common.{◌≡◌, List, [], ◌∷◌, None, refl}
use Rattle.std.specs.Prelude.{slice_get}

-- a list with no first item is empty
pub nil_from_none : {X : Type 0} (xs : List X) → slice_get xs 0 ≡ None → xs ≡ []
nil_from_none [] e = refl
nil_from_none (x ∷ xs) e = cc
