-- Distances that were found.
use Rattle.std.proofs.Common.{◌≡◌, ◌∙◌, ℕ, zero, suc, Bool, true, false, List, [], ◌∷◌, Option, Some, None, refl, sym, ap, arith}
use Rattle.std.specs.Prelude.{◌&&◌, if◌then◌else◌, All, map}
use Rattle.fleet_grid.specs.Floor.{Floor, IsFloor, is_floor}
use Rattle.fleet_grid.specs.Distance.{distance}
use Rattle.fleet_stats.specs.Rows.{away}
use Rattle.fleet_stats.specs.inside.Found.{IsWay}

pub away_is : (m : Floor) (from to : ℕ) (o : Option ℕ) → IsFloor m from → IsFloor m to → o ≡ distance m from to → o ≡ away m from to
away_is m from to o start end is = rw (start, end) is

-- one of the two is no floor
pub away_none : (m : Floor) (from to : ℕ) (a b : Bool) → is_floor m from ≡ a → is_floor m to ≡ b → None ≡ (if a && b then distance m from to else None) → None ≡ away m from to
away_none m from to a b start end is = rw (start, end) is

-- nothing was found yet
pub none-found : {X : Type 0} (m : Floor) (xs : List X) → All (IsWay m) (map (λ _. None) xs)
none-found m [] k d less = absurd (omega (arith, less))
none-found m (x ∷ xs) zero d less = tt
none-found m (x ∷ xs) (suc k) d less = none-found m xs k d (omega (arith, less))
