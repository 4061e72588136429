-- What a step promises, all at once.
use Rattle.std.specs.Prelude.{◌≡◌, ℕ, Option, Some, List, slice_get, slice_index}
use Rattle.fleet_grid.specs.Floor.{Floor, IsNeighbour}
use Rattle.fleet_grid.specs.Step.{IsConflictFree}
use Rattle.fleet_grid.specs.Walk.{IsBridgeless}
use Rattle.fleet_hooks.specs.declared.law.TieLaw.{TieLaw}
use Rattle.fleet_pibt.specs.Advancing.{Advances, IsAdvancing, HasWayAhead}
use Rattle.fleet_pibt.specs.Eldest.{IsEldest}
use Rattle.fleet_pibt.specs.Purposeful.{IsPurposeful}
use Rattle.fleet_pibt.specs.Ties.{IsByLaw}

-- a step of robots with these waits, goals and laws of ties
pub record IsStepped (m : Floor) (waits : List (Option ℕ)) (goals : ℕ → Option ℕ) (laws : List TieLaw) (from to : List ℕ) : Type 0 where
  pub conflict_free : IsConflictFree m from to
  pub purposeful : IsPurposeful m goals from to
  pub advances : (e g : ℕ) → IsEldest waits e → goals e ≡ Some g → HasWayAhead m from g (slice_index from e) →
      Advances m g (slice_index from e) (slice_index to e)
  pub bridgeless : IsBridgeless (IsNeighbour m) → IsAdvancing m waits goals from to
  pub by_law : (e g : ℕ) (law : TieLaw) → IsEldest waits e → goals e ≡ Some g → HasWayAhead m from g (slice_index from e) →
      slice_get laws e ≡ Some law → IsByLaw m law g (slice_index from e) (slice_index to e)
