-- A field and what it knows.
use Rattle.std.proofs.Common.{◌≡◌, ◌≢◌, ◌⊎◌, ℕ, inl, inr, [], slice_index}
use Rattle.fleet_grid.specs.Floor.{Floor}
use Rattle.fleet_field.specs.declared.growing.GrowingField.{GrowingField}
use Rattle.fleet_field.specs.Growing.{Serves, IsFound, IsGrown, IsOver, IsSettled, Tells, growth_of}

pub serves_grown : {A : Type 0} (m : Floor) (f : GrowingField A) → Serves m f → IsGrown m (growth_of f)
serves_grown m f s = record { form = s.form; goal = s.goal; width = s.width; steps = s.steps; mark = s.mark; known = s.known }

pub grown_serves : {A : Type 0} (m : Floor) (f : GrowingField A) → IsGrown m (growth_of f) → Serves m f
grown_serves m f s = record { form = s.form; goal = s.goal; width = s.width; steps = s.steps; mark = s.mark; known = s.known }

pub tells_found : {A : Type 0} (m : Floor) (f : GrowingField A) (cell : ℕ) → IsFound m f cell → Tells m (growth_of f) cell
tells_found m f cell found = inl (record { here = found.here; nearer = found.nearer })

pub tells_over : {A : Type 0} (m : Floor) (f : GrowingField A) (cell : ℕ) → IsOver f → (slice_index f.labels.items cell ≢ 0) ⊎ (f.later.items ≡ []) → Tells m (growth_of f) cell
tells_over m f cell over come = inr (record { left = over.left; emptied = over.emptied }, come)

pub tells_settled : {A : Type 0} (m : Floor) (f : GrowingField A) (cell : ℕ) → IsSettled m f cell → Tells m (growth_of f) cell
tells_settled m f cell (inl found) = tells_found m f cell found
tells_settled m f cell (inr over) = tells_over m f cell over.0 over.1
