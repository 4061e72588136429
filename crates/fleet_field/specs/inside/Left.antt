-- How a cell is left in one direction.
use Rattle.std.specs.Prelude.{◌≡◌, ◌≢◌, ℕ, ◌⊎◌, List, [], ◌∷◌, ◌++◌, slice_index, slice_set}
use Rattle.fleet_grid.specs.declared.dir.Dir.{Dir}
use Rattle.fleet_grid.specs.declared.dir.Dir.TheVariants.{North, East, South, West}
use Rattle.fleet_grid.specs.Floor.{cell_across}
use Rattle.fleet_grid.specs.Ways.{IsWay}
use Rattle.fleet_field.specs.declared.target.Target.{Target}
use Rattle.fleet_field.specs.inside.Estimate.{IsToward}

-- the labels; the cells with labels that are still to be left; and the cells without labels that wait, those with as few steps
-- away from the target as these, and those that may have one more
pub record Search : Type 0 where
  pub labels : List ℕ
  pub now : List ℕ
  pub next : List ℕ
  pub later : List ℕ

-- a way leads from the cell in that direction, and the search has not come to the cell there
pub record IsNew (t : Target) (ways cell : ℕ) (dir : Dir) (labels : List ℕ) : Type 0 where
  pub way : IsWay ways dir
  pub unseen : slice_index labels (cell_across t.width cell dir) ≡ 0

-- nothing happens; or the search comes to the cell there; or that cell waits
abbrev pub IsLeft : Target → ℕ → ℕ → ℕ → Dir → Search → Search → Type 0
IsLeft t ways mark cell dir old new =
    ((IsNew t ways cell dir old.labels → ⊥) × (new ≡ old))
    ⊎ ((IsNew t ways cell dir old.labels × IsToward t cell dir
    × (new ≡ record old { labels = slice_set old.labels (cell_across t.width cell dir) mark; now = old.now ++ cell_across t.width cell dir ∷ [] }))
    ⊎ (IsNew t ways cell dir old.labels × (IsToward t cell dir → ⊥)
    × (new ≡ record old { later = old.later ++ cell_across t.width cell dir ∷ [] })))

-- all four directions
pub record IsSpread (t : Target) (ways mark cell : ℕ) (old new : Search) : Type 0 where
  pub first : Search
  pub second : Search
  pub third : Search
  pub south : IsLeft t ways mark cell South old first
  pub west : IsLeft t ways mark cell West first second
  pub north : IsLeft t ways mark cell North second third
  pub east : IsLeft t ways mark cell East third new
