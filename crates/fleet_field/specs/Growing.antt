-- A field that is searched only as far as it is asked.
use Rattle.std.specs.Prelude.{◌≡◌, ◌≢◌, ℕ, ◌+◌, ◌*◌, ◌⊎◌, [], length, slice_index}
use Rattle.fleet_grid.specs.Floor.{Floor, HasForm, IsFloor, IsNeighbour}
use Rattle.fleet_grid.specs.Ways.{IsLess}
use Rattle.fleet_grid.specs.Distance.{distance}
use Rattle.fleet_field.specs.declared.growing.GrowingField.{GrowingField}
use Rattle.fleet_field.specs.declared.target.Target.{Target}
use Rattle.fleet_field.specs.inside.Left.{Search}
use Rattle.fleet_field.specs.inside.Known.{IsKnown, label, zero_count}

-- how far it is searched
abbrev pub search_of : {A : Type 0} → GrowingField A → Search
search_of f = record { labels = f.labels.items; now = f.now.items; next = f.next.items; later = f.later.items }

-- a field's goal and target, the label of the cells to which the search comes now, and how far it is searched
pub record Growth : Type 0 where
  pub goal : ℕ
  pub target : Target
  pub mark : ℕ
  pub search : Search

-- what a field knows, without where it lies in memory
abbrev pub growth_of : {A : Type 0} → GrowingField A → Growth
growth_of f = record { goal = f.goal; target = f.target; mark = f.mark; search = search_of f }

-- what the field knows is so on this map, and enough to go on
pub record Serves {A : Type 0} (m : Floor) (f : GrowingField A) : Type 0 where
  pub form : HasForm m
  pub goal : IsFloor m f.goal
  pub width : f.target.width ≡ m.width
  pub steps : ℕ
  pub mark : f.mark ≡ label steps
  pub known : IsKnown m f.target f.goal steps (search_of f)

-- the same of what a field knows, without its memory
pub record IsGrown (m : Floor) (f : Growth) : Type 0 where
  pub form : HasForm m
  pub goal : IsFloor m f.goal
  pub width : f.target.width ≡ m.width
  pub steps : ℕ
  pub mark : f.mark ≡ label steps
  pub known : IsKnown m f.target f.goal steps f.search

-- the goal of a field: the cell to which its distances are
abbrev pub goal_of : {A : Type 0} → GrowingField A → ℕ
goal_of f = f.goal

-- it has come to this cell, and to each neighbour that is nearer to the goal
pub record IsFound {A : Type 0} (m : Floor) (f : GrowingField A) (cell : ℕ) : Type 0 where
  pub here : slice_index f.labels.items cell ≢ 0
  pub nearer : (w : ℕ) → IsNeighbour m cell w → IsLess (distance m w f.goal) (distance m cell f.goal) → slice_index f.labels.items w ≢ 0

-- it has come to all cells with as few steps away as those that waited in this round
pub record IsOver {A : Type 0} (f : GrowingField A) : Type 0 where
  pub left : f.now.items ≡ []
  pub emptied : f.next.items ≡ []

-- what it knows tells the ways from this cell
abbrev pub IsSettled : {A : Type 0} → Floor → GrowingField A → ℕ → Type 0
IsSettled m f cell = IsFound m f cell ⊎ (IsOver f × ((slice_index f.labels.items cell ≢ 0) ⊎ (f.later.items ≡ [])))

-- the same of what a field knows, without its memory: it has come to this cell, and to each neighbour that is nearer to the goal
pub record Sees (m : Floor) (f : Growth) (cell : ℕ) : Type 0 where
  pub here : slice_index f.search.labels cell ≢ 0
  pub nearer : (w : ℕ) → IsNeighbour m cell w → IsLess (distance m w f.goal) (distance m cell f.goal) → slice_index f.search.labels w ≢ 0

-- nothing waits in this round
pub record IsRound (f : Growth) : Type 0 where
  pub left : f.search.now ≡ []
  pub emptied : f.search.next ≡ []

-- what is known tells the ways from this cell: nothing is searched for it any more
abbrev pub Tells : Floor → Growth → ℕ → Type 0
Tells m f cell = Sees m f cell ⊎ (IsRound f × ((slice_index f.search.labels cell ≢ 0) ⊎ (f.search.later ≡ [])))

-- how many cells are still to be left, or wait
abbrev pub cells_left : Growth → ℕ
cells_left f = length f.search.now + length f.search.next + length f.search.later

-- how much is left to do in this round: it falls with each cell that is taken from a list
abbrev pub to_do : {A : Type 0} → GrowingField A → ℕ
to_do f = length f.now.items + length f.next.items + 2 * zero_count f.labels.items

-- how many cells may come to wait for later rounds, with those that wait
abbrev pub may_wait : {A : Type 0} → GrowingField A → ℕ
may_wait f = length f.later.items + 4 * (length f.now.items + zero_count f.labels.items)
