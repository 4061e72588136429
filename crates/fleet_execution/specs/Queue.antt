-- A queue of robots.
use Rattle.std.specs.Prelude.{◌≡◌, ℕ, ◌<◌, Bool, true, false, List, length, slice_index_or}
use Rattle.std.specs.List.{list_any, IsDistinct}
use Rattle.std.proofs.Common.{eqb}

-- the robots in the order in which they were added, and how many robots there are
pub record Line : Type 0 where
  pub robots : ℕ
  pub items : List ℕ

-- each at most once; and for each robot whether it is in the queue
pub record IsQueue (items : List ℕ) (capacity : ℕ) (waits : List Bool) : Type 0 where
  pub distinct : IsDistinct eqb items
  pub below : (q : ℕ) → list_any (eqb q) items ≡ true → q < length waits
  pub marked : (q : ℕ) → q < length waits → slice_index_or waits q false ≡ list_any (eqb q) items
  pub room : capacity ≡ length waits
