-- The laws of stored closures: between which bounds their answers lie.
use Rattle.std.specs.Prelude.{ℕ, List, [], ◌∷◌, ◌<◌, ◌≤◌, slice_index}
use Rattle.fleet_grid.specs.Direction.{dir_number}
use Rattle.fleet_grid.specs.declared.dir.Dir.{Dir}
use Rattle.fleet_grid.specs.declared.dir.Dir.TheVariants as dir
use Rattle.fleet_hooks.specs.declared.law.StampLaw.{StampLaw}
use Rattle.fleet_hooks.specs.declared.law.TieLaw.{TieLaw}

-- in each direction the least rank is at most the greatest
abbrev pub IsTieLaw : TieLaw → Type 0
IsTieLaw law = (d : ℕ) → d < 4 → slice_index law.low d ≤ slice_index law.high d

-- in each direction this rank alone
abbrev pub exact_law : List ℕ → TieLaw
exact_law ranks = record { low = ranks; high = ranks }

-- by north, east, south and west: the way to the south is ranked 0, the others from 1 to 9
abbrev pub south_first : TieLaw
south_first = record { low = 1 ∷ 1 ∷ 0 ∷ 1 ∷ []; high = 9 ∷ 9 ∷ 0 ∷ 9 ∷ [] }

-- the rank by the southern rule
abbrev pub south_rank : Dir → ℕ
south_rank dir.North = 1
south_rank dir.East = 1
south_rank dir.South = 0
south_rank dir.West = 1

-- the rank lies between the law's bounds for the direction
pub record IsRank (law : TieLaw) (dir : Dir) (rank : ℕ) : Type 0 where
  pub low : slice_index law.low (dir_number dir) ≤ rank
  pub high : rank ≤ slice_index law.high (dir_number dir)

-- the least stamp is at most the greatest
abbrev pub IsStampLaw : StampLaw → Type 0
IsStampLaw law = law.low ≤ law.high

-- this stamp alone
abbrev pub exact_stamp : ℕ → StampLaw
exact_stamp stamp = record { low = stamp; high = stamp }

-- stamps that are at most this number
abbrev pub stamps_to : ℕ → StampLaw
stamps_to most = record { low = 0; high = most }

-- the stamp lies between the law's bounds
pub record IsStamp (law : StampLaw) (stamp : ℕ) : Type 0 where
  pub low : law.low ≤ stamp
  pub high : stamp ≤ law.high
