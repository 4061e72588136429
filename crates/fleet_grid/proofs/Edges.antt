-- Neighbours, in both directions.
use Rattle.std.proofs.Common.{◌≡◌, ℕ, sym, arith}
use Rattle.fleet_grid.specs.declared.dir.Dir.{Dir}
use Rattle.fleet_grid.specs.declared.dir.Dir.TheVariants.{North, East, South, West}
use Rattle.fleet_grid.specs.Floor.{Floor, IsBeside, IsNeighbour, cell_across}

-- the other way
abbrev pub opposite : Dir → Dir
opposite North = South
opposite East = West
opposite South = North
opposite West = East

beside_back : (width : ℕ) (dir : Dir) (a b : ℕ) → IsBeside width dir a b → IsBeside width (opposite dir) b a
beside_back width North a b p = p
beside_back width East a b p = p
beside_back width South a b p = p
beside_back width West a b p = p

pub neighbour_back : (m : Floor) (a b : ℕ) → IsNeighbour m a b → IsNeighbour m b a
neighbour_back m a b n = (opposite n.0, record { from = n.1.to; to = n.1.from; beside = beside_back m.width n.0 a b n.1.beside })

-- one cell at most is next to another in a direction
pub beside_once : (width : ℕ) (dir : Dir) (a b c : ℕ) → IsBeside width dir a b → IsBeside width dir a c → b ≡ c
beside_once width North a b c p q = omega (arith, p, q)
beside_once width East a b c p q = omega (arith, p.0, q.0)
beside_once width South a b c p q = omega (arith, p, q)
beside_once width West a b c p q = omega (arith, p.0, q.0)

-- a cell next to another has the number that is said
pub beside_across : (width : ℕ) (dir : Dir) (a b : ℕ) → IsBeside width dir a b → b ≡ cell_across width a dir
beside_across width North a b p = omega (arith, p)
beside_across width East a b p = sym p.0
beside_across width South a b p = sym p
beside_across width West a b p = omega (arith, p.0)
