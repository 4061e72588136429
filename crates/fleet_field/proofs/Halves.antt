-- The bits of a byte's low half.
use Rattle.std.proofs.Common.{◌≡◌, ℕ, ◌<◌, min, ◌∙◌, arith}
use Rattle.std.specs.Int.{bit_at}
use Rattle.std.proofs.lemmas.Nat.Bits.{bit_at_and, bit_at_ones, bit_at-lt}
use Rattle.fleet_grid.specs.declared.dir.Dir.{Dir}
use Rattle.fleet_grid.specs.declared.dir.Dir.TheVariants.{North, East, South, West}
use Rattle.fleet_grid.specs.Direction.{dir_number}
use Rattle.fleet_field.specs.Compass.{low}

least_one : (a b : ℕ) → a < 2 → b ≡ 1 → min a b ≡ a
least_one a b few one = grind (arith, few, one)

pub low_bit : (x k : ℕ) → k < 4 → bit_at (low x) k ≡ bit_at x k
low_bit x k small = bit_at_and x 15 k ∙ least_one (bit_at x k) (bit_at 15 k) (bit_at-lt x k) (bit_at_ones 4 k small)

pub few_ways : (dir : Dir) → dir_number dir < 4
few_ways North = omega arith
few_ways East = omega arith
few_ways South = omega arith
few_ways West = omega arith
