-- A map has one table of ways, and so one count of turns.
use Rattle.std.proofs.Common.{◌≡◌, ℕ, ◌*◌, ◌<◌, ◌↔◌, inl, inr, zero, suc, List, length, slice_index, sym, ap, ◌∙◌, arith}
use Rattle.std.specs.Int.{bit_at}
use Rattle.std.proofs.lemmas.Nat.Bits.{same_from_bits_below, bit_at-lt}
use Rattle.std.proofs.lemmas.Bool.{cases_eq}
use Rattle.std.proofs.lemmas.List.{ext_get_or}
use Rattle.fleet_grid.specs.declared.dir.Dir.{Dir}
use Rattle.fleet_grid.specs.declared.dir.Dir.TheVariants.{North, East, South, West}
use Rattle.fleet_grid.specs.Direction.{dir_number}
use Rattle.fleet_grid.specs.Floor.{Floor}
use Rattle.fleet_grid.specs.Counts.{floor_count}
use Rattle.fleet_grid.specs.Turns.{turns_after, IsRagged}
use Rattle.fleet_grid.specs.Ways.{AreOpen, AreWays}

-- two bits of which each is set where the other is
one_bit : (a b : ℕ) → a < 2 → b < 2 → (a ≡ 1 → b ≡ 1) → (b ≡ 1 → a ≡ 1) → a ≡ b
one_bit a b la lb f g = elim (cases_eq a 1) [
  | inl e ↦ e ∙ sym (f e)
  | inr ne ↦ elim (cases_eq b 1) [
    | inl e ↦ absurd (ne (g e))
    | inr other ↦ omega (arith, la, lb, ne, other)
  ]
]

same_bit : (m : Floor) (cell a b : ℕ) (dir : Dir) → AreOpen m cell a → AreOpen m cell b → bit_at a (dir_number dir) ≡ bit_at b (dir_number dir)
same_bit m cell a b dir x y =
    one_bit (bit_at a (dir_number dir)) (bit_at b (dir_number dir)) (bit_at-lt a (dir_number dir)) (bit_at-lt b (dir_number dir)) (λ e. (y dir).1 ((x dir).0 e)) (λ e. (x dir).1 ((y dir).0 e))

same_byte : (m : Floor) (cell a b : ℕ) → AreOpen m cell a → AreOpen m cell b → a < 16 → b < 16 → a ≡ b
same_byte m cell a b x y la lb = same_from_bits_below 4 a b la lb each
  where
    each : (i : ℕ) → i < 4 → bit_at a i ≡ bit_at b i
    each zero below = same_bit m cell a b North x y
    each (suc zero) below = same_bit m cell a b East x y
    each (suc (suc zero)) below = same_bit m cell a b South x y
    each (suc (suc (suc zero))) below = same_bit m cell a b West x y
    each (suc (suc (suc (suc i)))) below = absurd (omega (arith, below))

pub same_ways : (m : Floor) (a b : List ℕ) → AreWays m a → AreWays m b → a ≡ b
same_ways m a b x y = ext_get_or 0 a b (x.size ∙ sym y.size) (λ i below.
    let inside : i < length m.letters = omega (arith, below, x.size) in
    same_byte m i (slice_index a i) (slice_index b i) (x.each i inside) (y.each i inside) (x.low i inside) (y.low i inside))

pub ragged_by : (m : Floor) (ways : List ℕ) (floor turns : ℕ) → AreWays m ways → floor ≡ floor_count m → turns ≡ turns_after 0 ways → (11 * floor < 20 * turns) ↔ IsRagged m
ragged_by m ways floor turns led ef et = (
  λ often. record { ways = ways; led = led; often = omega (arith, often, ef, et) },
  λ r. (
      let e : turns_after 0 r.ways ≡ turns_after 0 ways = ap (turns_after 0) (same_ways m r.ways ways r.led led) in
      let often = r.often in
      omega (arith, often, e, ef, et)),
)
