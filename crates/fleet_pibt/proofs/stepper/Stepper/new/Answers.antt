-- The size of the tables that were made, and that they are empty.
use Rattle.std.proofs.Common.{◌≡◌, ℕ, refl, arith}
use Rattle.fleet_pibt.specs.Size.{Size}
use Rattle.fleet_pibt.proofs.stepper.Stepper.new.Goals as goal

size-is : (a b c d : ℕ) → a ≡ c → b ≡ d → ◌≡◌ {A = Size} (record { cells = a; robots = b }) (record { cells = c; robots = d })
size-is a b c d p q = rw (p, q) refl

pub returns : goal.returns
returns g c = size-is _ _ _ _ c.in_ok-board.ensures.standing.0 c.in_ok-queue.ensures.len

pub invariant_of-result : goal.invariant_of-result
invariant_of-result g c = (
  omega (arith, c.in_ok-board.ensures.target.0, c.in_ok-queue.ensures.len),
  omega (arith, c.in_ok-arounds.ensures.len, c.in_ok-queue.ensures.len),
  omega (arith, c.in_ok-board.ensures.standing.0, c.in_ok-board.ensures.holder.0),
  c.in_ok-board.ensures.standing.1,
  c.in_ok-board.ensures.target.1,
  c.in_ok-board.ensures.holder.1,
  c.in_ok-queue.ensures.roll,
)
