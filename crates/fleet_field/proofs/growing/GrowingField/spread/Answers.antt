use Rattle.std.proofs.Common.{◌≡◌, ℕ, length, ap, arith}
use Rattle.fleet_grid.specs.declared.dir.Dir.TheVariants.{North, East, South, West}
use Rattle.fleet_field.proofs.growing.GrowingField.spread.Goals as goal

pub leave-requires-clause-inside : goal.leave-requires-clause-inside
leave-requires-clause-inside g c way = c.requires.inside South way

pub leave-requires-2-clause-inside : goal.leave-requires-2-clause-inside
leave-requires-2-clause-inside g c way =
    let here = c.requires.inside West way in
    omega (arith, here, c.leave.ensures.len)

pub leave-requires-3-clause-inside : goal.leave-requires-3-clause-inside
leave-requires-3-clause-inside g c way =
    let here = c.requires.inside North way in
    let one = ap (λ f. f.target.width) c.leave.ensures.rest in
    let two = ap (λ f. f.target.width) c.leave-2.ensures.rest in
    omega (arith, here, one, two, c.leave.ensures.len, c.leave-2.ensures.len)

pub leave-requires-4-clause-inside : goal.leave-requires-4-clause-inside
leave-requires-4-clause-inside g c way =
    let here = c.requires.inside East way in
    omega (arith, here, c.leave.ensures.len, c.leave-2.ensures.len, c.leave-3.ensures.len)
