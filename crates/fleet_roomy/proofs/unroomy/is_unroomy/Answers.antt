-- A cell's number says whether it is roomy.
use Rattle.std.proofs.Common.{arith}
use Rattle.std.specs.Prelude.{slice_index}
use Rattle.std.proofs.lemmas.Bool.{lt-ltb, ltb-true}
use Rattle.fleet_roomy.proofs.Marking.{less_if_unroomy, unroomy_if_less}
use Rattle.fleet_roomy.proofs.unroomy.is_unroomy.Goals as goal

pub returns-then-is_floor : goal.returns-then-is_floor
returns-then-is_floor g c = (
  λ is. unroomy_if_less c.args.grid.now c.args.most.now c.args.robots c.args.cell c.requires (omega (arith, c.ranges.robots.fits)) (c.is_floor.ensures.0 c.if-is_floor.true) (ltb-true (slice_index c.args.most.now c.args.cell) c.args.robots is),
  λ it. lt-ltb (slice_index c.args.most.now c.args.cell) c.args.robots (less_if_unroomy c.args.grid.now c.args.most.now c.args.robots c.args.cell c.requires (omega (arith, c.ranges.robots.fits)) it),
)
