use Rattle.fleet_field.specs.Growing.{Serves}
use Rattle.test_grid.proofs.fields.growing.ask_around.Given as goal

abbrev pub invariant-loop-at : goal.invariant-loop-at
invariant-loop-at g l = Serves l.grid l.field
