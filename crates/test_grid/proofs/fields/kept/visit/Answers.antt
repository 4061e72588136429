use Rattle.fleet_field.proofs.Shares.{serves_released}
use Rattle.test_grid.proofs.fields.kept.visit.Goals as goal

pub returns-clause-serves : goal.returns-clause-serves
returns-clause-serves g c = serves_released c.args.grid.now c.hold_from.new.self c.release_to.new.self c.in_ok-key.key (c.is_held.ensures.0 c.if-not-is_held.false) c.release_to.ensures.released c.in_ok-key.ensures.serves
