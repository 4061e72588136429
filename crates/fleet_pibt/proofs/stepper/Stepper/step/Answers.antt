-- The step over the same goals, beside the map.
use Rattle.fleet_pibt.proofs.stepper.Stepper.step.Goals as goal

pub returns-clause-conflict_free : goal.returns-clause-conflict_free
returns-clause-conflict_free g c = c.in-Ok.ensures.stepped.conflict_free

pub returns-clause-purposeful : goal.returns-clause-purposeful
returns-clause-purposeful g c = c.in-Ok.ensures.stepped.purposeful

pub returns-clause-advances : goal.returns-clause-advances
returns-clause-advances g c = c.in-Ok.ensures.stepped.advances

pub returns-clause-bridgeless : goal.returns-clause-bridgeless
returns-clause-bridgeless g c = c.in-Ok.ensures.stepped.bridgeless

pub returns-clause-by_law : goal.returns-clause-by_law
returns-clause-by_law g c = c.in-Ok.ensures.stepped.by_law
