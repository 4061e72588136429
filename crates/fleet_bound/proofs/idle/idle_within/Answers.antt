-- The ticks of a bridgeless map, and none on others.
use Rattle.std.proofs.Common.{refl}
use Rattle.fleet_bound.proofs.idle.idle_within.Goals as goal

pub returns-then-not-bridgeless : goal.returns-then-not-bridgeless
returns-then-not-bridgeless c = rw c.if-not-bridgeless.true refl

pub returns : goal.returns
returns c = rw (c.if-not-bridgeless.false, c.idle_ticks.ensures) refl
