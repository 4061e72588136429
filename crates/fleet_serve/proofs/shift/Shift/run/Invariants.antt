use Rattle.std.specs.Prelude.{take}
use Rattle.fleet_serve.specs.Posted.{HasCounted}
use Rattle.fleet_serve.proofs.shift.Shift.run.Given as goal

abbrev pub invariant-loop-at : goal.invariant-loop-at
invariant-loop-at g l = HasCounted (take l.at l.self.events.now) g.N.ScriptName.orders l.guest l.lane_full
