-- A report.
use Rattle.fleet_execution.proofs.Sound.{sound_reported}
use Rattle.fleet_execution.proofs.execution.Execution.reached.Goals as goal

pub invariant_of-self : goal.invariant_of-self
invariant_of-self g c = sound_reported c.self.inside.state c.reached.new.self c.reached.result _ c.self.invariant c.reached.ensures.sized c.reached.ensures.refused c.reached.ensures.reported

pub returns-clause-reported : goal.returns-clause-reported
returns-clause-reported g c = rw (← c.self.view_is) c.reached.ensures.reported
