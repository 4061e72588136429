use Rattle.std.proofs.Common.{take}
use Rattle.fleet_core.specs.inside.Mailboxes.{AreDelivered}
use Rattle.fleet_core.proofs.mailbox.Mailboxes.deliver.Given as goal

abbrev pub invariant-loop-a : goal.invariant-loop-a
invariant-loop-a g l = AreDelivered (take l.a-index l.arrived) l.to l.tick l.initial.self l.self
