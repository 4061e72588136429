-- What is left of the notices is told again in what is left of the answer.
use Rattle.std.proofs.Common.{string_bytes}
use Rattle.live_fleet.proofs.Again.{Again}
use Rattle.live_fleet.proofs.sessions.write_again.Given as goal

abbrev pub invariant-loop-at : goal.invariant-loop-at
invariant-loop-at l = Again l.mark l.client 14336 l.left l.at l.notices (string_bytes l.fn.text) (string_bytes l.text)
