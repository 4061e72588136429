use Rattle.std.proofs.Common.{◌≡◌, length}
use Rattle.fleet_history.specs.History.{clients}
use Rattle.fleet_core.specs.Core.{pending}
use Rattle.fleet_office.specs.Hall.{Gives}
use Rattle.fleet_office.proofs.giving.give_from.Given as goal

abbrev pub invariant-loop-notice : goal.invariant-loop-notice
invariant-loop-notice g l =
    Gives l.fn.core l.core l.fn.end l.end l.client l.count
    × (length l.core.mailboxes ≡ length l.fn.core.mailboxes)
    × (clients l.core.history ≡ clients l.fn.core.history)

abbrev pub decreases-loop-notice : goal.decreases-loop-notice
decreases-loop-notice g l = length (pending l.core l.client).notices
