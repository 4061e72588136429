use Rattle.std.proofs.Common.{◌≡◌, ◌+◌, ◌++◌, length, vec_len}
use Rattle.std.specs.Prelude.{vec_capacity}
use Rattle.fleet_history.specs.History.{clients}
use Rattle.fleet_core.specs.Core.{pending}
use Rattle.fleet_office.specs.Hall.{handed}
use Rattle.fleet_office.proofs.leftovers.move_mailbox.Given as goal

abbrev pub invariant-loop-notice : goal.invariant-loop-notice
invariant-loop-notice g l =
    (l.out.items ++ (pending l.core l.number).notices ≡ l.fn.out.items ++ (pending l.fn.core l.number).notices)
    × (l.core ≡ handed l.fn.core l.number (pending l.core l.number).notices)
    × (vec_len l.out + length (pending l.core l.number).notices ≡ vec_len l.fn.out + length (pending l.fn.core l.number).notices)
    × (vec_capacity l.out ≡ vec_capacity l.fn.out)
    × (length l.core.mailboxes ≡ length l.fn.core.mailboxes)
    × (clients l.core.history ≡ clients l.fn.core.history)

abbrev pub decreases-loop-notice : goal.decreases-loop-notice
decreases-loop-notice g l = length (pending l.core l.number).notices
