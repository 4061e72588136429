-- The state at the opening has room for all that the entries bring.
use Rattle.std.proofs.Common.{arith, ◌≡◌, ◌≤◌, ℕ}
use Rattle.fleet_history.specs.History.{history_of}
use Rattle.fleet_history.proofs.Legal.{legal-opening}
use Rattle.fleet_state.proofs.Parts.{queue-limit}
use Rattle.fleet_trace.proofs.replayed.state_after.Goals as goal

no_more : (a b : ℕ) → a ≡ b → a ≤ b
no_more a b is = omega (arith, is)

pub open-requires-clause-order : goal.open-requires-clause-order
open-requires-clause-order g c = (c.args.grid.now, legal-opening c.args.grid.now (history_of c.args.chapter.now) c.requires.legal)

pub open-requires-clause-room : goal.open-requires-clause-room
open-requires-clause-room g c = λ k d l. ((legal-opening c.args.grid.now (history_of c.args.chapter.now) c.requires.legal).robots k d l).room

pub enter_all-requires-clause-opened : goal.enter_all-requires-clause-opened
enter_all-requires-clause-opened g c = c.in_ok-state.ensures.of c.args.grid.now (legal-opening c.args.grid.now (history_of c.args.chapter.now) c.requires.legal)

pub enter_all-requires-clause-rooms : goal.enter_all-requires-clause-rooms
enter_all-requires-clause-rooms g c =
    let here = c.in_ok-state.ensures.of c.args.grid.now (legal-opening c.args.grid.now (history_of c.args.chapter.now) c.requires.legal) in
    c.in_ok-state.ensures.full (no_more c.in_ok-state.state.queue c.args.chapter.now.opening.queue (queue-limit here))
