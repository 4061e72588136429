-- The state that begins with the calm opening.
use Rattle.std.proofs.Common.{take}
use Rattle.fleet_history.specs.History.{history_of}
use Rattle.fleet_history.proofs.Legal.{legal-opening}
use Rattle.fleet_trace.specs.Judged.{before}
use Rattle.fleet_trace.proofs.CalmOpening.{calm-order}
use Rattle.fleet_trace.proofs.judging.due.calm_state.Goals as goal

pub state_after-requires-clause-order : goal.state_after-requires-clause-order
state_after-requires-clause-order g c =
    calm-order c.args.grid.now c.args.chapter.now.opening c.in_ok-calm.calm (take c.args.entries c.args.chapter.now.entries.items) c.in_ok-calm.ensures
    (legal-opening c.args.grid.now (before (history_of c.args.chapter.now) c.args.entries) c.requires.legal)
