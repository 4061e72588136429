-- The verdict on the calm state is the history's own.
use Rattle.std.proofs.Common.{ℕ, ◌<◌, sym, subst, take}
use Rattle.fleet_state.proofs.Parts.{tally-count}
use Rattle.fleet_trace.proofs.CalmDues.{calm-verdict}
use Rattle.fleet_trace.proofs.EntryByEntry.{placed}
use Rattle.fleet_trace.proofs.judging.due.verdict_after.Goals as goal

pub judge-requires-clause-client : goal.judge-requires-clause-client
judge-requires-clause-client g c = subst (λ (n : ℕ). c.args.client < n) (sym (tally-count c.in_ok-state.ensures)) c.requires.client

pub judge-requires-clause-placed : goal.judge-requires-clause-placed
judge-requires-clause-placed g c = placed c.in_ok-state.ensures

pub returns : goal.returns
returns g c =
    calm-verdict c.args.grid.now c.args.chapter.now.opening (take c.args.entries c.args.chapter.now.entries.items) c.args.client c.args.order c.judge.result
    (c.judge.ensures.verdict _ c.in_ok-state.ensures)
