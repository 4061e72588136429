use Rattle.fleet_history.specs.History.{start, with_entries}
use Rattle.fleet_state.specs.State.{IsStateOf}
use Rattle.fleet_trace.proofs.EntryByEntry.{upto}
use Rattle.fleet_trace.proofs.Placed.{HasRooms}
use Rattle.fleet_trace.proofs.judging.judge_entries.Given as goal

abbrev pub invariant-loop-at : goal.invariant-loop-at
invariant-loop-at g l = IsStateOf l.grid (upto l.grid (with_entries (start l.opening) l.entries) l.at) l.state × HasRooms (with_entries (start l.opening) l.entries) l.state
