use Rattle.fleet_history.specs.History.{start, with_entries}
use Rattle.fleet_state.specs.State.{IsStateOf, HasFullRooms}
use Rattle.fleet_trace.proofs.EntryByEntry.{upto}
use Rattle.fleet_trace.proofs.replayed.enter_all.Given as goal

abbrev pub invariant-loop-at : goal.invariant-loop-at
invariant-loop-at g l = IsStateOf l.grid (upto l.grid (with_entries (start l.opening) l.entries) l.at) l.state × HasFullRooms l.state
