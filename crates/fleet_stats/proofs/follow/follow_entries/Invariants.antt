use Rattle.std.proofs.Common.{◌≡◌, drop}
use Rattle.fleet_history.specs.History.{start, with_entries}
use Rattle.fleet_stats.specs.Noted.{noted, entries_noted}
use Rattle.fleet_stats.specs.Rows.{shown}
use Rattle.fleet_stats.proofs.Followed.{IsThere, upto}
use Rattle.fleet_stats.proofs.follow.follow_entries.Given as goal

abbrev pub invariant-loop-at : goal.invariant-loop-at
invariant-loop-at l = record {
  state : IsThere (with_entries (start l.opening) l.entries) l.at l.state;
  notes : noted (upto (with_entries (start l.opening) l.entries) l.at) (drop l.at l.entries) (shown l.notes) ≡ entries_noted (with_entries (start l.opening) l.entries) (shown l.fn.notes);
}
