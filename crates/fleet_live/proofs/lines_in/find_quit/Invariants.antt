-- The lines so far do not end the fleet.
use Rattle.std.proofs.Common.{◌≡◌, ◌≤◌, ◌-◌, drop, length}
use Rattle.fleet_live.specs.Quit.{further, quit_from, quit_in}
use Rattle.fleet_live.proofs.lines_in.find_quit.Given as goal

abbrev pub invariant-loop-line : goal.invariant-loop-line
invariant-loop-line l = record {
  within : l.looked ≤ length l.bytes;
  same : further l.looked (quit_in (length l.bytes - l._line) l.rights (drop l.looked l.bytes)) ≡ quit_from l.rights l.bytes l.from;
}
