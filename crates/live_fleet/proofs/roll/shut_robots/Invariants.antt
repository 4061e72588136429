-- What is left to be added.
use Rattle.std.proofs.Common.{◌≡◌, ◌++◌, drop}
use Rattle.std.specs.List.{flat_map}
use Rattle.live_fleet.specs.Robots.{shut_in}
use Rattle.live_fleet.proofs.roll.shut_robots.Given as goal

abbrev pub invariant-loop-entry : goal.invariant-loop-entry
invariant-loop-entry l = l.shut.items ++ flat_map shut_in (drop l.entry-index l.entries) ≡ flat_map shut_in l.entries
