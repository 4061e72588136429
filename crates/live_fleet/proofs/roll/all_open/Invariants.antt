-- The open errands of the clients so far.
use Rattle.std.proofs.Common.{◌≡◌}
use Rattle.std.specs.List.{flat_map, range_with_len}
use Rattle.fleet_core.specs.OpenErrands.{open_errands}
use Rattle.live_fleet.proofs.roll.all_open.Given as goal

abbrev pub invariant-loop-client : goal.invariant-loop-client
invariant-loop-client g l = l.all.items ≡ flat_map (open_errands l.session.world.core.history) (range_with_len 0 l.client)
