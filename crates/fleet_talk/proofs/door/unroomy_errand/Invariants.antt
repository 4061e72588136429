-- No errand of the clients before goes to one of the cells.
use Rattle.std.proofs.Common.{◌≡◌, ℕ, ◌<◌, None}
use Rattle.std.specs.List.{position}
use Rattle.fleet_core.specs.OpenErrands.{open_errands}
use Rattle.fleet_roomy.specs.Unroomy.{has}
use Rattle.fleet_talk.proofs.door.unroomy_errand.Given as goal

abbrev pub invariant-loop-client : goal.invariant-loop-client
invariant-loop-client g l = (c : ℕ) → c < l.client → position (λ e. has l.cells.marks.items e.cell) (open_errands l.world.core.history c) ≡ None
