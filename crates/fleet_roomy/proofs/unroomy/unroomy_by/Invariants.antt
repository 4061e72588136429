use Rattle.std.proofs.Common.{◌≡◌, vec_len}
use Rattle.fleet_roomy.specs.Unroomy.{IsUnroomyCell}
use Rattle.fleet_roomy.proofs.Marking.{AreMarkedBelow}
use Rattle.fleet_roomy.proofs.unroomy.unroomy_by.Given as goal

abbrev pub invariant-loop-cell : goal.invariant-loop-cell
invariant-loop-cell g l = record { size : vec_len l.marks ≡ l.cell; each : AreMarkedBelow (IsUnroomyCell l.grid l.robots) l.marks.items l.cell }
