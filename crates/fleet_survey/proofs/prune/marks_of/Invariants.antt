use Rattle.std.proofs.Common.{◌≡◌, false, vec_len}
use Rattle.fleet_grid.specs.Floor.{IsFloor}
use Rattle.fleet_roomy.specs.Unroomy.{has}
use Rattle.fleet_survey.proofs.Marks.{AreMarkedBelow}
use Rattle.fleet_survey.proofs.prune.marks_of.Given as goal

abbrev pub invariant-loop-cell : goal.invariant-loop-cell
invariant-loop-cell l = record { size : vec_len l.marks ≡ l.cell; each : AreMarkedBelow (λ c. IsFloor l.grid c × (has l.others.marks.items c ≡ false)) l.marks.items l.cell }
