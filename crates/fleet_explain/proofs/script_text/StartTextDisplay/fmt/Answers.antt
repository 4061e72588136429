-- Robots and their cells.
use Rattle.std.proofs.Common.{ℕ, List, subst}
use Rattle.std.specs.Fmt.{HasWritten}
use Rattle.fleet_explain.proofs.Written.{off_floor_written, outside_written, shared_written}
use Rattle.fleet_explain.proofs.script_text.StartTextDisplay.fmt.Goals as goal

pub returns-in-OffFloor-clause-writes : goal.returns-in-OffFloor-clause-writes
returns-in-OffFloor-clause-writes g c plain ok =
    subst (λ (t : List ℕ). HasWritten g.W.Write.write_str_gives c.args.f.now t c.write-in-OffFloor.new.self)
    (off_floor_written c.args.self.now.0 c.args.self.now.1 c.in-OffFloor.robot c.in-OffFloor.cell c.in-OffFloor.is)
    (c.write-in-OffFloor.ensures.writes plain ok)

pub returns-in-Outside-clause-writes : goal.returns-in-Outside-clause-writes
returns-in-Outside-clause-writes g c plain ok =
    subst (λ (t : List ℕ). HasWritten g.W.Write.write_str_gives c.args.f.now t c.write-in-Outside.new.self)
    (outside_written c.args.self.now.0 c.args.self.now.1 c.in-Outside.robot c.in-Outside.cell c.in-Outside.cells c.in-Outside.is)
    (c.write-in-Outside.ensures.writes plain ok)

pub returns-in-Shared-clause-writes : goal.returns-in-Shared-clause-writes
returns-in-Shared-clause-writes g c plain ok =
    subst (λ (t : List ℕ). HasWritten g.W.Write.write_str_gives c.args.f.now t c.write-in-Shared.new.self)
    (shared_written c.args.self.now.0 c.args.self.now.1 c.in-Shared.first c.in-Shared.second c.in-Shared.cell c.in-Shared.is)
    (c.write-in-Shared.ensures.writes plain ok)
