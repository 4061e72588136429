-- The line of the number.
use Rattle.std.proofs.Common.{arith}
use Rattle.fleet_explain.proofs.Among.{among}
use Rattle.fleet_explain.proofs.line.fault_among.Goals as goal

pub returns : goal.returns
returns c =
    among c.args.lines.now c.args.number c.line_at.result.now c.line_fault.result (omega (arith, c.if-number-lt1.false)) (omega (arith, c.if-number-lines.false)) c.line_at.ensures c.line_fault.ensures
