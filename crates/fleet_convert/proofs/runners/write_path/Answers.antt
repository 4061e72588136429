-- All steps of the robot are written.
use Rattle.std.proofs.Common.{◌++◌, string_bytes, arith}
use Rattle.fleet_convert.specs.Moves.{steps_of}
use Rattle.fleet_convert.specs.Runners.{path_from}
use Rattle.fleet_convert.proofs.Pieces.{capitals_end}
use Rattle.fleet_convert.proofs.runners.write_path.Goals as goal

pub returns : goal.returns
returns c =
    capitals_end c.args.width c.args.robot c.loop-time.time c.args.places.now (string_bytes c.loop-time.out) (string_bytes c.args.out.now ++ path_from 0 (steps_of c.args.width c.args.robot c.args.places.now))
    (omega (arith, c.loop-time-test.false, c.saturating_sub-steps.ensures, c.len.ensures)) c.loop-time.invariant
