-- All steps of the robot are written.
use Rattle.std.proofs.Common.{◌++◌, string_bytes, arith}
use Rattle.fleet_convert.specs.Moves.{track_of}
use Rattle.fleet_convert.proofs.Pieces.{letters_end}
use Rattle.fleet_convert.proofs.moves.write_track.Goals as goal

pub returns : goal.returns
returns c =
    letters_end c.args.width c.args.robot c.loop-time.time c.args.places.now (string_bytes c.loop-time.out) (string_bytes c.args.out.now ++ track_of c.args.width c.args.robot c.args.places.now)
    (omega (arith, c.loop-time-test.false, c.saturating_sub-steps.ensures, c.len.ensures)) c.loop-time.invariant
