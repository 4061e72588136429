-- A shape that moves, piece by piece.
use Rattle.std.proofs.Common.{decimal, map, string_bytes}
use Rattle.std.proofs.lemmas.Result.{on_ok_weaker}
use Rattle.fleet_trace.specs.Trace.{trace_of}
use Rattle.fleet_view.specs.Picture.{disc_text, values_text, ring_text, flags_in}
use Rattle.fleet_view.specs.declared.shapes.TheConstants.{TRACK, TRACK_TIME, TRACK_END}
use Rattle.fleet_view.proofs.Pieces.{moving-is}
use Rattle.fleet_view.proofs.picture.write_moving.Goals as goal

pub returns : goal.returns
returns c =
    on_ok_weaker c.write_disc.result
    (λ h. rw (← c.time_of-time.ensures) (moving-is (string_bytes c.args.out.now) TRACK.now (values_text c.args.width c.args.start c.args.cells.now) TRACK_TIME.now (decimal c.time_of-time.result) TRACK_END.now (ring_text (flags_in c.args.robot (map trace_of c.args.chapters.now)) c.time_of-time.result) (disc_text c.args.robot) _ _ _ _ _
    c.in_ok-push_str.ensures.bytes c.in_ok-write_values.ensures c.in_ok-write.ensures.bytes c.in_ok-write_ring.ensures h))
    c.write_disc.ensures
