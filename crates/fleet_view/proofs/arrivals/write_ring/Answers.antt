-- A ring, piece by piece.
use Rattle.std.proofs.Common.{decimal, map, string_bytes}
use Rattle.std.proofs.lemmas.Result.{on_ok_weaker}
use Rattle.fleet_trace.specs.Trace.{trace_of}
use Rattle.fleet_view.specs.Picture.{flags_in}
use Rattle.fleet_view.specs.declared.shapes.TheConstants.{RING, RING_END, TRACK_TIME}
use Rattle.fleet_view.proofs.Pieces.{ring-is}
use Rattle.fleet_view.proofs.arrivals.write_ring.Goals as goal

pub returns : goal.returns
returns c =
    on_ok_weaker c.write.result
    (λ h. ring-is (string_bytes c.args.out.now) RING.now (flags_in c.args.robot (map trace_of c.args.chapters.now)) TRACK_TIME.now (decimal c.args.time) RING_END.now _ _ _
    c.in_ok-push_str.ensures.bytes c.in_ok-write_all_flags.ensures h)
    c.write.ensures.bytes
