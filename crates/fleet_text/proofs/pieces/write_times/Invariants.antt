use Rattle.std.specs.Io.KnownBytes.{Appends}
use Rattle.fleet_text.specs.Pieces.{repeated}
use Rattle.fleet_text.proofs.pieces.write_times.Given as goal

abbrev pub invariant-loop-written : goal.invariant-loop-written
invariant-loop-written g l = Appends (g.W.Write.contents l.fn.writer) (g.W.Write.contents l.writer) (repeated l.written l.text)
