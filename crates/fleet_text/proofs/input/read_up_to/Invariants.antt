use Rattle.std.proofs.Common.{◌-◌, ◌+◌, vec_len}
use Rattle.std.specs.Io.KnownBytes.{Consumes}
use Rattle.fleet_text.proofs.input.read_up_to.Given as goal

abbrev pub invariant-loop-piece : goal.invariant-loop-piece
invariant-loop-piece g l = Consumes (g.R.Read.remaining l.fn.reader) (g.R.Read.remaining l.reader) l.bytes.items

abbrev pub decreases-loop-piece : goal.decreases-loop-piece
decreases-loop-piece g l = (l.most + 1) - vec_len l.bytes
