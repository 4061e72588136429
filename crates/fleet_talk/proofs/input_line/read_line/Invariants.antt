-- What was read of the line has no line feed, and its beginning is kept.
use Rattle.std.proofs.Common.{◌≡◌, ◌≢◌, ◌≤◌, ◌<◌, ◌↔◌, ℕ, List, All, IsTrue, length, take, vec_len}
use Rattle.std.specs.Io.KnownBytes.{Consumes}
use Rattle.fleet_talk.proofs.input_line.read_line.Given as goal

abbrev pub invariant-loop : goal.invariant-loop
invariant-loop g l = (vec_len l.line ≤ l.most) × (done : List ℕ) × All (λ x. x ≢ 10) done × (IsTrue l.found ↔ (0 < length done))
    × Consumes (g.R.Read.remaining l.fn.reader) (g.R.Read.remaining l.reader) done
    × (l.line.items ≡ take l.most done)
