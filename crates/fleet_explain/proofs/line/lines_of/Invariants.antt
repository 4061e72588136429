use Rattle.std.proofs.Common.{◌≡◌, ◌++◌, length}
use Rattle.fleet_map.specs.Text.{lines_of}
use Rattle.fleet_explain.specs.Lines.{texts}
use Rattle.fleet_explain.proofs.line.lines_of.Given as goal

abbrev pub invariant-loop-line : goal.invariant-loop-line
invariant-loop-line l = texts l.lines.items ++ lines_of l.rest ≡ lines_of l.text

abbrev pub decreases-loop-line : goal.decreases-loop-line
decreases-loop-line l = length l.rest
