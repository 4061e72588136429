use Rattle.std.proofs.Common.{◌≡◌, drop}
use Rattle.std.specs.List.{list_any}
use Rattle.fleet_explain.specs.Lines.{texts, has_key}
use Rattle.fleet_explain.proofs.line.has_line_of.Given as goal

abbrev pub invariant-loop-line : goal.invariant-loop-line
invariant-loop-line l = list_any (has_key l.word) (texts (drop l.line-index l.lines)) ≡ list_any (has_key l.word) (texts l.lines)
