use Rattle.std.proofs.Common.{◌≡◌, drop}
use Rattle.std.specs.List.{list_any}
use Rattle.fleet_explain.specs.Lines.{texts, is_event_line}
use Rattle.fleet_explain.proofs.line.has_event.Given as goal

abbrev pub invariant-loop-line : goal.invariant-loop-line
invariant-loop-line l = list_any is_event_line (texts (drop l.line-index l.lines)) ≡ list_any is_event_line (texts l.lines)
