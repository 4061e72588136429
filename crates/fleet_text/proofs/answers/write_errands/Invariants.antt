use Rattle.std.proofs.Common.{◌≡◌, ◌++◌, drop, string_bytes}
use Rattle.std.specs.List.{flat_map}
use Rattle.fleet_text.specs.Answers.{open_line}
use Rattle.fleet_text.proofs.answers.write_errands.Given as goal

abbrev pub invariant-loop-errand : goal.invariant-loop-errand
invariant-loop-errand l = string_bytes l.text ++ flat_map (open_line l.client) (drop l.errand-index l.errands) ≡ string_bytes l.fn.text ++ flat_map (open_line l.client) l.errands
