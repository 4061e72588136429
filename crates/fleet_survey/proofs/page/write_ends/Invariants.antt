use Rattle.std.proofs.Common.{◌≡◌, ◌++◌, drop, string_bytes}
use Rattle.std.specs.List.{flat_map}
use Rattle.fleet_survey.specs.Texts.{end_line}
use Rattle.fleet_survey.proofs.page.write_ends.Given as goal

abbrev pub invariant-loop-end : goal.invariant-loop-end
invariant-loop-end l = string_bytes l.out ++ flat_map end_line (drop l.end-index l.ends) ≡ string_bytes l.fn.out ++ flat_map end_line l.ends
