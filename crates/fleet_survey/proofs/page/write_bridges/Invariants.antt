use Rattle.std.proofs.Common.{◌≡◌, ◌++◌, drop, string_bytes}
use Rattle.std.specs.List.{flat_map}
use Rattle.fleet_survey.specs.Texts.{bridge_line}
use Rattle.fleet_survey.proofs.page.write_bridges.Given as goal

abbrev pub invariant-loop-edge : goal.invariant-loop-edge
invariant-loop-edge l = string_bytes l.out ++ flat_map bridge_line (drop l.edge-index l.bridges) ≡ string_bytes l.fn.out ++ flat_map bridge_line l.bridges
