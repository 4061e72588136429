use Rattle.std.proofs.Common.{◌≡◌, ◌++◌, drop, string_bytes}
use Rattle.std.specs.List.{flat_map}
use Rattle.fleet_survey.specs.Json.{bridge_json, comma_and}
use Rattle.fleet_survey.proofs.json.write_more_bridges.Given as goal

abbrev pub invariant-loop-bridge : goal.invariant-loop-bridge
invariant-loop-bridge l = string_bytes l.out ++ flat_map (comma_and bridge_json) (drop l.bridge-index l.bridges) ≡ string_bytes l.fn.out ++ flat_map (comma_and bridge_json) l.bridges
