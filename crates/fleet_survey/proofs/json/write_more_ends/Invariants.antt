use Rattle.std.proofs.Common.{◌≡◌, ◌++◌, drop, string_bytes}
use Rattle.std.specs.List.{flat_map}
use Rattle.fleet_survey.specs.Json.{end_json, comma_and}
use Rattle.fleet_survey.proofs.json.write_more_ends.Given as goal

abbrev pub invariant-loop-end : goal.invariant-loop-end
invariant-loop-end l = string_bytes l.out ++ flat_map (comma_and end_json) (drop l.end-index l.ends) ≡ string_bytes l.fn.out ++ flat_map (comma_and end_json) l.ends
