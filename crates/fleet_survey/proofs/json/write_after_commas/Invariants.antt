use Rattle.std.proofs.Common.{◌≡◌, ◌++◌, drop, string_bytes}
use Rattle.std.specs.Prelude.{decimal}
use Rattle.std.specs.List.{flat_map}
use Rattle.fleet_survey.specs.Json.{comma_and}
use Rattle.fleet_survey.proofs.json.write_after_commas.Given as goal

abbrev pub invariant-loop-number : goal.invariant-loop-number
invariant-loop-number l = string_bytes l.out ++ flat_map (comma_and decimal) (drop l.number-index l.numbers) ≡ string_bytes l.fn.out ++ flat_map (comma_and decimal) l.numbers
