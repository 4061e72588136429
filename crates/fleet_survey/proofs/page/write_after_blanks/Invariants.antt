use Rattle.std.proofs.Common.{◌≡◌, ◌++◌, drop, string_bytes}
use Rattle.std.specs.List.{flat_map}
use Rattle.fleet_survey.specs.Texts.{blank_and}
use Rattle.fleet_survey.proofs.page.write_after_blanks.Given as goal

abbrev pub invariant-loop-number : goal.invariant-loop-number
invariant-loop-number l = string_bytes l.out ++ flat_map blank_and (drop l.number-index l.numbers) ≡ string_bytes l.fn.out ++ flat_map blank_and l.numbers
