use Rattle.std.proofs.Common.{◌≡◌, drop}
use Rattle.std.specs.List.{list_any}
use Rattle.fleet_text.specs.Output.{is_limit_met}
use Rattle.fleet_world.specs.Answers.{replies_in}
use Rattle.errands_lib.proofs.texts.meets_limit.Given as goal

abbrev pub invariant-loop-at : goal.invariant-loop-at
invariant-loop-at l = list_any is_limit_met (replies_in (drop l.at l.answers)) ≡ list_any is_limit_met (replies_in l.answers)
