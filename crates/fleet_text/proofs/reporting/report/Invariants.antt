use Rattle.std.proofs.Common.{◌≡◌, ◌++◌, drop}
use Rattle.fleet_world.specs.Answers.{events_in, replies_in}
use Rattle.fleet_text.specs.Output.{run_text}
use Rattle.fleet_text.specs.inside.Draft.{draft_text}
use Rattle.fleet_text.proofs.reporting.report.Given as goal

abbrev pub invariant-loop-at : goal.invariant-loop-at
invariant-loop-at l = draft_text l.draft ++ run_text (events_in (drop l.at l.answers)) (replies_in (drop l.at l.answers)) l.rest ≡ run_text (events_in l.answers) (replies_in l.answers) l.entries
