use Rattle.std.proofs.Common.{◌≡◌, take}
use Rattle.fleet_script.specs.Runs.{unrolled}
use Rattle.fleet_world.specs.Answers.{events_in, replies_in}
use Rattle.fleet_world.specs.Keeps.{talk}
use Rattle.fleet_world.specs.inside.Shown.{LeadsTo}
use Rattle.fleet_world.proofs.lines.play_lines.Given as goal

abbrev pub invariant-loop-at : goal.invariant-loop-at
invariant-loop-at g l = record {
  leads : LeadsTo (talk l.initial.session) (events_in l.answers.items) (replies_in l.answers.items) (talk l.session);
  events : events_in l.answers.items ≡ unrolled (take l.at l.runs);
}
