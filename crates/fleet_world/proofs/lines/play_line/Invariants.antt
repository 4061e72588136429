use Rattle.std.proofs.Common.{◌≡◌, ◌++◌, replicate}
use Rattle.fleet_world.specs.Answers.{events_in, replies_in}
use Rattle.fleet_world.specs.Keeps.{talk}
use Rattle.fleet_world.specs.Talk.{Talk}
use Rattle.fleet_world.specs.inside.Shown.{LeadsTo}
use Rattle.fleet_world.proofs.lines.play_line.Given as goal

abbrev pub invariant-loop-done : goal.invariant-loop-done
invariant-loop-done g l = record {
  leads : (t : Talk _) → LeadsTo t (events_in l.initial.answers.items) (replies_in l.initial.answers.items) (talk l.initial.session) → LeadsTo t (events_in l.answers.items) (replies_in l.answers.items) (talk l.session);
  events : events_in l.answers.items ≡ events_in l.initial.answers.items ++ replicate l.done l.run.event;
}
