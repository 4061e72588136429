-- What a run of lines leaves is the state that it led to.
use Rattle.fleet_core.specs.Hooks.{laws_of}
use Rattle.fleet_script.specs.Runs.{unrolled}
use Rattle.fleet_world.specs.Answers.{events_in, replies_in}
use Rattle.fleet_world.specs.Keeps.{talk}
use Rattle.fleet_core.proofs.OpeningRefusals.{not_refused}
use Rattle.fleet_world.proofs.Answering.{played_is}
use Rattle.fleet_world.proofs.Refusals.{done}
use Rattle.fleet_world.proofs.lines.run_lines.Goals as goal

pub returns-in-Ok-play_lines-clause-refused : goal.returns-in-Ok-play_lines-clause-refused
returns-in-Ok-play_lines-clause-refused g c f named =
    (done, λ q. absurd (not_refused c.args.grid c.args.starts.items c.args.clients c.args.limits (laws_of c.args.hooks) f c.in-Ok.ensures.can q))

pub returns-in-Ok-play_lines-clause-played : goal.returns-in-Ok-play_lines-clause-played
returns-in-Ok-play_lines-clause-played g c =
    let answers = c.in-Ok-play_lines.answers.items in
    played_is c.args.grid c.args.starts.items c.args.clients c.args.limits (laws_of c.args.hooks) (talk c.in-Ok.session) (talk c.play_lines.new.session) (unrolled c.args.runs.now) (events_in answers) (replies_in answers) c.world_of.result.core
    c.in-Ok.ensures.can c.in-Ok.ensures.orderly c.in-Ok.ensures.ok c.in-Ok-play_lines.ensures.leads c.in-Ok-play_lines.ensures.events c.world_of.ensures
