-- What is shown is a look.
use Rattle.std.proofs.Common.{string_bytes}
use Rattle.fleet_talk.specs.Open.{fleet_of}
use Rattle.fleet_talk.specs.Said.{under}
use Rattle.fleet_talk.proofs.Talking.{shown}
use Rattle.fleet_talk.proofs.doing.show.Goals as goal

pub returns-clause-ok : goal.returns-clause-ok
returns-clause-ok g c = shown c.say.result (fleet_of c.args.fleet.now) (under c.args.mark) (string_bytes c.in_ok-line.line) c.as_str.result.now c.args.pen.now c.say.new.self c.as_str.ensures.value c.in_ok-line.ensures c.say.ensures.ok
