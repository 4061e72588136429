-- The conversation may be told notices, and was told those of its clients.
use Rattle.std.proofs.Common.{◌∙◌, sym}
use Rattle.live_fleet.specs.Open.{is_open}
use Rattle.live_fleet.specs.Went.{at_of}
use Rattle.live_fleet.proofs.Tells.{tells-where}
use Rattle.live_fleet.proofs.telling.tell.Goals as goal

pub returns-in_ok-tell_clients-clause-ok : goal.returns-in_ok-tell_clients-clause-ok
returns-in_ok-tell_clients-clause-ok g c =
    tells-where (is_open c.args.speaker.now.rest) c.args.to c.args.speaker.now.clients (at_of c.args.fleet.now c.args.out.now) (at_of c.tell_clients.new.fleet c.tell_clients.new.out)
    (sym c.is_open.ensures ∙ c.if-is_open.true) c.in_ok-tell_clients.ensures.ok
