-- What is opened was not refused.
use Rattle.std.proofs.Common.{◌≡◌}
use Rattle.fleet_core.specs.Hooks.{laws_of}
use Rattle.fleet_core.proofs.OpeningRefusals.{not_refused}
use Rattle.fleet_world.proofs.Refusals.{done}
use Rattle.fleet_world.proofs.play.opened.Goals as goal

pub returns-in-Ok-rooms-clause-refused : goal.returns-in-Ok-rooms-clause-refused
returns-in-Ok-rooms-clause-refused g c f named =
    (done, λ q. absurd (not_refused c.args.grid c.args.starts.items c.args.clients c.args.limits (laws_of c.args.hooks) f c.in-Ok.ensures.can q))
