-- What a chapter asked for that a fleet goes on from.
use Rattle.std.proofs.Common.{◌∙◌, sym}
use Rattle.fleet_text.specs.Kit.{kit_laws}
use Rattle.fleet_core.specs.Hooks.{laws_of}
use Rattle.fleet_history.specs.History.{history_of}
use Rattle.fleet_talk.specs.Heading.{drafted}
use Rattle.fleet_talk.specs.Resumed.{laws_after, limits_after}
use Rattle.fleet_talk.proofs.Resumptions.{can-as}
use Rattle.fleet_talk.proofs.resuming.world_after.Goals as goal

pub returns-in-Ok-clause-may : goal.returns-in-Ok-clause-may
returns-in-Ok-clause-may g c =
    let head = drafted c.args.ground.head in
    let o = c.args.chapter.now.opening in
    record {
      agrees = sym c.disagreement.ensures ∙ c.in-None.is;
      can = can-as c.args.ground.grid c.args.chapter.now.number (history_of c.args.chapter.now) c.limits_after-limits.result (limits_after head o) (laws_of c.hooks_after-hooks.result) (laws_after (kit_laws c.args.ground.kit) head o)
          c.limits_after-limits.ensures c.hooks_after-hooks.ensures c.in-Ok.ensures.can;
    }
