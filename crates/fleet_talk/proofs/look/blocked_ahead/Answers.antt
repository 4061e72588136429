-- What is found is before the eldest robot.
use Rattle.std.proofs.Common.{sym, ◌∙◌}
use Rattle.fleet_talk.proofs.Doors.{ok-by2}
use Rattle.fleet_talk.proofs.Looks.{blocked-by, not-blocked}
use Rattle.fleet_talk.proofs.look.blocked_ahead.Goals as goal

pub returns-in_default-front : goal.returns-in_default-front
returns-in_default-front g c = not-blocked c.args.world.now.core c.args.eldest c.in-Some.robot c.in-Some.is (sym c.front.ensures ∙ c.in_default-front.is)

pub returns : goal.returns
returns g c =
    ok-by2 c.blocked_at.result _ _ _
    (λ found free there. blocked-by c.args.world.now.core c.args.eldest c.in-Some.robot c.in-Some.is c.grid.result.now c.placement.result.now c.in-Some-front.errand found c.grid.ensures c.placement.ensures (sym c.front.ensures ∙ c.in-Some-front.is) free there)
    c.blocked_at.ensures.free c.blocked_at.ensures.blocked
