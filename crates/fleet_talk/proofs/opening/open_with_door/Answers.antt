-- The fleet that a head names is opened with its door, or refused.
use Rattle.std.proofs.Common.{◌≡◌, ◌∙◌, ℕ, List, length, Option, Ok, Err, ap, arith}
use Rattle.std.specs.Prelude.{min}
use Rattle.fleet_core.specs.Hooks.{AreOrderly}
use Rattle.fleet_core.specs.Opening.{CanOpen}
use Rattle.fleet_text.specs.Kit.{kit_laws}
use Rattle.fleet_world.specs.Keeps.{talk}
use Rattle.std.specs.declared.alloc.Global.{Global}
use Rattle.fleet_world.specs.Talk.{Talk, opened_talk}
use Rattle.fleet_talk.specs.Conversation.{clients_in, laws_in, limits_in}
use Rattle.fleet_talk.specs.Door.{AreRefused}
use Rattle.fleet_talk.specs.Heading.{drafted}
use Rattle.fleet_talk.proofs.Doors.{door-for, fault-of, known-for, ok-by, ok-by2, ok-of, robots-named}
use Rattle.fleet_talk.proofs.Manners.{fresh-as}
use Rattle.fleet_talk.proofs.opening.open_with_door.Goals as goal

pub returns-in-Ok-clause-can : goal.returns-in-Ok-clause-can
returns-in-Ok-clause-can g c starts is = ok-of c.with_door.result _ (c.in-Ok.ensures.can starts is)

pub returns-in-Ok-clause-orderly : goal.returns-in-Ok-clause-orderly
returns-in-Ok-clause-orderly g c starts is = ok-of c.with_door.result _ (c.in-Ok.ensures.orderly starts is)

pub returns-in-Ok-clause-ok : goal.returns-in-Ok-clause-ok
returns-in-Ok-clause-ok g c starts is = ok-by c.with_door.result _ _ (λ r same. same ∙ c.in-Ok.ensures.ok starts is) c.with_door.ensures.session

pub returns-in-Ok-clause-door : goal.returns-in-Ok-clause-door
returns-in-Ok-clause-door g c starts is =
    ok-by c.with_door.result _ _ (λ r found. door-for c.args.settings.roomy c.args.ground.grid c.counted-robots.result (length starts) c.door_for-door.result r.1 found
    (c.counted-robots.ensures ∙ ap (λ (n : ℕ). min n 4294967295) (robots-named (drafted c.args.ground.head).starts c.robots_named.result c.unwrap_or.result starts c.unwrap_or.ensures c.robots_named.ensures is))
    (omega (arith, (c.in-Ok.ensures.can starts is).robots.1)) c.door_for-door.ensures.refused) c.with_door.ensures.door

pub returns-in-Err-clause-refused : goal.returns-in-Err-clause-refused
returns-in-Err-clause-refused g c starts is fault named same = (c.in-Err.ensures.refused starts is fault named).0 (fault-of c.in-Err.fault fault same)

pub returns-in-Ok-clause-known : goal.returns-in-Ok-clause-known
returns-in-Ok-clause-known g c =
    ok-by2 c.with_door.result _ _ _
    (λ r found same. known-for c.args.ground.grid r.0.world.core.floor c.door_for-door.result r.1 found (ap (λ (t : Talk Global). t.world.floor) same ∙ c.in-Ok.ensures.floor) c.door_for-door.ensures.roominess)
    c.with_door.ensures.door c.with_door.ensures.session

pub returns-in-Ok-clause-fresh : goal.returns-in-Ok-clause-fresh
returns-in-Ok-clause-fresh g c = ok-by c.with_door.result _ _ (λ r same. fresh-as (talk r.0) (talk c.in-Ok.session) same c.in-Ok.ensures.fresh) c.with_door.ensures.session
