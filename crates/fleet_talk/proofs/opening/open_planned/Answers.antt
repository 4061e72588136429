-- The fleet that a head names is opened, and its ticks are planned as the settings say; or it is refused.
use Rattle.std.proofs.Common.{refl, ap, length}
use Rattle.std.specs.declared.alloc.Global.{Global}
use Rattle.fleet_text.specs.Kit.{kit_laws}
use Rattle.fleet_world.specs.Keeps.{talk}
use Rattle.fleet_world.specs.Talk.{Talk, opened_talk}
use Rattle.fleet_talk.specs.Conversation.{clients_in, laws_in, limits_in}
use Rattle.fleet_talk.specs.Fleet.{opened_fleet}
use Rattle.fleet_talk.specs.Heading.{drafted}
use Rattle.fleet_talk.proofs.Manners.{in-turns-as, refused-as, takes-as, unopened-by}
use Rattle.fleet_talk.proofs.opening.open_planned.Goals as goal

pub returns-in-Ok-planned-clause-takes : goal.returns-in-Ok-planned-clause-takes
returns-in-Ok-planned-clause-takes g c starts is =
    let d = drafted c.args.ground.head in
    let opened : Talk Global = opened_talk c.args.ground.grid starts (clients_in d) (limits_in d) (laws_in (kit_laws c.args.ground.kit) d starts) in
    takes-as c.args.settings.manner (talk c.in-Ok.session) opened c.in-Ok-planned.fleet.0.world.core.turns (c.in-Ok.ensures.ok starts is) c.in-Ok-planned.ensures.taken

pub returns-in-Ok-planned-clause-ok : goal.returns-in-Ok-planned-clause-ok
returns-in-Ok-planned-clause-ok g c starts is =
    let d = drafted c.args.ground.head in
    let opened : Talk Global = opened_talk c.args.ground.grid starts (clients_in d) (limits_in d) (laws_in (kit_laws c.args.ground.kit) d starts) in
    ap (λ (s : Talk Global). opened_fleet s)
    (in-turns-as (talk c.in-Ok-planned.fleet.0) (talk c.in-Ok.session) opened c.in-Ok-planned.fleet.0.world.core.turns c.in-Ok-planned.ensures.same (c.in-Ok.ensures.ok starts is))

pub returns-in-Ok-planned-clause-door : goal.returns-in-Ok-planned-clause-door
returns-in-Ok-planned-clause-door g c starts is =
    refused-as c.args.settings.roomy c.args.ground.grid (length starts) c.in-Ok-planned.fleet.1 c.in-Ok.door c.in-Ok-planned.ensures.door (c.in-Ok.ensures.door starts is)

pub returns-in-Err-clause-fault : goal.returns-in-Err-clause-fault
returns-in-Err-clause-fault g c starts is =
    unopened-by (kit_laws c.args.ground.kit) c.args.ground.grid c.args.settings.manner starts (drafted c.args.ground.head) c.in-Err.fault c.opening_fault.result c.opening_fault.ensures
    (λ named. c.in-Err.ensures.refused starts is c.in-Err.fault named refl)
