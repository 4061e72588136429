-- The world that goes on has a door, or an errand that does not go through it.
use Rattle.std.proofs.Common.{◌∙◌, ℕ, ap}
use Rattle.std.specs.Prelude.{min}
use Rattle.fleet_text.specs.Kit.{kit_laws}
use Rattle.std.specs.declared.alloc.Global.{Global}
use Rattle.fleet_core.specs.Core.{World}
use Rattle.fleet_talk.specs.Chapters.{chapter_shown}
use Rattle.fleet_talk.specs.Conversation.{Terms}
use Rattle.fleet_talk.specs.Heading.{drafted}
use Rattle.fleet_talk.proofs.Doors.{door-fault, known-for, lets-in, without-word}
use Rattle.fleet_talk.proofs.resuming.world_with_door.Goals as goal

pub returns-in-Ok-door_to-clause-door : goal.returns-in-Ok-door_to-clause-door
returns-in-Ok-door_to-clause-door g c =
    let on : Terms = record { kit = kit_laws c.args.ground.kit; floor = c.args.ground.grid; settings = c.args.settings; head = drafted c.args.ground.head } in
    lets-in on (chapter_shown c.args.chapter.now) c.in-Ok.world.core c.counted.result c.door_for-door.result c.in-Ok.ensures.ok c.in-Ok.ensures.may (c.counted.ensures ∙ ap (λ (n : ℕ). min n 4294967295) c.len.ensures) c.door_for-door.ensures.refused
    c.in-Ok-door_to.door c.in-Ok-door_to.ensures.ok.0 c.in-Ok-door_to.ensures.ok.1

pub returns-in-Err-door_to-clause-fault : goal.returns-in-Err-door_to-clause-fault
returns-in-Err-door_to-clause-fault g c =
    let on : Terms = record { kit = kit_laws c.args.ground.kit; floor = c.args.ground.grid; settings = c.args.settings; head = drafted c.args.ground.head } in
    door-fault on (chapter_shown c.args.chapter.now) c.in-Ok.world.core c.counted.result c.door_for-door.result c.in-Ok.ensures.ok c.in-Ok.ensures.may (c.counted.ensures ∙ ap (λ (n : ℕ). min n 4294967295) c.len.ensures) c.door_for-door.ensures.refused
    c.in-Err-door_to.fault c.in-Err-door_to.ensures.fault

pub returns-in-Err-clause-fault : goal.returns-in-Err-clause-fault
returns-in-Err-clause-fault g c =
    without-word c.args.settings.roomy (kit_laws c.args.ground.kit) c.args.ground.grid (drafted c.args.ground.head) (chapter_shown c.args.chapter.now) c.in-Err.fault c.in-Err.ensures.fault

pub returns-in-Ok-door_to-clause-known : goal.returns-in-Ok-door_to-clause-known
returns-in-Ok-door_to-clause-known g c =
    known-for c.args.ground.grid c.in-Ok.world.core.floor c.door_for-door.result c.in-Ok-door_to.door c.in-Ok-door_to.ensures.ok.0 (ap (λ (w : World Global). w.floor) c.in-Ok.ensures.ok) c.door_for-door.ensures.roominess
