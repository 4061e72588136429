-- The event was done in the chapter as it was, or is still to be done in the next.
use Rattle.std.proofs.Common.{◌∙◌, ◌||◌, ap, refl, sym}
use Rattle.fleet_world.specs.Keeps.{talk}
use Rattle.fleet_talk.specs.Chapters.{beginning}
use Rattle.fleet_talk.specs.Open.{fleet_of}
use Rattle.fleet_talk.specs.Said.{under}
use Rattle.fleet_talk.proofs.Keeping.{step-beginning}
use Rattle.fleet_talk.proofs.Onces.{comes-handed, hands-none}
use Rattle.fleet_talk.proofs.Rolling.{plays-here, plays-last}
use Rattle.fleet_talk.proofs.plays.play_if_room.Goals as goal

pub returns-then-not-wants_room-clause-ok : goal.returns-then-not-wants_room-clause-ok
returns-then-not-wants_room-clause-ok g c =
    let mid = talk c.step.new.self in
    let (text, does, added) =
    plays-here c.args.pen.now.settings.roll (fleet_of c.args.fleet.now) (record { talk = mid; met = c.args.fleet.now.limited || c.is_limit_met.result }) (under c.args.mark) c.args.event c.in_ok-reply.reply c.args.pen.now c.tell.new.pen
    c.in_ok-reply.ensures.step (ap (λ b. c.args.fleet.now.limited || b) c.is_limit_met.ensures.value) (sym c.wants_room.ensures ∙ c.if-not-wants_room.true) c.requires.short c.in_ok-tell.ensures.ok
    in
    (text, does, added, step-beginning (talk c.args.fleet.now.session) mid c.args.event c.in_ok-reply.reply c.in_ok-reply.ensures.step)

pub returns-in-Some-clause-ok : goal.returns-in-Some-clause-ok
returns-in-Some-clause-ok g c =
    let (wants, hands) = comes-handed c.args.pen.now.settings.roll (talk c.args.fleet.now.session) (talk c.step.new.self) (talk c.hand_out.new.session) c.args.event c.in_ok-reply.reply c.in_ok-chapter.field-0 c.in-Some.chapter
    c.in_ok-reply.ensures.step (sym c.wants_room.ensures ∙ c.if-not-wants_room.false) c.in_ok-chapter.ensures.ok c.in-Some.is in
    (wants, hands, refl, record { out = refl; settings = refl })

pub returns-in_ok-tell-in-None-clause-ok : goal.returns-in_ok-tell-in-None-clause-ok
returns-in_ok-tell-in-None-clause-ok g c =
    let start = talk c.args.fleet.now.session in
    let mid = talk c.step.new.self in
    let next = talk c.hand_out.new.session in
    let (spent, stayed) = hands-none mid next c.in_ok-chapter.field-0 c.in_ok-chapter.ensures.ok c.in-None.is in
    let (text, does, added) =
    plays-last c.args.pen.now.settings.roll (fleet_of c.args.fleet.now) (record { talk = next; met = c.args.fleet.now.limited || c.is_limit_met-in-None.result }) mid (under c.args.mark) c.args.event c.in_ok-reply.reply c.args.pen.now c.tell-in-None.new.pen
    c.in_ok-reply.ensures.step (ap (λ b. c.args.fleet.now.limited || b) c.is_limit_met-in-None.ensures.value) (sym c.wants_room.ensures ∙ c.if-not-wants_room.false) spent stayed c.in_ok-tell-in-None.ensures.ok
    in
    (text, does, added, ap (λ t. beginning t.world) stayed ∙ step-beginning start mid c.args.event c.in_ok-reply.reply c.in_ok-reply.ensures.step)
