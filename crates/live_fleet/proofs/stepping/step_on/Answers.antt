-- The event was done in the chapter as it was, or in the next.
use Rattle.std.proofs.Common.{◌∙◌, ◌||◌, refl, sym, ap, true, false}
use Rattle.fleet_world.specs.Keeps.{talk}
use Rattle.live_fleet.specs.Out.{out_of}
use Rattle.live_fleet.specs.Went.{At, at_of}
use Rattle.live_fleet.proofs.Steps.{at-hand, steps-here, steps-last, steps-next-if}
use Rattle.live_fleet.proofs.stepping.step_on.Goals as goal

pub returns-then-not-wants_room-clause-ok : goal.returns-then-not-wants_room-clause-ok
returns-then-not-wants_room-clause-ok g c =
    steps-here (at_of c.args.fleet.now c.args.out.now)
    (record { fleet = record { talk = talk c.step.new.self; met = c.args.fleet.now.limited || c.is_limit_met.result; recalls = c.args.fleet.now.recalls }; out = out_of c.args.out.now })
    c.args.event c.in_ok-reply.reply c.in_ok-reply.ensures.step (ap (λ b. c.args.fleet.now.limited || b) c.is_limit_met.ensures.value) refl refl (sym c.wants_room.ensures ∙ c.if-not-wants_room.true)

pub returns-then-branch-clause-ok : goal.returns-then-branch-clause-ok
returns-then-branch-clause-ok g c =
    let mid : At = record { fleet = record { talk = talk c.step.new.self; met = c.args.fleet.now.limited; recalls = c.args.fleet.now.recalls }; out = out_of c.args.out.now } in
    let handed : At = at_of c.hand_out.new.fleet c.hand_out.new.out in
    steps-next-if c.note_step.result (at_of c.args.fleet.now c.args.out.now) mid handed (at_of c.note_step.new.fleet c.hand_out.new.out) c.args.event c.in_ok-reply.reply c.in_ok-reply.ensures.step refl refl refl
    (sym c.wants_room.ensures ∙ c.if-not-wants_room.false) (at-hand c.in_ok-hand_out.field-0 mid handed true c.in_ok-hand_out.ensures.ok c.if-branch.true) c.note_step.ensures.step c.note_step.ensures.met c.note_step.ensures.recalls refl

pub returns-clause-ok : goal.returns-clause-ok
returns-clause-ok g c =
    let mid : At = record { fleet = record { talk = talk c.step.new.self; met = c.args.fleet.now.limited; recalls = c.args.fleet.now.recalls }; out = out_of c.args.out.now } in
    let handed : At = at_of c.hand_out.new.fleet c.hand_out.new.out in
    steps-last (at_of c.args.fleet.now c.args.out.now) mid handed c.args.event c.in_ok-reply.reply c.in_ok-reply.ensures.step refl refl
    (sym c.wants_room.ensures ∙ c.if-not-wants_room.false) (at-hand c.in_ok-hand_out.field-0 mid handed false c.in_ok-hand_out.ensures.ok c.if-branch.false)
    (record { fleet = record { talk = talk c.hand_out.new.fleet.session; met = c.hand_out.new.fleet.limited || c.is_limit_met-2.result; recalls = c.hand_out.new.fleet.recalls }; out = out_of c.hand_out.new.out })
    refl (ap (λ b. c.hand_out.new.fleet.limited || b) c.is_limit_met-2.ensures.value) refl refl refl
