-- The mailbox grew for the order.
use Rattle.std.proofs.Common.{◌∙◌, refl, sym}
use Rattle.fleet_world.specs.Keeps.{talk}
use Rattle.live_fleet.specs.Out.{out_of}
use Rattle.live_fleet.specs.Went.{at_of}
use Rattle.live_fleet.proofs.Ended.{takes-next, takes-wider}
use Rattle.live_fleet.proofs.ending.take_next.Goals as goal

pub returns-then-not-wants_mailbox-clause-ok : goal.returns-then-not-wants_mailbox-clause-ok
returns-then-not-wants_mailbox-clause-ok g c =
    takes-next c.args.client c.in_ok-reply.reply c.is_took.result (at_of c.args.fleet.now c.args.out.now) (at_of c.step_on.new.fleet c.step_on.new.out) c.in_ok-reply.ensures.ok (sym c.wants_mailbox.ensures ∙ c.if-not-wants_mailbox.true) c.is_took.ensures

pub returns-clause-ok : goal.returns-clause-ok
returns-clause-ok g c =
    takes-wider c.args.client c.in_ok-reply.reply c.in_ok-again.again c.is_took-2.result (at_of c.args.fleet.now c.args.out.now) (at_of c.step_on.new.fleet c.step_on.new.out)
    (record { fleet = record { talk = talk c.make_room.new.session; met = c.step_on.new.fleet.limited; recalls = c.step_on.new.fleet.recalls }; out = out_of c.step_on.new.out }) (at_of c.step_on-2.new.fleet c.step_on-2.new.out) c.in_ok-reply.ensures.ok
    (sym c.wants_mailbox.ensures ∙ c.if-not-wants_mailbox.false) c.in_ok-make_room.ensures refl refl refl c.in_ok-again.ensures.ok c.is_took-2.ensures
