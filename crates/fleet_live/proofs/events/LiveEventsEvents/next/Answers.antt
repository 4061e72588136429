-- What is taken is what is to be heard next, and it may be heard.
use Rattle.std.proofs.Common.{append-nil, map, sym}
use Rattle.live_fleet.specs.Party.{heard_of, stage_of}
use Rattle.fleet_live.specs.Taken.{noted}
use Rattle.fleet_live.proofs.Taking.{may-none, may-one, takes-none}
use Rattle.fleet_live.proofs.events.LiveEventsEvents.next.Goals as goal

pub returns-in_default : goal.returns-in_default
returns-in_default g c = record {
  taken = takes-none (map noted c.args.self.now.taken.items) c.in_ok-next.next c.decide.new.line.items c.in_default.not-Hear;
  may = may-none (stage_of c.args.party.now c.args.out.now) c.in_ok-next.next c.decide.new.line.items c.in_default.not-Hear;
}

pub returns-then-not-can_hear : goal.returns-then-not-can_hear
returns-then-not-can_hear g c = record {
  taken = sym (append-nil (map noted c.args.self.now.taken.items));
  may = tt;
}

pub returns : goal.returns
returns g c = record {
  taken = c.in_ok-note.ensures;
  may = may-one (stage_of c.args.party.now c.args.out.now) c.in-Hear.asked c.decide.new.line.items c.deref.result.now (heard_of c.cue.result) c.cue.ensures c.deref.ensures.value (c.can_hear.ensures.0 c.if-not-can_hear.false);
}
