-- One step of the loop.
use Rattle.std.proofs.Common.{◌≡◌, [], refl, ap, sym}
use Rattle.std.specs.declared.alloc.Global.{Global}
use Rattle.fleet_core.specs.Core.{World}
use Rattle.fleet_world.specs.Talk.{talk_of}
use Rattle.live_fleet.specs.Out.{out_of}
use Rattle.live_fleet.specs.Party.{Stage, door_shown, heard_of, stage_of}
use Rattle.fleet_live.specs.declared.ends.Next.{Next}
use Rattle.fleet_live.specs.Loop.{next_heard}
use Rattle.fleet_live.proofs.Backed.{logs-hand, logs-hear, logs-same}
use Rattle.fleet_live.proofs.Kept.{keeps-hand, keeps-hear, keeps-same}
use Rattle.fleet_live.proofs.keeping.go_on.Goals as goal

pub returns-in-Hear : goal.returns-in-Hear
returns-in-Hear g c = record {
  kept = keeps-hear c.hear.result (stage_of c.args.party.now c.args.out.now) (stage_of c.hear.new.self c.hear.new.out) c.args.next c.in-Hear.asked c.args.line.now (heard_of c.cue.result) _ _ _ c.in-Hear.is c.cue.ensures c.requires.within c.hear.ensures.does;
  logs = logs-hear c.hear.result (stage_of c.args.party.now c.args.out.now) (stage_of c.hear.new.self c.hear.new.out) (next_heard c.args.next c.args.line.now) (heard_of c.cue.result) _ _ _ _ c.hear.ensures.does;
}

pub returns-in-Hand : goal.returns-in-Hand
returns-in-Hand g c = record {
  kept = keeps-hand c.hand.result (stage_of c.args.party.now c.args.out.now) (stage_of c.args.party.now c.hand.new.out) c.args.next c.args.line.now _ _ _ _ _ _ c.in-Hand.is refl c.hand.ensures.hands;
  logs = logs-hand c.hand.result (stage_of c.args.party.now c.args.out.now) (stage_of c.args.party.now c.hand.new.out) c.args.next c.args.line.now _ _ _ _ _ _ _ _ c.in-Hand.is refl c.hand.ensures.hands c.hand.ensures.none c.hand.ensures.logged;
}

pub returns-in-Search : goal.returns-in-Search
returns-in-Search g c =
    let stage : World Global → Stage = λ (w : World Global). record {
      at = record { fleet = record { talk = talk_of w c.args.party.now.fleet.session.waiting.items; met = c.args.party.now.fleet.limited; recalls = c.args.party.now.fleet.recalls }; out = out_of c.args.out.now };
      clients = c.args.party.now.clients;
      door = door_shown c.args.party.now.door;
      speakers = c.args.party.now.speakers.items;
      notes = c.args.party.now.notes.items;
      is_over = c.args.party.now.is_over;
      has_ended = c.args.party.now.has_ended;
    } in
    record {
      kept = keeps-same (stage_of c.args.party.now c.args.out.now) _ c.args.next c.args.line.now _ _ _ (ap (λ (n : Next). next_heard n c.args.line.now) c.in-Search.is) (ap stage c.search_ahead-searched.ensures) c.requires.within;
      logs = λ before ready. logs-same (stage_of c.args.party.now c.args.out.now) _ (next_heard c.args.next c.args.line.now) _ _ _ before _ (ap stage c.search_ahead-searched.ensures) ready;
    }

pub returns-in-Over : goal.returns-in-Over
returns-in-Over g c = record {
  kept = keeps-same (stage_of c.args.party.now c.args.out.now) (stage_of c.args.party.now c.args.out.now) c.args.next c.args.line.now _ _ _ (ap (λ (n : Next). next_heard n c.args.line.now) c.in-Over.is) refl c.requires.within;
  logs = λ before ready. logs-same (stage_of c.args.party.now c.args.out.now) (stage_of c.args.party.now c.args.out.now) (next_heard c.args.next c.args.line.now) _ _ _ before _ refl ready;
}
