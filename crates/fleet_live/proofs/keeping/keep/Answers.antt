-- One more step.
use Rattle.std.proofs.Common.{[], ◌++◌, refl, sym, append-nil}
use Rattle.live_fleet.specs.Out.{out_of}
use Rattle.live_fleet.specs.Party.{stage_of}
use Rattle.live_fleet.proofs.Doors.{plays-door}
use Rattle.fleet_live.proofs.Backed.{logs-more, logs-none}
use Rattle.fleet_live.proofs.Kept.{keeps-none}
use Rattle.fleet_live.proofs.Sound.{still-sound, waiting-sound}
use Rattle.fleet_live.proofs.keeping.keep.Goals as goal

pub loop-init : goal.loop-init
loop-init g c = record {
  heard = ([], sym (append-nil _), keeps-none (stage_of c.args.party.now c.args.out.now) _ _ _ c.requires.within, λ before ready. logs-none (stage_of c.args.party.now c.args.out.now) _ _ _ before _ ready);
  ready = c.requires.ready;
  within = c.requires.within;
  all = c.requires.sound;
  sound = waiting-sound (g.L.Listeners.kept c.args.listeners.now) (out_of c.args.out.now).chapters c.requires.sound;
  door = c.requires.door;
}

pub loop-preserved : goal.loop-preserved
loop-preserved g c =
    let (heard, took, keeps, logs) = c.loop.invariant.heard in
    let (before, ready) = c.loop.invariant.ready in
    let next = c.in_ok-go_on-in_default.ensures.logs before ready in
    let all = still-sound (stage_of c.loop.party c.loop.out) (stage_of c.go_on.new.party c.go_on.new.out) _ _ _ _ _ _ _ c.in_ok-go_on-in_default.ensures.kept c.loop.invariant.all in
    record {
      heard = logs-more (stage_of c.args.party.now c.args.out.now) (stage_of c.loop.party c.loop.out) (stage_of c.go_on.new.party c.go_on.new.out) heard _ _ _ _ _ _ _ _ _ _ _ _ _ _ _ _ _ _ _ took c.in_ok-next.ensures.taken refl c.deref.ensures.value keeps
          c.in_ok-go_on-in_default.ensures.kept logs c.in_ok-go_on-in_default.ensures.logs;
      ready = (before ++ next.given, next.ready);
      within = c.in_ok-go_on-in_default.ensures.kept.within;
      all = all;
      sound = waiting-sound (g.L.Listeners.kept c.go_on.new.listeners) (out_of c.go_on.new.out).chapters all;
      door = plays-door c.loop.invariant.door c.in_ok-go_on-in_default.ensures.kept.plays;
    }
