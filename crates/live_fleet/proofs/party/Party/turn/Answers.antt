-- A turn was made and shown, or none was.
use Rattle.std.proofs.Common.{List, [], refl, subst, true, false}
use Rattle.std.proofs.lemmas.Result.{on_ok_weaker}
use Rattle.live_fleet.specs.declared.speaker.Speaker.{Speaker}
use Rattle.live_fleet.specs.Act.{Act}
use Rattle.live_fleet.specs.Turning.{Shows, Turns}
use Rattle.live_fleet.specs.Party.{Stage, stage_of, with_at}
use Rattle.live_fleet.specs.Went.{at_of}
use Rattle.live_fleet.proofs.Rested.{turn-of}
use Rattle.live_fleet.proofs.party.Party.turn.Goals as goal

pub returns-then-is_ticked : goal.returns-then-is_ticked
returns-then-is_ticked g c =
    let s : Stage = stage_of c.args.self.now c.args.out.now in
    let turns = subst (λ (who : List Speaker). (acts : List Act) × Turns who s.clients c.in_ok-reply.reply s.at acts (at_of c.turn.new.fleet c.turn.new.out)) c.deref.ensures.value c.in_ok-reply.ensures.ok in
    record {
      ok = on_ok_weaker c.show_tick.result
          (λ shows. turn-of true c.in_ok-reply.reply s (with_at s (at_of c.turn.new.fleet c.turn.new.out)) (with_at s (at_of c.turn.new.fleet c.show_tick.new.out)) c.is_ticked.result c.if-is_ticked.true c.is_ticked.ensures turns refl
          (let (acts, it) = shows in (acts, (subst (λ (who : List Speaker). Shows who (at_of c.turn.new.fleet c.turn.new.out) acts (at_of c.turn.new.fleet c.show_tick.new.out)) c.deref-then-is_ticked.ensures.value it, refl)))) c.show_tick.ensures.ok;
    }

pub returns : goal.returns
returns g c =
    let s : Stage = stage_of c.args.self.now c.args.out.now in
    let mid : Stage = with_at s (at_of c.turn.new.fleet c.turn.new.out) in
    let turns = subst (λ (who : List Speaker). (acts : List Act) × Turns who s.clients c.in_ok-reply.reply s.at acts (at_of c.turn.new.fleet c.turn.new.out)) c.deref.ensures.value c.in_ok-reply.ensures.ok in
    record { ok = turn-of false c.in_ok-reply.reply s mid (record mid { is_over = true }) c.is_ticked.result c.if-is_ticked.false c.is_ticked.ensures turns refl ([], (refl, refl)) }
