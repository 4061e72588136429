-- A turn was made, and shown or answered.
use Rattle.std.proofs.Common.{List, refl, subst, true, false}
use Rattle.std.proofs.lemmas.Result.{on_ok_weaker}
use Rattle.live_fleet.specs.declared.speaker.Speaker.{Speaker}
use Rattle.live_fleet.specs.Act.{Act}
use Rattle.live_fleet.specs.Turning.{Turns}
use Rattle.live_fleet.specs.Party.{Stage, stage_of, with_at}
use Rattle.live_fleet.specs.Went.{at_of}
use Rattle.live_fleet.proofs.Rested.{ticks-of, ticks-then}
use Rattle.live_fleet.proofs.party.Party.tick_on.Goals as goal

pub returns-then-goes_on-clause-ok : goal.returns-then-goes_on-clause-ok
returns-then-goes_on-clause-ok g c =
    let s : Stage = stage_of c.args.self.now c.args.out.now in
    let mid : Stage = with_at s (at_of c.turn.new.fleet c.turn.new.out) in
    let t : Stage = stage_of c.show_turn.new.self c.show_turn.new.out in
    let reply = c.in_ok-reply.reply in
    let turns = subst (λ (who : List Speaker). (acts : List Act) × Turns who s.clients reply s.at acts mid.at) c.deref.ensures.value c.in_ok-reply.ensures.ok in
    on_ok_weaker c.show_turn.result
    (λ it sp mark there was. ticks-of c.args.to sp mark c.args.left reply s mid t turns refl
    (ticks-then true c.args.to sp mark c.args.left reply mid t c.goes_on.result c.if-goes_on.true c.goes_on.ensures (it sp mark c.args.left there was))) c.show_turn.ensures.ok

pub returns-clause-ok : goal.returns-clause-ok
returns-clause-ok g c =
    let s : Stage = stage_of c.args.self.now c.args.out.now in
    let mid : Stage = with_at s (at_of c.turn.new.fleet c.turn.new.out) in
    let t : Stage = stage_of c.answer_ticks.new.self c.answer_ticks.new.out in
    let reply = c.in_ok-reply.reply in
    let turns = subst (λ (who : List Speaker). (acts : List Act) × Turns who s.clients reply s.at acts mid.at) c.deref.ensures.value c.in_ok-reply.ensures.ok in
    on_ok_weaker c.answer_ticks.result
    (λ it sp mark there was. ticks-of c.args.to sp mark c.args.left reply s mid t turns refl
    (ticks-then false c.args.to sp mark c.args.left reply mid t c.goes_on.result c.if-goes_on.false c.goes_on.ensures (it sp mark c.args.left there was))) c.answer_ticks.ensures.ok
