-- The answer of the conversation went on.
use Rattle.std.proofs.Common.{◌≡◌, ◌∙◌, ◌<◌, ℕ, List, length, Some, ap, sym, arith}
use Rattle.live_fleet.specs.Open.{turns_left}
use Rattle.live_fleet.specs.Party.{Stage, stage_of}
use Rattle.live_fleet.proofs.Rested.{goes-else, goes-ending, goes-ticking}
use Rattle.live_fleet.proofs.party.Party.go_once.Goals as goal

pub returns-in-Some-clause-ok : goal.returns-in-Some-clause-ok
returns-in-Some-clause-ok g c =
    let s : Stage = stage_of c.args.self.now c.args.out.now in
    goes-ticking c.tick_on.result c.args.from c.in-Some.left s (stage_of c.tick_on.new.self c.tick_on.new.out) c.index.result.now (omega (arith, c.requires.there, c.args.self.now.speakers.ok.0)) c.index.ensures
    (sym c.turns_left.ensures ∙ c.in-Some.is) c.tick_on.ensures.ok

pub returns-then-is_ending-clause-ok : goal.returns-then-is_ending-clause-ok
returns-then-is_ending-clause-ok g c =
    let s : Stage = stage_of c.args.self.now c.args.out.now in
    goes-ending c.tell_left.result c.args.from s (stage_of c.tell_left.new.self c.tell_left.new.out) c.index-2.result.now (omega (arith, c.requires.there, c.args.self.now.speakers.ok.0)) c.index-2.ensures
    (sym c.is_ending.ensures ∙ c.if-is_ending.true) c.tell_left.ensures.ok

pub returns-clause-ok : goal.returns-clause-ok
returns-clause-ok g c =
    let s : Stage = stage_of c.args.self.now c.args.out.now in
    goes-else c.say_left.result c.args.from s (stage_of c.say_left.new.self c.say_left.new.out) c.index.result.now c.index-2.result.now (omega (arith, c.requires.there, c.args.self.now.speakers.ok.0)) c.index.ensures c.index-2.ensures
    (λ n is. c.in_default.not-Some n (c.turns_left.ensures ∙ is)) (sym c.is_ending.ensures ∙ c.if-is_ending.false) c.say_left.ensures.ok
