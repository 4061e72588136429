-- Once the fleet has ended, a conversation whose answer is said is told what is left.
use Rattle.std.proofs.Common.{◌≡◌, ◌<◌, List, length, refl, arith}
use Rattle.live_fleet.specs.Party.{Stage, stage_of}
use Rattle.live_fleet.proofs.Rested.{goes-on-yet, goes-then-ends}
use Rattle.live_fleet.proofs.party.Party.go_on.Goals as goal

pub returns-then-self : goal.returns-then-self
returns-then-self g c =
    let s : Stage = stage_of c.args.self.now c.args.out.now in
    let mid : Stage = stage_of c.go_once.new.self c.go_once.new.out in
    record {
      ok = goes-then-ends c.args.from s mid _ c.index_mut.result.now c.end_answer.new.speaker (omega (arith, c.requires.there, c.go_once.ensures.speakers, c.go_once.new.self.speakers.ok.0)) c.index_mut.ensures.value c.end_answer.ensures
          c.if-self.true refl c.in_ok-go_once.ensures.ok;
    }

pub returns-else-self : goal.returns-else-self
returns-else-self g c = record { ok = goes-on-yet c.args.from (stage_of c.args.self.now c.args.out.now) (stage_of c.go_once.new.self c.go_once.new.out) c.if-self.false c.in_ok-go_once.ensures.ok }
