-- The conversation that is there has at most one turn left.
use Rattle.std.proofs.Common.{refl, arith}
use Rattle.live_fleet.specs.Party.{stage_of}
use Rattle.live_fleet.proofs.Rested.{hastens-of}
use Rattle.live_fleet.proofs.party.Party.hasten.Goals as goal

pub returns : goal.returns
returns g c =
    hastens-of c.args.from (stage_of c.args.self.now c.args.out.now) _ c.index_mut.result.now c.hasten.new.speaker (omega (arith, c.requires.there, c.args.self.now.speakers.ok.0)) c.index_mut.ensures.value c.hasten.ensures refl
