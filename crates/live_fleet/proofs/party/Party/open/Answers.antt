-- What was posted is judged, and the list begins.
use Rattle.std.proofs.Common.{◌∙◌, ◌<◌, List, length, refl, ap, arith, Vec, Global}
use Rattle.std.specs.Prelude.{slice_get}
use Rattle.live_fleet.specs.declared.speaker.Speaker.{Speaker}
use Rattle.live_fleet.specs.Party.{Stage, resting, stage_of}
use Rattle.live_fleet.proofs.Answered.{read-there, with-new}
use Rattle.live_fleet.proofs.party.Party.open.Goals as goal

pub returns : goal.returns
returns g c =
    let mid : Stage = stage_of c.settle.new.self c.settle.new.out in
    let read = c.index_mut.result.now in
    let left = c.in_ok-rest.rest in
    let less : c.args.place.to < length mid.speakers = omega (arith, c.requires.there, ap (λ (v : Vec Speaker Global). length v.items) c.settle.ensures.speakers, c.args.self.now.speakers.ok.0) in
    record {
      ok = λ sp there. let (acts, settles) = c.in_ok-settle.ensures.ok in (
        acts,
        record {
          mid = mid;
          settles = settles;
          left = left;
          lists = c.in_ok-rest.ensures;
          is = with-new mid c.args.place.to sp read (resting read left) left
              (read-there mid.speakers c.args.place.to read sp less c.index_mut.ensures.value (ap (λ (v : Vec Speaker Global). slice_get v.items c.args.place.to) c.settle.ensures.speakers ∙ there)) refl;
        },
      );
    }
