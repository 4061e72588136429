-- One conversation after another was answered, if it waits for this chapter.
use Rattle.std.proofs.Common.{◌≡◌, ◌∙◌, ◌<◌, ℕ, List, [], length, refl, sym, arith, Vec, Global}
use Rattle.std.specs.List.{range_with_len}
use Rattle.std.proofs.lemmas.List.{length-map}
use Rattle.live_fleet.specs.Party.{Stage, stage_of}
use Rattle.live_fleet.specs.Resting.{KeptAt}
use Rattle.live_fleet.proofs.Parts.{loop-done, loop-next}
use Rattle.live_fleet.proofs.Rested.{kept-step}
use Rattle.live_fleet.proofs.party.Party.note_kept.Goals as goal

pub loop-to-preserved : goal.loop-to-preserved
loop-to-preserved g c =
    let size = length-map c.loop-to.out.texts.items (λ (t : Vec ℕ Global). t.items) in
    let many = length c.args.self.now.speakers.items in
    record {
      leaves = loop-next (KeptAt c.args.number) (range_with_len 0 many) c.loop-to.to many (stage_of c.args.self.now c.args.out.now) (stage_of c.loop-to.self c.loop-to.out) _
          (omega (arith, c.loop-to-test.true, c.args.self.now.speakers.ok.0)) c.loop-to.invariant.leaves
          (kept-step c.args.number c.loop-to.to (stage_of c.loop-to.self c.loop-to.out) _ c.index_mut.result.now c.note_kept_of.new.speaker
          (omega (arith, c.loop-to-test.true, c.requires.texts, c.loop-to.invariant.count, c.loop-to.out.texts.ok.0, size)) refl refl
          (omega (arith, c.loop-to-test.true, c.loop-to.invariant.speakers, c.loop-to.self.speakers.ok.0)) c.index_mut.ensures.value c.note_kept_of.ensures.same c.in_ok-note_kept_of.ensures.ok);
      speakers = c.loop-to.invariant.speakers;
      count = c.note_kept_of.ensures.count ∙ c.loop-to.invariant.count;
    }

pub returns : goal.returns
returns g c = record {
  ok = loop-done (KeptAt c.args.number) (range_with_len 0 (length c.args.self.now.speakers.items)) c.loop-to.to (length c.args.self.now.speakers.items) (stage_of c.args.self.now c.args.out.now) (stage_of c.loop-to.self c.loop-to.out)
      (omega (arith, c.loop-to-test.false, c.args.self.now.speakers.ok.0)) c.loop-to.invariant.leaves;
}
