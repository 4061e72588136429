-- One conversation after another was shown the tick.
use Rattle.std.proofs.Common.{◌≡◌, ◌∙◌, ◌<◌, ◌+◌, ◌-◌, ℕ, List, [], length, refl, sym, subst, arith, string_bytes}
use Rattle.std.specs.List.{range_with_len}
use Rattle.std.specs.Prelude.{MatchOption, Some, slice_get}
use Rattle.std.proofs.lemmas.Option.{slice_get_read}
use Rattle.live_fleet.specs.Act.{Act}
use Rattle.live_fleet.specs.declared.speaker.Speaker.{Speaker}
use Rattle.live_fleet.specs.Turning.{ShowsAt, ShowsTo}
use Rattle.live_fleet.specs.Went.{At, Each, at_of}
use Rattle.live_fleet.proofs.Parts.{loop-done, loop-next}
use Rattle.live_fleet.proofs.turning.show_tick.Goals as goal

pub loop-to-preserved : goal.loop-to-preserved
loop-to-preserved g c =
    let who = c.args.speakers.now in
    let to = c.loop-to.to in
    let sp = c.index-speakers-to.result in
    let less : to < length who = c.loop-to-test.true in
    let at : slice_get who to ≡ Some sp = slice_get_read who (length who) to sp refl less c.index-speakers-to.is in
    let (more, one) = c.in_ok-show.ensures.ok in
    let told = subst (λ (t : List ℕ). ShowsTo t sp to (at_of c.args.fleet.now c.loop-to.out) more (at_of c.args.fleet.now c.show.new.out)) c.as_bytes.ensures.value one in
    record {
      leaves = loop-next (ShowsAt (string_bytes c.in_ok-line.line) who) (range_with_len 0 (length who)) to (length who) (at_of c.args.fleet.now c.args.out.now) (at_of c.args.fleet.now c.loop-to.out) (at_of c.args.fleet.now c.show.new.out) less c.loop-to.invariant.leaves
          (more, subst (λ o. MatchOption o ((more ≡ []) × (at_of c.args.fleet.now c.show.new.out ≡ at_of c.args.fleet.now c.loop-to.out)) (λ (x : Speaker). ShowsTo (string_bytes c.in_ok-line.line) x to (at_of c.args.fleet.now c.loop-to.out) more (at_of c.args.fleet.now c.show.new.out))) (sym at) told);
      count = c.show.ensures.count ∙ c.loop-to.invariant.count;
    }

pub returns-clause-ok : goal.returns-clause-ok
returns-clause-ok g c =
    let who = c.args.speakers.now in
    let (acts, each) = loop-done (ShowsAt (string_bytes c.in_ok-line.line) who) (range_with_len 0 (length who)) c.loop-to.to (length who) (at_of c.args.fleet.now c.args.out.now) (at_of c.args.fleet.now c.loop-to.out)
    (omega (arith, c.loop-to-test.false)) c.loop-to.invariant.leaves in
    (acts, subst (λ (t : List ℕ). Each (ShowsAt t who) (range_with_len 0 (length who)) (at_of c.args.fleet.now c.args.out.now) acts (at_of c.args.fleet.now c.loop-to.out)) c.in_ok-line.ensures each)
