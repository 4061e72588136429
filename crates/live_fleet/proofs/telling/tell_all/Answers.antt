-- One conversation after another was told.
use Rattle.std.proofs.Common.{◌≡◌, ◌∙◌, ◌≤◌, ◌<◌, ◌+◌, ◌-◌, ◌++◌, ℕ, Bool, List, [], length, refl, sym, subst, arith}
use Rattle.std.specs.List.{range_with_len}
use Rattle.std.specs.Prelude.{MatchOption, Some, slice_get}
use Rattle.std.proofs.lemmas.Option.{slice_get_read}
use Rattle.live_fleet.specs.Act.{Act}
use Rattle.live_fleet.specs.Went.{At, at_of}
use Rattle.live_fleet.specs.declared.speaker.Speaker.{Speaker}
use Rattle.live_fleet.specs.Telling.{TellsAt, TellsTo}
use Rattle.live_fleet.proofs.Parts.{leaves-zero, loop-done, loop-next}
use Rattle.live_fleet.proofs.telling.tell_all.Goals as goal

pub loop-to-init : goal.loop-to-init
loop-to-init g c = record { leaves = ([], leaves-zero (TellsAt c.args.speakers.now) (length c.args.speakers.now) (at_of c.args.fleet.now c.args.out.now)); count = refl }

pub loop-to-preserved : goal.loop-to-preserved
loop-to-preserved g c =
    let who = c.args.speakers.now in
    let to = c.loop-to.to in
    let sp = c.index-speakers-to.result in
    let less : to < length who = c.loop-to-test.true in
    let at : slice_get who to ≡ Some sp = slice_get_read who (length who) to sp refl less c.index-speakers-to.is in
    record {
      leaves = loop-next (TellsAt who) (range_with_len 0 (length who)) to (length who) (at_of c.args.fleet.now c.args.out.now)
          (at_of c.loop-to.fleet c.loop-to.out) (at_of c.tell.new.fleet c.tell.new.out) less c.loop-to.invariant.leaves
          (let (more, one) = c.in_ok-tell.ensures.ok in (more, subst (λ o. MatchOption o ((more ≡ []) × (at_of c.tell.new.fleet c.tell.new.out ≡ at_of c.loop-to.fleet c.loop-to.out)) (λ (x : Speaker). TellsTo x to (at_of c.loop-to.fleet c.loop-to.out) more (at_of c.tell.new.fleet c.tell.new.out))) (sym at) one));
      count = c.tell.ensures.count ∙ c.loop-to.invariant.count;
    }

pub returns-clause-ok : goal.returns-clause-ok
returns-clause-ok g c =
    loop-done (TellsAt c.args.speakers.now) (range_with_len 0 (length c.args.speakers.now)) c.loop-to.to (length c.args.speakers.now) (at_of c.args.fleet.now c.args.out.now)
    (at_of c.loop-to.fleet c.loop-to.out) (omega (arith, c.loop-to-test.false)) c.loop-to.invariant.leaves
