use Rattle.std.proofs.Common.{◌≡◌, length, refl, subst, sym, ◌∙◌, arith, Some, None}
use Rattle.std.specs.Prelude.{slice_index_or}
use Rattle.fleet_c.specs.declared.codes.TheConstants.{DONE}
use Rattle.fleet_c.specs.declared.request.Request.{Request}
use Rattle.fleet_c.specs.Batches.{TookMany, Requested}
use Rattle.fleet_c.proofs.InTurn.{took-next, rest-next, none-past}
use Rattle.fleet_c.proofs.batches.take_all.Goals as goal

abbrev none : Request
none = record { number = 0; kind = 0; client = 0; robot = 0; cell = 0 }

pub loop-at-preserved : goal.loop-at-preserved
loop-at-preserved c = (
  took-next c.args.fleet.now.refused.marks.items c.args.fleet.now.core c.args.requests.now c.loop-at.fleet.core c.take_one-code.new.fleet.core c.loop-at.judgements c.loop-at.at none c.take_one-code.new.judgement
      (omega (arith, c.loop-at.auto.judgements, c.requires, c.loop-at-test.true)) c.loop-at-test.true
      (subst (λ f. Requested f.marks.items c.loop-at.fleet.core (slice_index_or c.args.requests.now c.loop-at.at none) DONE c.take_one-code.new.judgement c.take_one-code.new.fleet.core) c.loop-at.invariant.2 (subst (λ code. Requested c.loop-at.fleet.refused.marks.items c.loop-at.fleet.core (slice_index_or c.args.requests.now c.loop-at.at none) code c.take_one-code.new.judgement c.take_one-code.new.fleet.core) c.if-code-ne-DONE.false c.take_one-code.ensures.says)) c.loop-at.invariant.0,
  rest-next c.loop-at.judgements c.args.judgements.now c.loop-at.at c.take_one-code.new.judgement c.loop-at.invariant.1,
  c.take_one-code.ensures.stays ∙ c.loop-at.invariant.2,
)

pub returns-clause-says : goal.returns-clause-says
returns-clause-says c =
    let all : c.loop-at.at ≡ length c.args.requests.now = omega (arith, c.loop-at.auto.at-end, c.loop-at-test.false) in
    record {
      fit = omega arith;
      taken = subst (λ k. TookMany c.args.fleet.now.refused.marks.items c.args.fleet.now.core c.args.requests.now c.loop-at.judgements k c.loop-at.fleet.core) all c.loop-at.invariant.0;
      rest = λ k d l. c.loop-at.invariant.1 k d (omega (arith, all));
      all = λ _. refl;
      stopped = λ r e. absurd (some-none (sym e ∙ none-past c.args.requests.now (length c.args.requests.now) (omega arith)));
    }
  where
    some-none : {X : Type 0} {x : X} → Some x ≡ None → ⊥
    some-none e = cc
